-- What an operation makes of the file at a place, which its descriptor names.
use Rattle.std.proofs.Common.{◌≡◌, arith, ℕ, ◌<◌, ℤ, pos, neg_ℤ, not, ◌&&◌, Bool, true, cond, List, length, get_or, Some, refl, sym, ap, ◌⊎◌}
use Rattle.std.proofs.lemmas.List.{get_or_default, set-get_or}
use Rattle.std.proofs.lemmas.Option.{slice_get_read}
use Rattle.uring_entry.specs.declared.errno.TheConstants.{EFBIG, ENOMEM}
use Rattle.uring_entry.specs.declared.operation.Op.TheVariants.{Write}
use Rattle.uring_files.proofs.Common.{FileContents, IsOutcome, Outcome, empty_file, ended_with, file_of, if◌then◌else◌, is_past_end, is_too_long, on_file, slice_set, with_changed}

-- The file of a descriptor is at a place.
pub record IsAt (files : List FileContents) (fd : ℤ) (place : ℕ) (was : FileContents) : Type 0 where
  pub named : fd ≡ pos place
  pub within : place < length files
  pub there : was ≡ get_or files place was

file_at : (files : List FileContents) (fd : ℤ) (place : ℕ) (was : FileContents) → IsAt files fd place was
    → file_of files fd ≡ Some was
file_at files fd place was at = rw at.named (slice_get_read files (length files) place was refl at.within at.there)

pub ends_at : (files : List FileContents) (fd : ℤ) (place : ℕ) (was : FileContents) (ends : FileContents → Outcome)
    → IsAt files fd place was → ends was ≡ on_file (file_of files fd) ends
ends_at files fd place was ends at = ap (λ o. on_file o ends) (sym (file_at files fd place was at))

-- how a write of a file ended
pub written_at : (files : List FileContents) (fd : ℤ) (place off len : ℕ) (bytes : List ℕ) (was : FileContents) (res : ℤ)
    → IsAt files fd place was
    → (res ≡ (if is_too_long off len then neg_ℤ EFBIG else pos len)) ⊎ (((not (is_too_long off len) && is_past_end off len was) ≡ true) × (res ≡ neg_ℤ ENOMEM))
    → IsOutcome files (Write fd off len bytes) (ended_with res)
written_at files fd place off len bytes was res at ends = grind (arith, (file_at files fd place was at))

-- and the files after a change of one
pub files_at : (good : Bool) (files : List FileContents) (fd : ℤ) (place : ℕ) (was now : FileContents) (change : FileContents → FileContents)
    → IsAt files fd place was → now ≡ cond good (change was) was
    → slice_set files place now ≡ cond good (with_changed files fd change) files
files_at good files fd place was now change at is =
    grind (arith, at.named, at.there, (get_or_default files place was empty_file at.within), (set-get_or files place was))
