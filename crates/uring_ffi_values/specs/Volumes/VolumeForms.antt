-- What a call on a volume writes for C.
use Rattle.std.specs.Prelude.{◌≡◌, ℕ, ℤ, neg_ℤ, ◌<◌, ◌≤◌, ◌-◌, ◌^◌, min, List, [], ◌∷◌, ◌++◌, map, length, slice_index}
use Rattle.uring_volume.specs.Images.{IsImage}
use Rattle.uring_volume.specs.Choices.{IsLeftBy}
use Rattle.uring_volume.specs.Listing.{AreTheImages}
use Rattle.uring_volume.specs.Volume.{Volume, IsShown}
use Rattle.uring_entry.specs.declared.errno.TheConstants.{EBADF, ENOENT}
use Rattle.uring_ffi_values.specs.declared.machines.crash_machine_memory.TheConstants.{ENOTRECOVERABLE}

-- Room for bytes holds as many of these as it has room for, and what was there after them; and their number is told.
pub record IsGiven (now old new : List ℕ) (len : ℕ) : Type 0 where
  pub total : len ≡ length now
  pub bytes : (k : ℕ) → k < length now → k < length new → slice_index new k ≡ slice_index now k
  pub rest : (k : ℕ) → length now ≤ k → slice_index new k ≡ slice_index old k

-- what a read of a volume shows was given
pub record TellsContents (v : Volume) (old new : List ℕ) (len : ℕ) : Type 0 where
  pub now : List ℕ
  pub shown : IsShown v.first v.history now
  pub given : IsGiven now old new len

-- what a choice leaves of a volume was given, and is an image
pub record TellsCrash (v : Volume) (choice old new : List ℕ) (len : ℕ) : Type 0 where
  pub now : List ℕ
  pub left : IsLeftBy v.unit v.first v.history choice now
  pub image : IsImage v.unit v.first v.history now
  pub given : IsGiven now old new len

-- how many images a volume has was told, or 2^64 - 1 if there are more
pub record TellsCount (v : Volume) (count : ℕ) : Type 0 where
  pub all : List (List ℕ)
  pub images : AreTheImages v.unit v.first v.history all
  pub told : count ≡ min (length all) (2 ^ 64 - 1)

-- lists of bytes, one after another
abbrev pub laid_out : List (List ℕ) → List ℕ
laid_out [] = []
laid_out (bytes ∷ more) = bytes ++ laid_out more

-- the images of a volume were given, one after another, and the length of each
pub record TellsImages (v : Volume) (old new lens_old lens_new : List ℕ) (count total : ℕ) : Type 0 where
  pub all : List (List ℕ)
  pub images : AreTheImages v.unit v.first v.history all
  pub lens : IsGiven (map (λ bytes. length bytes) all) lens_old lens_new count
  pub bytes : IsGiven (laid_out all) old new total

-- there are more images of a volume than so many
pub record HasMore (v : Volume) (most : ℕ) : Type 0 where
  pub all : List (List ℕ)
  pub images : AreTheImages v.unit v.first v.history all
  pub more : most < length all

-- what is told of a volume that is there is no refusal of its place
abbrev pub TellsNoPlace : ℤ → Type 0
TellsNoPlace result =
    (result ≡ neg_ℤ EBADF → ⊥) × (result ≡ neg_ℤ ENOTRECOVERABLE → ⊥) × (result ≡ neg_ℤ ENOENT → ⊥)
