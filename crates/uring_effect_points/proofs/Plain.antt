-- No outcome tells what a file counts: operations give the same on files without their counts, and leave the same bytes.
use Rattle.std.proofs.Common.{◌≡◌, ℕ, ℤ, zero, suc, pos, negsuc, Bool, List, [], ◌∷◌, Some, None, length, map, take, get_or, refl, sym, ap, ◌∙◌, inl, inr, ◌++◌, ◌+◌, ◌<◌, arith}
use Rattle.uring_effect_points.proofs.Common.{FileContents, IsOutcome, Op, Outcome, after, cases_lt, empty_file, ext_get_or, file_of, get_or_from_slice_get, if◌then◌else◌, is_lengthening, length-map, map-set, option_map, plain, replicate, result_of, slice_get, slice_get-get_or, slice_get-map, slice_get_past, slice_index_or, slice_set, take_all, take_more, with_changed}
use Rattle.std.proofs.Math.ListN.{get_or-map}
use Rattle.uring_files.proofs.OperationCases.{many_after}

file_plain : (files : List FileContents) (fd : ℤ) → file_of (map plain files) fd ≡ option_map plain (file_of files fd)
file_plain files (pos fd) = slice_get-map plain files fd
file_plain files (negsuc below) = refl

pub result_plain : (files : List FileContents) (op : Op) → result_of (map plain files) op ≡ result_of files op
result_plain files op = grind (arith, file_plain)

pub lengthens_plain : (files : List FileContents) (op : Op) → is_lengthening (map plain files) op ≡ is_lengthening files op
lengthens_plain files op = grind (arith, map, file_plain)

-- what they give on plain ones they give on these, and the other way round

pub outcome_back : (files : List FileContents) (op : Op) (o : Outcome) → IsOutcome (map plain files) op o
    → IsOutcome files op o
outcome_back files op o h = grind (arith, result_plain, lengthens_plain)

pub outcome_plain : (files : List FileContents) (op : Op) (o : Outcome) → IsOutcome files op o
    → IsOutcome (map plain files) op o
outcome_plain files op o h = grind (arith, result_plain, lengthens_plain)

-- and leave the same bytes

pub plain_twice : (files : List FileContents) → map plain (map plain files) ≡ map plain files
plain_twice [] = refl
plain_twice (f ∷ files) = ap (λ (fs : List FileContents). plain f ∷ fs) (plain_twice files)

changed_plain : (files : List FileContents) (fd : ℤ) (change : FileContents → FileContents)
    → ((f : FileContents) → plain (change (plain f)) ≡ plain (change f))
    → map plain (with_changed (map plain files) fd change) ≡ map plain (with_changed files fd change)
changed_plain files (pos fd) change same =
    map-set plain (map plain files) fd (change (slice_index_or (map plain files) fd empty_file))
    ∙ ap (λ (fs : List FileContents). slice_set fs fd (plain (change (slice_index_or (map plain files) fd empty_file)))) (plain_twice files)
    ∙ ap (λ (f : FileContents). slice_set (map plain files) fd (plain (change f))) (get_or-map plain files fd empty_file)
    ∙ ap (λ (f : FileContents). slice_set (map plain files) fd f) (same (slice_index_or files fd empty_file))
    ∙ sym (map-set plain files fd (change (slice_index_or files fd empty_file)))
changed_plain files (negsuc below) change same = plain_twice files

either_plain : (b : Bool) (files : List FileContents) (fd : ℤ) (change : FileContents → FileContents)
    → ((f : FileContents) → plain (change (plain f)) ≡ plain (change f))
    → map plain (if b then with_changed (map plain files) fd change else map plain files) ≡ map plain (if b then with_changed files fd change else files)
either_plain b files fd change same = grind (arith, changed_plain, plain_twice)

pub after_plain : (files : List FileContents) (op : Op) (res : ℤ)
    → map plain (after (map plain files) op res) ≡ map plain (after files op res)
after_plain files op res = grind (arith, plain_twice, either_plain)

-- they stay as many
pub after_length : (files : List FileContents) (op : Op) (res : ℤ)
    → length (map plain (after files op res)) ≡ length files
after_length files op res = length-map (after files op res) plain ∙ many_after files op res

-- new ones count nothing
pub plain_new : (count : ℕ) → map plain (replicate count empty_file) ≡ replicate count empty_file
plain_new zero = refl
plain_new (suc count) = ap (λ (fs : List FileContents). empty_file ∷ fs) (plain_new count)

-- one byte more was read, or there is none

pub read_more : (bs items new : List ℕ) (at b : ℕ) → items ≡ take at bs → new ≡ items ++ b ∷ []
    → Some b ≡ slice_get bs at → new ≡ take (at + 1) bs
read_more bs items new at b so_far more is = grind (arith, (get_or_from_slice_get bs at b 0 (sym is)), take_more, slice_get_past)

pub read_none : (bs items : List ℕ) (at : ℕ) → items ≡ take at bs → None ≡ slice_get bs at
    → items ≡ take (at + 1) bs
read_none bs items at so_far is = elim (cases_lt at (length bs)) [
  | inl low ↦ absurd (let f : None ≡ Some (get_or bs at 0) = is ∙ slice_get-get_or bs at 0 low in cc)
  | inr past ↦ so_far ∙ take_all at bs past ∙ sym (take_all (at + 1) bs (omega (arith, past)))
]

-- files that are the same at each place but for their counts
pub same_plain_files : (xs ys : List FileContents) (count : ℕ) → length xs ≡ count → length ys ≡ count
    → ((k : ℕ) → k < count → plain (get_or xs k empty_file) ≡ plain (get_or ys k empty_file))
    → map plain xs ≡ map plain ys
same_plain_files xs ys count xs_count ys_count same =
    ext_get_or empty_file (map plain xs) (map plain ys) (length-map xs plain ∙ xs_count ∙ sym ys_count ∙ sym (length-map ys plain)) (λ k low. get_or-map plain xs k empty_file ∙ same k (omega (arith, low, length-map xs plain, xs_count)) ∙ sym (get_or-map plain ys k empty_file))
