-- Each file stands by itself: the laws of `files_stand_alone` as lemmas, of whatever operation there is.
-- Stable: other crates may import what is pub.
use Rattle.std.proofs.Common.{◌≡◌, arith, ◌≢◌, ℕ, zero, suc, ℤ, pos, negsuc, Bool, false, cond, List, [], ◌∷◌, get_or, refl, ap, inl, inr}
use Rattle.uring_files.proofs.Common.{AgreeAt, Decides-int_eq, EndsStandAlone, FileContents, FilesStandAlone, OthersStay, both_ways, cases_Bool, empty_file, file_of, int_eq, option_map, slice_get, slice_set, with_changed}
use Rattle.std.proofs.lemmas.Cmp.{int_eq_equiv}
use Rattle.uring_files.proofs.OperationCases.{cases}

-- what stands at a place after one was set

set_same : {X : Type 0} (xs : List X) (i : ℕ) (d : X) (change : X → X)
    → slice_get (slice_set xs i (change (get_or xs i d))) i ≡ option_map change (slice_get xs i)
set_same [] i d change = refl
set_same (x ∷ xs) zero d change = refl
set_same (x ∷ xs) (suc i) d change = set_same xs i d change

set_other : {X : Type 0} (xs : List X) (i j : ℕ) (x : X) → j ≢ i
    → slice_get (slice_set xs i x) j ≡ slice_get xs j
set_other [] i j x differ = refl
set_other (y ∷ ys) zero zero x differ = absurd (differ refl)
set_other (y ∷ ys) zero (suc j) x differ = refl
set_other (y ∷ ys) (suc i) zero x differ = refl
set_other (y ∷ ys) (suc i) (suc j) x differ = set_other ys i j x (λ e. differ (ap suc e))

-- the file of a descriptor after that of one was changed

pub changed_same : (files : List FileContents) (fd : ℤ) (change : FileContents → FileContents)
    → file_of (with_changed files fd change) fd ≡ option_map change (file_of files fd)
changed_same files (pos fd) change = set_same files fd empty_file change
changed_same files (negsuc below) change = refl

pub changed_other : (files : List FileContents) (own fd : ℤ) (change : FileContents → FileContents)
    → fd ≢ own → file_of (with_changed files own change) fd ≡ file_of files fd
changed_other files (pos k) (pos j) change differ = set_other files k j _ (λ e. differ (ap pos e))
changed_other files (pos k) (negsuc below) change differ = refl
changed_other files (negsuc below) fd change differ = refl

pub unlike : (x y : ℤ) → int_eq x y ≡ false → x ≢ y
unlike x y e same = both_ways _ e ((Decides-int_eq x y).1 same)

-- a change of one file, if some test is passed

chosen_other : (chosen : Bool) (files : List FileContents) (own fd : ℤ) (change : FileContents → FileContents)
    → int_eq fd own ≡ false
    → file_of (cond chosen (with_changed files own change) files) fd ≡ file_of files fd
chosen_other chosen files own fd change differ = grind (arith, changed_other, (unlike fd own differ))

chosen_apart : (chosen : Bool) (files others : List FileContents) (own fd : ℤ) (change : FileContents → FileContents)
    → AgreeAt fd files others
    → AgreeAt fd (cond chosen (with_changed files own change) files) (cond chosen (with_changed others own change) others)
chosen_apart chosen files others own fd change same =
    elim (cases_Bool (int_eq fd own)) [
      | inl here ↦ let e : fd ≡ own = (Decides-int_eq fd own).0 here in grind (arith, (changed_same files fd change), (changed_same others fd change))
      | inr differ ↦ grind (arith, (chosen_other chosen files own fd change differ), (chosen_other chosen others own fd change differ))
    ]

pub others_stay : OthersStay
others_stay files op res fd other = elim (cases op) [
  | inl idle ↦ rw (idle.after files res) refl
  | inr busy ↦ rw (busy.1.after files res) (chosen_other _ files busy.0.fd fd busy.0.change (rw busy.1.asked at other))
]

pub files_apart : FilesStandAlone
files_apart files others op res fd same = elim (cases op) [
  | inl idle ↦ rw (idle.after files res, idle.after others res) same
  | inr busy ↦ rw (busy.1.after files res, busy.1.after others res) (chosen_apart _ files others busy.0.fd fd busy.0.change same)
]

pub ends_apart : EndsStandAlone
ends_apart files others op agree = elim (cases op) [
  | inl idle ↦ (cc (idle.ends files, idle.ends others), cc (idle.lengthens files, idle.lengthens others))
  | inr busy ↦
      let own = agree busy.0.fd (rw busy.1.asked (int_eq_equiv.refl busy.0.fd)) in
      (cc (busy.1.ends files, own, busy.1.ends others), cc (busy.1.lengthens files, own, busy.1.lengthens others))
]
