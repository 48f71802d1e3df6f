-- Operations that stay apart don't meet: `apart_dont_meet`. What one leaves of a file, the other finds as it was, and both orders leave the same bytes.
use Rattle.std.proofs.Common.{◌≡◌, ℕ, zero, suc, ◌+◌, ◌-◌, ◌≤◌, ℤ, Bool, true, cond, List, [], ◌∷◌, length, drop, get_or, refl, ap, arith, ◌⊎◌}
use Rattle.uring_laws.proofs.Common.{ApartDontMeet, FileContents, Op, Write, after, are_on_others, cond-true, ended_with, get_or-drop, leb-true, length-drop, length-take, on_file, or_cases, overwritten, read_outcome, result_of, slice_set, stay_apart_on_one, true≢false, with_changed, with_writes_synced}
use Rattle.std.proofs.lemmas.Grind.{same_number_lists}
use Rattle.uring_files.proofs.OperationCases.{cases}
use Rattle.uring_files.proofs.Overwrites.{is_written_over}
use Rattle.uring_files.proofs.StandAlone.{changed_same, changed_other, others_stay, ends_apart}
use Rattle.uring_files.specs.Laws.{IsWrittenOver}

-- Bytes written over others.

-- bytes written over others, in both orders
some_over : (old a b with_a with_b left right : List ℕ) (o p : ℕ) → IsWrittenOver old a o with_a
    → IsWrittenOver old b p with_b → IsWrittenOver with_a b p left → IsWrittenOver with_b a o right
    → (o + length a ≤ p) ⊎ (p + length b ≤ o)
    → left ≡ right
some_over old a b with_a with_b left right o p wa wb wl wr apart = grind (arith, same_number_lists, get_or)

over_either : (old a b : List ℕ) (o p : ℕ) → (o + length a ≤ p) ⊎ (p + length b ≤ o)
    → overwritten (overwritten old o a) p b ≡ overwritten (overwritten old p b) o a
over_either old [] b o p apart = refl
over_either old (x ∷ a) [] o p apart = refl
over_either old (x ∷ a) (y ∷ b) o p apart =
    let f : 1 ≤ length (x ∷ a) = omega arith in
    let k : 1 ≤ length (y ∷ b) = omega arith in
    some_over old (x ∷ a) (y ∷ b) _ _ _ _ o p (is_written_over old (x ∷ a) o f) (is_written_over old (y ∷ b) p k) (is_written_over (overwritten old o (x ∷ a)) (y ∷ b) p k) (is_written_over (overwritten old p (y ∷ b)) (x ∷ a) o f) apart

-- what lies after the bytes that were written
after_over : (old new : List ℕ) (off at : ℕ) → off + length new ≤ at
    → (drop at (overwritten old off new) ≡ drop at old) × (length (overwritten old off new) - at ≡ length old - at)
after_over old new off at past = grind (arith, is_written_over, same_number_lists, length-drop, get_or-drop, cond-true)

-- Files of which some are changed.

-- two changes, of different files or of one file in any order
set_either : {X : Type 0} (xs : List X) (i j : ℕ) (d : X) (f g : X → X)
    → (i ≡ j → (x : X) → g (f x) ≡ f (g x))
    → slice_set (slice_set xs i (f (get_or xs i d))) j (g (get_or (slice_set xs i (f (get_or xs i d))) j d))
    ≡ slice_set (slice_set xs j (g (get_or xs j d))) i (f (get_or (slice_set xs j (g (get_or xs j d))) i d))
set_either [] i j d f g same = refl
set_either (x ∷ xs) zero zero d f g same = ap (λ y. y ∷ xs) (same refl x)
set_either (x ∷ xs) (suc i) (suc j) d f g same = grind (arith, (set_either xs i j d f g (λ e. same (ap suc e))))
set_either (x ∷ xs) i j d f g same = grind arith

-- the same where each is made if some test is passed
chosen_either : (a b : Bool) (files : List FileContents) (fd other : ℤ) (f g : FileContents → FileContents)
    → (fd ≡ other → (x : FileContents) → g (f x) ≡ f (g x))
    → cond b (with_changed (cond a (with_changed files fd f) files) other g) (cond a (with_changed files fd f) files)
    ≡ cond a (with_changed (cond b (with_changed files other g) files) fd f) (cond b (with_changed files other g) files)
chosen_either true true files fd other f g same = grind (arith, set_either)
chosen_either _ _ files fd other f g same = refl

-- What an operation gives where another was carried out.

-- On different files, whichever operations they are.

gives_on_one : (files : List FileContents) (d e : Op) (res : ℤ) → stay_apart_on_one d e ≡ true
    → result_of (after files d res) e ≡ result_of files e
gives_on_one files d e res apart =
    grind (arith, read_outcome, leb-true, length-take, ended_with, with_writes_synced, true≢false, after_over, on_file, changed_same, changed_other)

-- Which files both orders leave.

leaves_elsewhere : (files : List FileContents) (d e : Op) (x y : ℤ) → are_on_others d e ≡ true
    → after (after files d x) e y ≡ after (after files e y) d x
leaves_elsewhere files d e x y apart = grind (arith, (cases d), (cases e), cond, chosen_either)

leaves_on_one : (files : List FileContents) (d e : Op) (x y : ℤ) → stay_apart_on_one d e ≡ true
    → after (after files d x) e y ≡ after (after files e y) d x
leaves_on_one files (Write fd off len bytes) (Write other at count more) x y apart =
    chosen_either _ _ files fd other _ _ (λ same file. grind (arith, over_either, or_cases, length-take))
leaves_on_one files d e x y apart = grind (arith, chosen_either)

pub apart_dont_meet : ApartDontMeet
apart_dont_meet files d e x y apart one two = grind (arith, gives_on_one, ends_apart, others_stay, leaves_elsewhere, leaves_on_one)
