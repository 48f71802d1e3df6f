-- What is kept of the requests that are due holds each of them.
use Rattle.std.proofs.Common.{◌≡◌, ℕ, ◌-◌, ◌≤◌, ◌<◌, Bool, true, not, ◌&&◌, ◌||◌, nat_le, nat_lt, List, [], ◌∷◌, ◌++◌, Some, None, sym, subst, ◌∙◌, inl, inr, arith, if◌then◌else◌}
use Rattle.uring_enter.proofs.Common.{and_parts, cases_Bool, false≢true, min}
use Rattle.uring_enter.specs.declared.going_on.due.Due.{Due}
use Rattle.uring_enter.specs.GoingOn.Due.{Happening, Noted, FoundBefore, KeepsDue, cut, may_be_up_to, notes_up_to, IsIn, LooksAtNoneAgain}

or_second : (b c : Bool) → c ≡ true → (b || c) ≡ true
or_second b c is = grind arith

or_first : (b c : Bool) → b ≡ true → (b || c) ≡ true
or_first b c is = grind arith

pub found : (log : List Happening) (d : Due) (end : ℕ) → KeepsDue log d → KeepsDue (FoundBefore end ∷ log) (cut d end)
found log d end keeps = grind arith

up_to_by : (newer earlier : List Happening) (found number : ℕ) → number < found
    → may_be_up_to (newer ++ FoundBefore found ∷ earlier) number ≡ true → notes_up_to newer number ≡ true
up_to_by [] earlier found number low is = grind arith
up_to_by (Noted n ∷ newer) earlier found number low is =
    elim (cases_Bool (nat_le n number)) [
      | inl le ↦ or_first (nat_le n number) (notes_up_to newer number) le
      | inr more ↦
          or_second (nat_le n number) (notes_up_to newer number)
          (up_to_by newer earlier found number low
          (subst (λ b. (b || may_be_up_to (newer ++ FoundBefore found ∷ earlier) number) ≡ true) more is))
    ]
up_to_by (FoundBefore end ∷ newer) earlier found number low is =
    up_to_by newer earlier found number low
    (and_parts (not (nat_lt number end)) (may_be_up_to (newer ++ FoundBefore found ∷ earlier) number) is).1

in_span : (any low : Bool) (first last end number : ℕ)
    → IsIn number (if any && low then Some (record { first = first; last = min last (end - 1) }) else None)
    → (any ≡ true) × (first ≤ number)
in_span any low first last end number is = grind arith

pub looks_at_none_again : LooksAtNoneAgain
looks_at_none_again newer earlier d found number end keeps low none is =
    let kept = in_span d.is_any (nat_lt d.first end) d.first d.last end number is in
    false≢true (sym none ∙ up_to_by newer earlier found number low (keeps.first number kept.0 kept.1))
