-- The laws of provided buffers.
use Rattle.std.proofs.Common.{◌≡◌, ℕ, ◌-◌, ◌<◌, ◌≤◌, inl, inr, refl, List, [], ◌∷◌, ◌++◌, ◌∙◌, sym, subst, arith}
use Rattle.std.proofs.lemmas.Bool.{cases_lt}
use Rattle.std.proofs.Math.Pow.{mod-mod-pow}
use Rattle.uring_register.specs.Buffers.Provided.{Change, Provided, Removed, Took, Registered, Unregistered, provided, nth}
use Rattle.uring_register.specs.Buffers.ProvidedLaws.{IsProvided, GivesWhatWasProvided, KeepsWhatWasProvided, TakesNoMore, TakesInOrder, TakesCellsInTurn}

pub takes_no_more : TakesNoMore
takes_no_more [] = omega arith
takes_no_more (Provided asked ∷ earlier) = let before = takes_no_more earlier in omega (arith, before)
takes_no_more (Removed count ∷ earlier) = let before = takes_no_more earlier in grind (arith, before)
takes_no_more (Took ∷ earlier) = let before = takes_no_more earlier in grind (arith, before)
takes_no_more (Registered count ∷ earlier) = takes_no_more earlier
takes_no_more (Unregistered ∷ earlier) = takes_no_more earlier

pub takes_in_order : TakesInOrder
takes_in_order [] log list some = grind (arith, list, some)
takes_in_order (next ∷ later) log list some = grind (arith, (takes_in_order later log list some))

pub takes_cells_in_turn : TakesCellsInTurn
takes_cells_in_turn k n fits = grind (arith, (mod-mod-pow n (16 - k) k))

provided_grows : (next : Change) (log : List Change) → provided log ≤ provided (next ∷ log)
provided_grows next log = grind arith

stays : (next : Change) (log : List Change) (n : ℕ) → n < provided log → nth (next ∷ log) n ≡ nth log n
stays next log n low = grind arith

all_stay : (later log : List Change) (n : ℕ) → n < provided log
    → (n < provided (later ++ log)) × (nth (later ++ log) n ≡ nth log n)
all_stay [] log n low = (low, refl)
all_stay (next ∷ later) log n low =
    let before = all_stay later log n low in
    let more = provided_grows next (later ++ log) in
    (omega (arith, before.0, more), stays next (later ++ log) n before.0 ∙ before.1)

pub keeps_what_was_provided : KeepsWhatWasProvided
keeps_what_was_provided later log n low = (all_stay later log n low).1

pub gives_what_was_provided : GivesWhatWasProvided
gives_what_was_provided [] n low = grind (arith, low)
gives_what_was_provided (Provided asked ∷ earlier) n low = elim (cases_lt n (provided earlier)) [
  | inl before ↦ inl (subst (λ b. IsProvided earlier b) (sym (stays (Provided asked) earlier n before)) (gives_what_was_provided earlier n before))
  | inr after ↦ inr (n - provided earlier, omega (arith, low, after), grind (arith, after))
]
gives_what_was_provided (Removed count ∷ earlier) n low = gives_what_was_provided earlier n low
gives_what_was_provided (Took ∷ earlier) n low = gives_what_was_provided earlier n low
gives_what_was_provided (Registered count ∷ earlier) n low = gives_what_was_provided earlier n low
gives_what_was_provided (Unregistered ∷ earlier) n low = gives_what_was_provided earlier n low
