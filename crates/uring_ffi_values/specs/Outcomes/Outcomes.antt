-- What a walk has found of all that calls may come to, for C.
use Rattle.std.specs.Prelude.{◌≡◌, ◌≤◌, ℕ, true, false, List, length, map, take, drop, min, All}
use Rattle.uring_entry.specs.Setup.{Setup}
use Rattle.uring_entry.specs.Layout.{Sqe, Cqe}
use Rattle.uring_outcomes.specs.Outcomes.{AreEndings, AreAllEndings, AreOnce}
use Rattle.uring_ffi_values.specs.CoreWords.ReadingForms.{words_of_completion}
use Rattle.uring_ffi_values.specs.CoreWords.SetUps.{IsAskedFor}
use Rattle.uring_ffi_values.specs.declared.core_words.set_up_words.SetupWords.{SetupWords}
use Rattle.uring_ffi_values.specs.declared.core_words.completion_words.CompletionWords.{CompletionWords}
use Rattle.uring_ffi_values.specs.declared.outcomes.outcome_list.OutcomeList.{OutcomeList}

-- a ring of this set-up takes calls of these lengths in whole, and keeps the manual pages' rules: it goes on after an entry with a fault, and has a slot for each entry of a call
abbrev pub TakesWhole : Setup → List ℕ → Type 0
TakesWhole s lens = (s.stops ≡ false) × (s.linux ≡ false) × All (λ len. len ≤ s.sq) lens

-- the words ask for no ring that takes calls of these lengths in whole
abbrev pub IsNoWalk : SetupWords → List ℕ → Type 0
IsNoWalk w lens = (s : Setup) → IsAskedFor w s → TakesWhole s lens → ⊥

-- What was found of all that these calls may come to: each of it is right, and is there once; and it is all, if that is told.
pub record AreOf (g : Setup) (calls : List (List Sqe)) (found : OutcomeList) : Type 0 where
  pub right : AreEndings g calls found.endings.items
  pub once : AreOnce found.endings.items
  pub all : found.is_all ≡ true → AreAllEndings g calls found.endings.items

-- The same of the ring that words ask for.
pub record AreFound (w : SetupWords) (calls : List (List Sqe)) (found : OutcomeList) : Type 0 where
  pub setup : Setup
  pub asked : IsAskedFor w setup
  pub found_of : AreOf setup calls found

-- Room for completions holds as many of these as it has room for, and what was there after them; and their number is told.
pub record ArePosted (posted : List Cqe) (old new : List CompletionWords) (count : ℕ) : Type 0 where
  pub total : count ≡ length posted
  pub told : take (min (length posted) (length old)) new ≡ map words_of_completion (take (min (length posted) (length old)) posted)
  pub rest : drop (min (length posted) (length old)) new ≡ drop (min (length posted) (length old)) old
