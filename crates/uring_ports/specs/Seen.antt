-- What a port has seen of the other side, and how often it has looked. A look is a load of the index that the other side stores; over lanes looks aren't told. All of it is our own rule.
use Rattle.std.specs.Prelude.{◌≡◌, ℕ, ◌<◌, Bool, false, List, [], Option, Some, None}
use Rattle.uring_entry.specs.Layout.{Cqe}

-- for how many places more the application has seen room, and how often it has looked for room; without a number if looks aren't told
pub record SeenRoom : Type 0 where
  pub places : ℕ
  pub looks : Option ℕ

-- the completions that the application has seen and not got, oldest first, and how often it has looked for completions
pub record SeenCompletions : Type 0 where
  pub waiting : List Cqe
  pub looks : Option ℕ

-- whether the dispatcher has seen a whole call or the close mark that it hasn't pulled, and how often it has looked for calls
pub record SeenCalls : Type 0 where
  pub waits : Bool
  pub looks : Option ℕ

-- it has looked once more, or more often, if looks are told
abbrev pub HasLooked : (before after : Option ℕ) → Type 0
HasLooked (Some before) (Some after) = before < after
HasLooked (Some before) None = ⊥
HasLooked None (Some after) = ⊥
HasLooked None None = Unit {0}

-- it has looked, and there is room for fewer places than these
abbrev pub FindsNoRoom : ℕ → (before after : SeenRoom) → Type 0
FindsNoRoom places before after =
    (after.places < places) × HasLooked before.looks after.looks

-- no completion had been seen, it has looked, and none is seen
abbrev pub FindsNoCompletion : (before after : SeenCompletions) → Type 0
FindsNoCompletion before after =
    (before.waiting ≡ []) × (after.waiting ≡ []) × HasLooked before.looks after.looks

-- no whole call and no close mark had been seen, it has looked, and none is seen
abbrev pub FindsNoCall : (before after : SeenCalls) → Type 0
FindsNoCall before after =
    (before.waits ≡ false) × (after.waits ≡ false) × HasLooked before.looks after.looks
