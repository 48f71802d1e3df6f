-- What holds of every call that takes positions, whatever stands there. io_uring(7), Submitting I/O requests; io_uring_enter(2), to_submit.
use Rattle.std.specs.Prelude.{◌≡◌, ℕ, ◌^◌, ◌<◌, ◌≤◌, max, false, length, List, ◌∷◌, ◌++◌}
use Rattle.uring_enter.specs.declared.taking_up.taking.Submitting.{Submitting}
use Rattle.uring_enter.specs.declared.taking_up.taking.Item.{Item}
use Rattle.uring_enter.specs.declared.taking_up.taking.Onward.TheVariants.{Takes}
use Rattle.uring_enter.specs.TakingUp.Takings.{published, ends, next_of}

-- a call takes no more than are published, nor than it is asked for, or than the core was given before
abbrev pub TakesWhatIsPublished : Type 0
TakesWhatIsPublished = (a : Submitting) (taken : List Item) (cell : ℕ) → next_of a taken ≡ Takes cell
    → (length taken < published a) × (length taken < max a.to_submit a.given)

-- it takes each position once: two that it takes have cells of their own, where the ring's entries are a power of two
abbrev pub TakesEachOnce : Type 0
TakesEachOnce = (a : Submitting) (k : ℕ) (newer earlier : List Item) (item : Item) (one other : ℕ) → k ≤ 32 → a.entries ≡ 2 ^ k
    → next_of a earlier ≡ Takes one → next_of a (newer ++ item ∷ earlier) ≡ Takes other → one ≡ other → ⊥

-- it takes none after what ends it
abbrev pub TakesNoneAfterAnEnd : Type 0
TakesNoneAfterAnEnd = (a : Submitting) (newer earlier : List Item) (item : Item) (cell : ℕ)
    → next_of a (newer ++ item ∷ earlier) ≡ Takes cell → ends a.submits_all item ≡ false
