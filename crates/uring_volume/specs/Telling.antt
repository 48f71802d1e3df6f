-- A list of all that happened, as proofs alone see it. Our own structure.
use Rattle.std.specs.Prelude.{ℕ, ◌+◌, [], ◌∷◌, Option, Some, None}
use Rattle.uring_volume.specs.Writes.{Write}
use Rattle.uring_volume.specs.declared.event.Event.{Event}
use Rattle.uring_volume.specs.declared.event.Event.TheVariants.{WriteIssued}
use Rattle.uring_volume.specs.Events.{History}
use Rattle.uring_volume.specs.Folds.{without_write}

-- What has happened, and in how many steps it was told.
pub record Told : Type 0 where
  pub history : History
  pub steps : ℕ

abbrev pub nothing_told : Told
nothing_told = record { history = []; steps = 0 }

abbrev pub told_more : Event → Told → Told
told_more e t = record { history = e ∷ t.history; steps = t.steps + 1 }

abbrev pub told_without : ℕ → Told → Told
told_without n t = record { history = without_write n t.history; steps = t.steps + 1 }

-- the same again
abbrev pub told_again : Told → Told
told_again t = record { history = t.history; steps = t.steps + 1 }

abbrev pub told_by : {S E W : Type 0} → (S → Told) → (E → Event) → (W → Write) → Option S → Option E → Option W → Option ℕ → Told
told_by f g p None event piece out = nothing_told
told_by f g p (Some b) (Some e) piece out = told_more (g e) (f b)
told_by f g p (Some b) None (Some w) out = told_more (WriteIssued (p w)) (f b)
told_by f g p (Some b) None None (Some n) = told_without n (f b)
told_by f g p (Some b) None None None = told_again (f b)
