-- What the application published, and what the calls took and dropped of it, read straight off a history.
use Rattle.std.specs.Prelude.{◌≡◌, ℕ, ◌%◌, ◌^◌, Bool, true, false, List, map, count_by, All}
use Rattle.std.specs.List.{enumerate_from}
use Rattle.uring_entry.specs.Setup.{Setup}
use Rattle.uring_entry.specs.Submission.{dropped, IsItem, item_of, Published, published_items}
use Rattle.uring_core.specs.Events.{closes_call}
use Rattle.uring_laws.specs.Direct.{before_last, published_words, published_entry, call_counts}
use Rattle.uring_core.specs.Histories.{Event, History, world}
use Rattle.uring_core.specs.declared.step.Step.TheVariants as step
use Rattle.uring_core.specs.declared.answer.Answer.TheVariants as answer

-- the items published: at each position its word, with the entry that the word's slot held as it was published
abbrev pub items_told : ℕ → History → List Published
items_told size h =
    map (λ place. item_of place.1 (published_entry size h place.0)) (enumerate_from 0 (published_words h))

-- whether a call drops a position, whose word names no slot
abbrev pub drops_position : Event → Bool
drops_position (step.Take, answer.Dropped) = true
drops_position _ = false

-- how many positions were dropped by calls that closed: those before the last close
abbrev pub positions_dropped : History → ℕ
positions_dropped h = count_by drops_position (before_last closes_call h)

-- What was published, taken and dropped is what the events tell. The count of dropped words wraps at 32 bits: io_uring_setup(2), on dropped.
pub record OwnPublished (g : Setup) (h : History) : Type 0 where
  pub items : published_items (world g h).submission ≡ items_told g.sq h
  pub are_items : All (IsItem g.sq) (published_items (world g h).submission)
  pub calls : (world g h).submission.calls ≡ call_counts h
  pub dropped_words : dropped (world g h).submission ≡ positions_dropped h % 2 ^ 32
