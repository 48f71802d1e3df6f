-- Glue. What the dispatcher's rows of steps make of the world.
use Rattle.std.specs.Prelude.{ℕ, List}
use Rattle.uring_entry.specs.Setup.{Setup}
use Rattle.uring_entry.specs.Submission.{Submission, with_published, Published}
use Rattle.uring_core.specs.World.{World}
use Rattle.uring_laws.specs.Standing.{with_item, with_items, after_call}
use Rattle.uring_threads.specs.declared.calls.CallMade.{CallMade}
use Rattle.uring_threads.specs.declared.calls.CallMade.TheVariants as made

-- the world with another submission ring
abbrev pub on_submission : World → Submission → World
on_submission w l = record w { submission = l }

-- an item is put into the ring, into this slot if it is an entry
abbrev pub with_item_put : World → ℕ → Published → World
with_item_put w slot item = on_submission w (with_item w.submission slot item)

-- items are put, each for its own slot from 0 on
abbrev pub with_items_put : World → List Published → World
with_items_put w items = on_submission w (with_items w.submission 0 items)

-- and published
abbrev pub with_items_published : ℕ → World → List Published → World
with_items_published size w items =
    on_submission w (with_published size (with_items w.submission 0 items))

-- a call was begun: it took so many positions and closed, or nothing changed
abbrev pub with_call_made : Setup → World → CallMade → World
with_call_made g w (made.Taken taken) = after_call g w taken
with_call_made g w made.Again = w
with_call_made g w made.Spent = w
