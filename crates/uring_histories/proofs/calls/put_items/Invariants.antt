use Rattle.std.proofs.Common.{take}
use Rattle.uring_histories.proofs.Common.{HasMade, History, IsRecorded, Setup, all_published_as, item_steps}
use Rattle.uring_histories.proofs.calls.put_items.Given as goal

abbrev pub invariant-loop-slot : goal.invariant-loop-slot
invariant-loop-slot l = (g : Setup) (h : History) → IsRecorded g l.fn.recording h
    → HasMade g l.recording h (item_steps 0 (all_published_as (take l.slot l.items)))
