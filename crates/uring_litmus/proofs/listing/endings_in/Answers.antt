use Rattle.uring_outcomes.specs.Runs.{entries_of}
use Rattle.uring_litmus.proofs.Listed.{finds, is_spent, too_many}
use Rattle.uring_litmus.proofs.listing.endings_in.Goals as goal

pub returns-in-Ok-clause-found : goal.returns-in-Ok-clause-found
returns-in-Ok-clause-found g c =
    finds c.args.setup.now c.in_ok-items.items c.in-Ok.found.endings.items c.in-Ok.found.is_all _ _ c.in_ok-items.ensures.calls (record {
      right = rw (c.as_slice-2.ensures.value, c.in_ok-calls.ensures.entries, c.as_slice.ensures.value) at c.in-Ok.ensures.right;
      all = rw (c.as_slice-2.ensures.value, c.in_ok-calls.ensures.entries, c.as_slice.ensures.value) at c.in-Ok.ensures.all;
      once = c.in-Ok.ensures.once;
    })

pub returns-in-Err-clause-granted : goal.returns-in-Err-clause-granted
returns-in-Err-clause-granted g c = λ all is.
    too_many c.args.setup.now c.in_ok-items.items _ _ c.in_ok-items.ensures.calls
    (rw (c.as_slice-2.ensures.value, c.in_ok-calls.ensures.entries, c.as_slice.ensures.value) at (is_spent (g.M.Memory.grants c.args.memory.now) (entries_of c.as_slice-2.result.now) c.in-Err.field-0 c.in-Err.ensures.fault all))
