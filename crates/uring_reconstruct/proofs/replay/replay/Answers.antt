use Rattle.std.proofs.Common.{Err, List, ap, take, sym, subst, ◌∙◌, arith}
use Rattle.std.proofs.Math.Nat.{le_refl}
use Rattle.uring_reconstruct.proofs.Common.{Event, FitsApart, false≢true, history_of, take_all}
use Rattle.uring_reconstruct.proofs.Seeing.{taken_next, wrong_from}
use Rattle.uring_reconstruct.proofs.replay.replay.Goals as goal

pub returns-in-Err-Wrong-clause-all : goal.returns-in-Err-Wrong-clause-all
returns-in-Err-Wrong-clause-all g c = λ is. absurd (false≢true is)

pub returns-in-Err-Wrong-clause-wrong : goal.returns-in-Err-Wrong-clause-wrong
returns-in-Err-Wrong-clause-wrong g c = λ is.
    wrong_from c.args.core.now.setup c.loop-event.core.setup c.args.events.now c.loop-event.event-index c.event-item.result (omega arith) c.event-item.is c.loop-event.invariant.setup
    ((rw c.in-Err-Wrong.field-0-is at c.in-Err-Wrong.ensures.refused) (history_of (take c.loop-event.event-index c.args.events.now)) c.loop-event.invariant.fits).not_called

pub returns-in-Err-NoMemory-clause-granted : goal.returns-in-Err-NoMemory-clause-granted
returns-in-Err-NoMemory-clause-granted g c = λ all.
    absurd (c.in-Err-NoMemory.ensures.granted _ _ c.loop-event.invariant.fits (all _) (le_refl _) (ap (λ r. Err r) c.in-Err-NoMemory.field-0-is))

pub loop-event-preserved : goal.loop-event-preserved
loop-event-preserved g c =
    let low = c.loop-event-test.true in
    let grown = taken_next c.args.events.now c.loop-event.event-index c.event-item.result (omega (arith, low)) c.event-item.is in
    record {
      setup = c.follow_in.ensures.setup ∙ c.loop-event.invariant.setup;
      fits = subst (FitsApart c.follow_in.new.self) (sym grown) (c.in-Ok.ensures.ok (history_of (take c.loop-event.event-index c.args.events.now)) c.loop-event.invariant.fits);
    }

pub returns-clause-all : goal.returns-clause-all
returns-clause-all g c = λ is.
    subst (λ (es : List Event). FitsApart c.loop-event.core (history_of es)) (take_all c.loop-event.event-index c.args.events.now (omega arith)) c.loop-event.invariant.fits
