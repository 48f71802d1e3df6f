use Rattle.std.proofs.Common.{◌≡◌, ◌+◌, false, true, take, [], ◌∷◌, ◌++◌, List, ap, sym, subst, ◌∙◌, arith, rules}
use Rattle.std.proofs.Math.Nat.{le_refl}
use Rattle.uring_effect_points.proofs.Common.{false≢true, Event, FitsApart, IsLawfulApart, Mark, Setup, history_of, history_of_snoc, mark_by, marks_after, not-false, not-true, take_all, world}
use Rattle.uring_effect_points.proofs.Marking.{marks_more, taken_next, wrong_from}
use Rattle.uring_effect_points.proofs.marks.add_marks.Goals as goal

pub loop-event-preserved : goal.loop-event-preserved
loop-event-preserved g c =
    let made : c.in_ok-follow_one.field-0 ≡ true = search (rules, not-false) in
    let earlier = take c.loop-event.event-index c.args.events.now in
    let low = c.loop-event-test.true in
    let grown : take (c.loop-event.event-index + 1) c.args.events.now ≡ earlier ++ c.event-item.result ∷ [] = taken_next c.args.events.now c.loop-event.event-index c.event-item.result (omega (arith, low)) c.event-item.is in
    let fits : FitsApart c.follow_one.new.core (c.event-item.result ∷ history_of earlier) = c.in_ok-follow_one.ensures.called made (history_of earlier) c.loop-event.invariant.fits in
    let setup : c.follow_one.new.core.setup ≡ c.args.core.now.setup = c.in_ok-follow_one.ensures.setup ∙ c.loop-event.invariant.setup in
    record {
      setup = setup;
      fits = subst (FitsApart c.follow_one.new.core) (sym (ap history_of grown ∙ history_of_snoc earlier c.event-item.result)) fits;
      marks =
          c.in_ok-push.ensures.items ∙ ap (λ (ms : List Mark). ms ++ c.mark_of.result ∷ []) c.loop-event.invariant.marks
          ∙ ap (λ (m : Mark). marks_after c.args.core.now.setup [] earlier ++ m ∷ []) (c.mark_of.ensures (c.event-item.result ∷ history_of earlier) fits ∙ ap (λ (s : Setup). mark_by (world s (c.event-item.result ∷ history_of earlier)).requests c.event-item.result) setup)
          ∙ sym (marks_more c.args.core.now.setup earlier c.event-item.result)
          ∙ ap (marks_after c.args.core.now.setup []) (sym grown);
    }

pub returns-then-not-branch-clause-wrong : goal.returns-then-not-branch-clause-wrong
returns-then-not-branch-clause-wrong g c = λ is.
    let made : c.in_ok-follow_one.field-0 ≡ false = search (rules, not-true) in
    wrong_from c.args.core.now.setup c.loop-event.core.setup c.args.events.now c.loop-event.event-index c.event-item.result (omega arith) c.event-item.is c.loop-event.invariant.setup
    (c.in_ok-follow_one.ensures.wrong made (history_of (take c.loop-event.event-index c.args.events.now)) c.loop-event.invariant.fits)

pub returns-clause-lawful : goal.returns-clause-lawful
returns-clause-lawful g c = λ is.
    let all = take_all c.loop-event.event-index c.args.events.now (omega arith) in
    subst (λ (s : Setup). IsLawfulApart s (history_of c.args.events.now)) c.loop-event.invariant.setup (subst (λ (es : List Event). IsLawfulApart c.loop-event.core.setup (history_of es)) all c.loop-event.invariant.fits.lawful)

pub returns-clause-marks : goal.returns-clause-marks
returns-clause-marks g c = λ is.
    c.loop-event.invariant.marks ∙ ap (marks_after c.args.core.now.setup []) (take_all c.loop-event.event-index c.args.events.now (omega arith))

pub returns-in_err-push-clause-granted : goal.returns-in_err-push-clause-granted
returns-in_err-push-clause-granted g c = λ all. absurd (false≢true (c.in_err-push.ensures.granted _ (all _) (le_refl _)))
