use Rattle.std.proofs.Common.{◌≡◌, ◌+◌, take, [], ◌∷◌, ◌++◌, List, map, ap, sym, ◌∙◌, arith}
use Rattle.uring_effect_points.specs.Bare.{blank}
use Rattle.uring_effect_points.proofs.Common.{Event, map-append, take_all}
use Rattle.uring_effect_points.proofs.Marking.{taken_next}
use Rattle.uring_effect_points.proofs.known.blanks_of.Goals as goal

pub loop-event-preserved : goal.loop-event-preserved
loop-event-preserved g c =
    let earlier = take c.loop-event.event-index c.args.events.now in
    let low = c.loop-event-test.true in
    let grown : take (c.loop-event.event-index + 1) c.args.events.now ≡ earlier ++ c.event-item.result ∷ [] = taken_next c.args.events.now c.loop-event.event-index c.event-item.result (omega (arith, low)) c.event-item.is in
    c.in_ok-push.ensures.items ∙ ap (λ (xs : List Event). xs ++ c.blank_of.result ∷ []) c.loop-event.invariant
    ∙ ap (λ (x : Event). map blank earlier ++ x ∷ []) c.blank_of.ensures
    ∙ sym (map-append blank earlier (c.event-item.result ∷ [])) ∙ ap (map blank) (sym grown)

pub returns-clause-blanks : goal.returns-clause-blanks
returns-clause-blanks g c = c.loop-event.invariant ∙ ap (map blank) (take_all c.loop-event.event-index c.args.events.now (omega arith))
