use Rattle.std.proofs.Common.{◌≡◌, ◌+◌, take, [], ◌∷◌, ◌++◌, List, ℕ, ap, sym, ◌∙◌, arith}
use Rattle.uring_effect_points.specs.Bare as bare
use Rattle.uring_effect_points.proofs.Common.{bytes_reaped, take_all}
use Rattle.uring_effect_points.proofs.Knowing.{told_more}
use Rattle.uring_effect_points.proofs.Marking.{taken_next}
use Rattle.uring_effect_points.proofs.known.bytes_told.Goals as goal

pub loop-event-preserved : goal.loop-event-preserved
loop-event-preserved g c =
    let earlier = take c.loop-event.event-index c.args.events.now in
    let low = c.loop-event-test.true in
    let grown : take (c.loop-event.event-index + 1) c.args.events.now ≡ earlier ++ c.event-item.result ∷ [] = taken_next c.args.events.now c.loop-event.event-index c.event-item.result (omega (arith, low)) c.event-item.is in
    c.in_ok-push_told.ensures.pushed ∙ ap (λ (xs : List (List ℕ)). xs ++ bytes_reaped c.event-item.result) c.loop-event.invariant
    ∙ sym (told_more earlier c.event-item.result) ∙ ap bare.bytes_told (sym grown)

pub returns-clause-told : goal.returns-clause-told
returns-clause-told g c = c.loop-event.invariant ∙ ap bare.bytes_told (take_all c.loop-event.event-index c.args.events.now (omega arith))
