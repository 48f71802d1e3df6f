use Rattle.std.proofs.Common.{get_or, length, map, take, sym, ap, ◌∙◌, ◌++◌, arith}
use Rattle.uring_volume.proofs.Common.{issued, named, false≢true, take_all}
use Rattle.uring_volume.proofs.EndOrder.{ended_is, ends_more, ends_of}
use Rattle.uring_volume.proofs.show.ended_pieces.Goals as goal

pub loop-n-preserved : goal.loop-n-preserved
loop-n-preserved g c =
    c.in_ok-push_named.ensures.named
    ∙ ap (λ ws. ws ++ named (get_or c.ends-n-items.result.now c.loop-n.n-index 0) (map (λ p. p.now) c.deref.result.now)) c.loop-n.invariant
    ∙ ap (λ ps. ends_of (issued c.args.past.now.history) (take c.loop-n.n-index c.args.past.now.ends) ++ named (get_or c.ends-n-items.result.now c.loop-n.n-index 0) (map (λ p. p.now) ps)) c.deref.ensures.value
    ∙ ap (λ ws. ends_of (issued c.args.past.now.history) (take c.loop-n.n-index c.args.past.now.ends) ++ named (get_or c.ends-n-items.result.now c.loop-n.n-index 0) ws) c.in_ok-pieces.ensures.pieces
    ∙ sym (ends_more (issued c.args.past.now.history) c.args.past.now.ends c.loop-n.n-index (get_or c.ends-n-items.result.now c.loop-n.n-index 0) (omega (arith, c.loop-n-test.true, ap length c.ends-n-items.ensures)) (ap (λ ns. get_or ns c.loop-n.n-index 0) c.ends-n-items.ensures))

pub returns-in_err-push_named-clause-granted : goal.returns-in_err-push_named-clause-granted
returns-in_err-push_named-clause-granted g c = λ all. absurd (false≢true (c.in_err-push_named.ensures.granted all))

pub returns-clause-order : goal.returns-clause-order
returns-clause-order g c =
    c.loop-n.invariant
    ∙ ap (ends_of (issued c.args.past.now.history)) (take_all c.loop-n.n-index c.args.past.now.ends (omega (arith, c.loop-n-test.false, ap length c.ends-n-items.ensures)) ∙ c.is_past.ensures.ends_are)
    ∙ sym (ended_is c.args.past.now.history c.is_past.ensures.lawful)
