use Rattle.std.proofs.Common.{◌≡◌, true, List, length, rules, ◌∙◌, sym, ap, subst, map}
use Rattle.uring_crash_outcomes.proofs.Common.{IfSome, Log, MadeAs, StandsAt, called_in, finished_as, finished_of, is_some, length-map, moved, no_bytes, with_items_is}
use Rattle.std.specs.Vec.{with_items}
use Rattle.std.specs.Int.{w32}
use Rattle.std.proofs.lemmas.Int.{to_z-of_z}
use Rattle.uring_core.specs.declared.answer.Answer.TheVariants as answer
use Rattle.uring_outcomes.specs.declared.move_of_calls.Move.TheVariants as move
use Rattle.uring_crash_outcomes.proofs.Trying.{not_tried, tried, finish_logs}
use Rattle.uring_crash_outcomes.proofs.trial.Trial.finish.Goals as goal

pub returns-in_default-clause-tried : goal.returns-in_default-clause-tried
returns-in_default-clause-tried g c =
    λ unit g calls moves h.
    not_tried unit g calls moves (move.Finish c.args.number) c.args.self.now.run c.finish.new.self c.args.self.now.logs.items c.args.self.now.logs.items h
    (subst (λ o. MadeAs (is_some o) (moved h.last (move.Finish c.args.number)) (StandsAt calls c.finish.new.self)) c.in_default.is (c.in_ok-res.ensures.made calls h.last h.at))

pub returns-clause-tried : goal.returns-clause-tried
returns-clause-tried g c =
    λ unit g calls moves h.
    let op = c.running_op-op.result in
    let f : Log → Log = finished_of c.args.number op c.in-Some.res in
    let noted : c.note_finish.new.logs ≡ map f c.args.self.now.logs.items = c.note_finish.ensures ∙ ap (λ r. map (λ log. finished_as c.args.number op (answer.Ended r no_bytes) log) c.deref_mut.result.now) (to_z-of_z w32 c.in-Some.res (search rules)) ∙ ap (map f) c.deref_mut.ensures.value in
    let many = ap (λ (ls : List Log). length ls) noted ∙ length-map c.args.self.now.logs.items f ∙ sym c.args.self.now.logs.ok.0 in
    tried unit g calls moves (move.Finish c.args.number) f c.args.self.now.run c.finish.new.self c.args.self.now.logs.items (with_items c.args.self.now.logs c.note_finish.new.logs).items true h
    (subst (λ o. MadeAs (is_some o) (moved h.last (move.Finish c.args.number)) (StandsAt calls c.finish.new.self)) c.in-Some.is (c.in_ok-res.ensures.made calls h.last h.at))
    (λ is. with_items_is c.args.self.now.logs c.note_finish.new.logs many ∙ noted)
    (λ next is log. finish_logs h.last next c.args.number op c.in-Some.res log is (c.running_op-op.ensures h.last.requests h.at.requests)
    (subst (λ o. IfSome o (λ res. res ≡ (called_in h.last c.args.number).res)) c.in-Some.is (c.in_ok-res.ensures.called calls h.last h.at)))
