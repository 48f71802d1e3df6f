use Rattle.std.proofs.Common.{sym, ◌∙◌}
use Rattle.uring_core.specs.Histories.{history_of}
use Rattle.uring_reconstruct.proofs.Adding.{hidden_never, last_there, none_next, seen_added, seen_right}
use Rattle.uring_reconstruct.proofs.next.add_seen.Goals as goal

pub returns-in_default-clause-added : goal.returns-in_default-clause-added
returns-in_default-clause-added g c = λ g x here shown p.
    absurd (none_next g c.args.seen.now (history_of c.args.events.now) x (sym c.in_default.is ∙ c.seen_next.ensures) shown p)

pub returns-then-is_hidden-clause-added : goal.returns-then-is_hidden-clause-added
returns-then-is_hidden-clause-added g c = λ g x here shown p.
    absurd (hidden_never g c.args.seen.now (history_of c.args.events.now) c.in-Some.event x (sym c.is_hidden.ensures ∙ c.if-is_hidden.true) (sym c.in-Some.ensures) shown p)

pub returns-clause-right : goal.returns-clause-right
returns-clause-right g c = λ g here are.
    seen_right g c.args.seen.now (history_of c.args.events.now) c.args.next.now.items c.push.new.list.items c.in-Some.event c.in_ok-push.ensures.items (sym c.is_hidden.ensures ∙ c.if-is_hidden.false) (sym c.in-Some.ensures) here are

pub returns-clause-added : goal.returns-clause-added
returns-clause-added g c = λ g x here shown p.
    seen_added g c.args.seen.now (history_of c.args.events.now) c.push.new.list.items c.in-Some.event x (last_there c.args.next.now.items c.push.new.list.items c.in-Some.event c.in_ok-push.ensures.items) (sym c.in-Some.ensures) shown p
