use Rattle.std.proofs.Common.{◌≡◌, true, Some, List, length, ◌∙◌, sym, ap, subst, map}
use Rattle.std.specs.Vec.{with_items}
use Rattle.uring_crash_outcomes.proofs.Common.{Log, MadeAs, Moment, StandsAt, begun_of, moved, operation_running, with_items_is}
use Rattle.uring_outcomes.specs.declared.move_of_calls.Move.TheVariants as move
use Rattle.uring_crash_outcomes.proofs.Trying.{not_tried, tried, issue_logs, stands_made, asks_all}
use Rattle.uring_crash_outcomes.proofs.trial.Trial.issue.Goals as goal

pub returns-then-not-branch-clause-tried : goal.returns-then-not-branch-clause-tried
returns-then-not-branch-clause-tried g c =
    λ unit g calls moves h.
    not_tried unit g calls moves (move.Issue c.args.number) c.args.self.now.run c.issue.new.self c.args.self.now.logs.items c.args.self.now.logs.items h
    (subst (λ b. MadeAs b (moved h.last (move.Issue c.args.number)) (StandsAt calls c.issue.new.self)) c.if-not-branch.true (c.in_ok-issue.ensures.made calls h.last h.at))

pub running_op-op-requires : goal.running_op-op-requires
running_op-op-requires g c =
    let s = c.requires.1 in
    (stands_made c.requires.0 c.issue.new.self (move.Issue c.args.number) c.in_ok-issue.field-0 s.moment c.if-not-branch.false (c.in_ok-issue.ensures.made c.requires.0 s.moment s.at)).so.between

pub note_issue-requires : goal.note_issue-requires
note_issue-requires g c =
    let s = c.requires.1 in
    let made = stands_made c.requires.0 c.issue.new.self (move.Issue c.args.number) c.in_ok-issue.field-0 s.moment c.if-not-branch.false (c.in_ok-issue.ensures.made c.requires.0 s.moment s.at) in
    asks_all c.requires.0 c.issue.new.self c.args.number c.running_op-op.result made.next made.so (c.running_op-op.ensures made.next.requests made.so.requests)

pub returns-clause-tried : goal.returns-clause-tried
returns-clause-tried g c =
    λ unit g calls moves h.
    let op = c.running_op-op.result in
    let made = stands_made calls c.issue.new.self (move.Issue c.args.number) c.in_ok-issue.field-0 h.last c.if-not-branch.false (c.in_ok-issue.ensures.made calls h.last h.at) in
    let many = c.note_issue.ensures.many ∙ ap (λ (ls : List Log). length ls) c.deref_mut.ensures.value ∙ sym c.args.self.now.logs.ok.0 in
    tried unit g calls moves (move.Issue c.args.number) (begun_of c.args.number op) c.args.self.now.run c.issue.new.self c.args.self.now.logs.items (with_items c.args.self.now.logs c.note_issue.new.logs).items true h
    (subst (λ b. MadeAs b (moved h.last (move.Issue c.args.number)) (StandsAt calls c.issue.new.self)) c.if-not-branch.false (c.in_ok-issue.ensures.made calls h.last h.at))
    (λ is. with_items_is c.args.self.now.logs c.note_issue.new.logs many ∙ c.in_ok-note_issue.ensures.logs ∙ ap (map (begun_of c.args.number op)) c.deref_mut.ensures.value)
    (λ next is log.
    let same : made.next ≡ next = (let both : Some made.next ≡ Some next = sym made.is ∙ is in cc) in
    ap (λ o. begun_of c.args.number o log) (c.running_op-op.ensures made.next.requests made.so.requests ∙ ap (λ (x : Moment). operation_running x.requests c.args.number) same) ∙ issue_logs h.last next c.args.number log is)
