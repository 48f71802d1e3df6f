use Rattle.uring_outcomes.specs.declared.move_of_calls.Move.TheVariants as move
use Rattle.std.proofs.Common.{◌≡◌, ℕ, ◌+◌, ◌*◌, ◌≤◌, List, length, Some, sym, subst, ap, ◌∙◌, arith}
use Rattle.uring_outcomes.proofs.Common.{AreRanked, CanAll, Contains, Contains-push, Global, HasBelow, Moment, Move, Vec, entries_of, moved, none-some}
use Rattle.uring_outcomes.proofs.Replaying.{can_none, can_push, more_below, ranked_more, ranked_none, ranked_push}
use Rattle.uring_outcomes.proofs.Moving.{accept_can, finish_can, finishable_tells, issuable_accepted, issue_can, none_accepted, none_left}
use Rattle.uring_outcomes.proofs.next.add_all.Goals as goal
use Rattle.uring_outcomes.proofs.next.add_all.Goals.{then-run-calls+in_ok-push_move, else-run-calls}

-- each move that can be made is there
each_there : (m : Moment) (k : ℕ) (xs : List Move) → length m.requests.accepted ≤ k
    → ((next : Moment) → moved m move.Accept ≡ Some next → Contains xs move.Accept) → HasBelow m k xs
    → (x : Move) (next : Moment) → moved m x ≡ Some next → Contains xs x
each_there m k xs all accepts below move.Accept next is = accepts next is
each_there m k xs all accepts below (move.Issue n) next is =
    let can = issue_can m next n is in
    let low = issuable_accepted m.requests n can in below.issues n (omega arith) can
each_there m k xs all accepts below (move.Finish n) next is =
    let can = finish_can m next n is in
    let low = (finishable_tells m.requests n can).0 in below.finishes n (omega arith) can

pub loop-number-preserved : goal.loop-number-preserved
loop-number-preserved g c = record {
  accepts = λ m next at is. c.in_ok-add_of.ensures.kept move.Accept (c.loop-number.invariant.accepts m next at is);
  below = λ m at. more_below m c.loop-number.number c.loop-number.moves.items c.add_of.new.moves.items (c.loop-number.invariant.below m at) c.in_ok-add_of.ensures.kept (c.in_ok-add_of.ensures.issue (entries_of c.args.calls.now) m at) (c.in_ok-add_of.ensures.finish (entries_of c.args.calls.now) m at);
  right = λ m at. c.in_ok-add_of.ensures.right (entries_of c.args.calls.now) m at (c.loop-number.invariant.right m at);
  ranks = ranked_more (c.loop-number.number * 2 + 3) ((c.loop-number.number + 1) * 2 + 1) c.add_of.new.moves.items (omega arith) (c.in_ok-add_of.ensures.ranks c.loop-number.invariant.ranks);
}

pub loop-number-init : goal.loop-number-init
loop-number-init g c = record {
  accepts = λ m next at is. elim c.if-run-calls.branch [
    | then-run-calls+in_ok-push_move w ↦ subst (λ xs. Contains xs move.Accept) (sym (ap (λ (v : Vec Move Global). v.items) w.moves-is ∙ w.in_ok-push_move.ensures.pushed)) (Contains-push c.args.moves.now.items move.Accept)
    | else-run-calls w ↦ absurd (none-some next (sym (none_accepted m (none_left c.args.calls.now m c.args.run.now.next_call at.left w.if-run-calls.false)) ∙ is))
  ];
  below = λ m at. record { issues = λ n low can. absurd (omega (arith, low)); finishes = λ n low can. absurd (omega (arith, low)) };
  right = λ m at. elim c.if-run-calls.branch [
    | then-run-calls+in_ok-push_move w ↦ subst (CanAll m) (sym (ap (λ (v : Vec Move Global). v.items) w.moves-is ∙ w.in_ok-push_move.ensures.pushed)) (can_push m c.args.moves.now.items move.Accept (can_none m c.args.moves.now.items c.requires.none) (accept_can c.args.calls.now m c.args.run.now.next_call at.left w.if-run-calls.true))
    | else-run-calls w ↦ subst (CanAll m) (sym (ap (λ (v : Vec Move Global). v.items) w.moves-is)) (can_none m c.args.moves.now.items c.requires.none)
  ];
  ranks = elim c.if-run-calls.branch [
    | then-run-calls+in_ok-push_move w ↦ subst (AreRanked 1) (sym (ap (λ (v : Vec Move Global). v.items) w.moves-is ∙ w.in_ok-push_move.ensures.pushed)) (ranked_push 0 c.args.moves.now.items move.Accept (ranked_none c.args.moves.now.items c.requires.none) (omega arith))
    | else-run-calls w ↦ subst (AreRanked 1) (sym (ap (λ (v : Vec Move Global). v.items) w.moves-is)) (ranked_more 0 1 c.args.moves.now.items (omega arith) (ranked_none c.args.moves.now.items c.requires.none))
  ];
}

pub returns-clause-all : goal.returns-clause-all
returns-clause-all g c = λ m at.
    each_there m c.loop-number.number c.loop-number.moves.items (omega (arith, at.requests.accepted)) (λ next is. c.loop-number.invariant.accepts m next at is) (c.loop-number.invariant.below m at)

pub returns-clause-right : goal.returns-clause-right
returns-clause-right g c = λ m at. c.loop-number.invariant.right m at

pub returns-clause-once : goal.returns-clause-once
returns-clause-once g c = c.loop-number.invariant.ranks.once
