use Rattle.std.proofs.Common.{◌+◌, ◌*◌, List, [], ◌∷◌, ◌++◌, sym, ap, subst, ◌∙◌, arith}
use Rattle.uring_outcomes.proofs.Common.{AreRanked, CanAll, Contains, Contains-append_left, Contains-push, Global, Move, Vec, both_ways}
use Rattle.uring_outcomes.specs.declared.move_of_calls.Move.TheVariants as move
use Rattle.uring_outcomes.proofs.Moving.{finish_some, finishable_tells, issue_some}
use Rattle.uring_outcomes.proofs.Replaying.{can_push, ranked_more, ranked_push}
use Rattle.uring_outcomes.proofs.next.add_of.Goals as goal
use Rattle.uring_outcomes.proofs.next.add_of.Goals.{then-can_issue+in_ok-push_move, else-can_issue}

pub returns-else-runs-clause-issue : goal.returns-else-runs-clause-issue
returns-else-runs-clause-issue g c = λ calls m at can.
    elim c.if-can_issue.branch [
      | then-can_issue+in_ok-push_move w ↦ subst (λ xs. Contains xs (move.Issue c.args.number)) (sym (ap (λ (v : Vec Move Global). v.items) w.moves-is ∙ w.in_ok-push_move.ensures.pushed)) (Contains-push c.args.moves.now.items (move.Issue c.args.number))
      | else-can_issue w ↦ absurd (both_ways c.can_issue.result w.if-can_issue.false ((c.can_issue.ensures calls m at).1 can))
    ]

pub returns-in_ok-push_move-2-clause-issue : goal.returns-in_ok-push_move-2-clause-issue
returns-in_ok-push_move-2-clause-issue g c = λ calls m at can.
    let there : Contains c.if-can_issue.moves.items (move.Issue c.args.number) = elim c.if-can_issue.branch [
      | then-can_issue+in_ok-push_move w ↦ subst (λ xs. Contains xs (move.Issue c.args.number)) (sym (ap (λ (v : Vec Move Global). v.items) w.moves-is ∙ w.in_ok-push_move.ensures.pushed)) (Contains-push c.args.moves.now.items (move.Issue c.args.number))
      | else-can_issue w ↦ absurd (both_ways c.can_issue.result w.if-can_issue.false ((c.can_issue.ensures calls m at).1 can))
    ] in
    subst (λ xs. Contains xs (move.Issue c.args.number)) (sym {A = List Move} c.in_ok-push_move-2.ensures.pushed) (Contains-append_left c.if-can_issue.moves.items _ (move.Issue c.args.number) there)

pub returns-else-runs-clause-finish : goal.returns-else-runs-clause-finish
returns-else-runs-clause-finish g c = λ calls m at can.
    absurd (both_ways c.runs.result c.if-runs.false (c.runs.ensures calls m at ∙ (finishable_tells m.requests c.args.number can).1))

pub returns-in_ok-push_move-2-clause-finish : goal.returns-in_ok-push_move-2-clause-finish
returns-in_ok-push_move-2-clause-finish g c = λ calls m at can.
    subst (λ xs. Contains xs (move.Finish c.args.number)) (sym {A = List Move} c.in_ok-push_move-2.ensures.pushed) (Contains-push c.if-can_issue.moves.items (move.Finish c.args.number))

pub returns-in_ok-push_move-2-clause-kept : goal.returns-in_ok-push_move-2-clause-kept
returns-in_ok-push_move-2-clause-kept g c = λ x has.
    let there : Contains c.if-can_issue.moves.items x = elim c.if-can_issue.branch [
      | then-can_issue+in_ok-push_move w ↦ subst (λ xs. Contains xs x) (sym (ap (λ (v : Vec Move Global). v.items) w.moves-is ∙ w.in_ok-push_move.ensures.pushed)) (Contains-append_left c.args.moves.now.items _ x has)
      | else-can_issue w ↦ subst (λ xs. Contains xs x) (sym (ap (λ (v : Vec Move Global). v.items) w.moves-is)) has
    ] in
    subst (λ xs. Contains xs x) (sym {A = List Move} c.in_ok-push_move-2.ensures.pushed) (Contains-append_left c.if-can_issue.moves.items _ x there)

pub returns-else-runs-clause-kept : goal.returns-else-runs-clause-kept
returns-else-runs-clause-kept g c = λ x has.
    elim c.if-can_issue.branch [
      | then-can_issue+in_ok-push_move w ↦ subst (λ xs. Contains xs x) (sym (ap (λ (v : Vec Move Global). v.items) w.moves-is ∙ w.in_ok-push_move.ensures.pushed)) (Contains-append_left c.args.moves.now.items _ x has)
      | else-can_issue w ↦ subst (λ xs. Contains xs x) (sym (ap (λ (v : Vec Move Global). v.items) w.moves-is)) has
    ]

pub returns-else-runs-clause-right : goal.returns-else-runs-clause-right
returns-else-runs-clause-right g c = λ calls m at all.
    elim c.if-can_issue.branch [
      | then-can_issue+in_ok-push_move w ↦ subst (CanAll m) (sym (ap (λ (v : Vec Move Global). v.items) w.moves-is ∙ w.in_ok-push_move.ensures.pushed)) (can_push m c.args.moves.now.items (move.Issue c.args.number) all (issue_some m c.args.number ((c.can_issue.ensures calls m at).0 w.if-can_issue.true)))
      | else-can_issue w ↦ subst (CanAll m) (sym (ap (λ (v : Vec Move Global). v.items) w.moves-is)) all
    ]

pub returns-in_ok-push_move-2-clause-right : goal.returns-in_ok-push_move-2-clause-right
returns-in_ok-push_move-2-clause-right g c = λ calls m at all.
    let before : CanAll m c.if-can_issue.moves.items = elim c.if-can_issue.branch [
      | then-can_issue+in_ok-push_move w ↦ subst (CanAll m) (sym (ap (λ (v : Vec Move Global). v.items) w.moves-is ∙ w.in_ok-push_move.ensures.pushed)) (can_push m c.args.moves.now.items (move.Issue c.args.number) all (issue_some m c.args.number ((c.can_issue.ensures calls m at).0 w.if-can_issue.true)))
      | else-can_issue w ↦ subst (CanAll m) (sym (ap (λ (v : Vec Move Global). v.items) w.moves-is)) all
    ] in
    subst (CanAll m) (sym {A = List Move} c.in_ok-push_move-2.ensures.pushed) (can_push m c.if-can_issue.moves.items (move.Finish c.args.number) before (finish_some calls m c.args.number at.reached (sym (c.runs.ensures calls m at) ∙ c.if-runs.true)))

pub returns-else-runs-clause-ranks : goal.returns-else-runs-clause-ranks
returns-else-runs-clause-ranks g c = λ ranked.
    let before : AreRanked (c.args.number * 2 + 1 + 1) c.if-can_issue.moves.items = elim c.if-can_issue.branch [
      | then-can_issue+in_ok-push_move w ↦ subst (AreRanked (c.args.number * 2 + 1 + 1)) (sym (ap (λ (v : Vec Move Global). v.items) w.moves-is ∙ w.in_ok-push_move.ensures.pushed)) (ranked_push (c.args.number * 2 + 1) c.args.moves.now.items (move.Issue c.args.number) ranked (omega arith))
      | else-can_issue w ↦ subst (AreRanked (c.args.number * 2 + 1 + 1)) (sym (ap (λ (v : Vec Move Global). v.items) w.moves-is)) (ranked_more (c.args.number * 2 + 1) (c.args.number * 2 + 1 + 1) c.args.moves.now.items (omega arith) ranked)
    ] in
    ranked_more (c.args.number * 2 + 1 + 1) (c.args.number * 2 + 3) c.if-can_issue.moves.items (omega arith) before

pub returns-in_ok-push_move-2-clause-ranks : goal.returns-in_ok-push_move-2-clause-ranks
returns-in_ok-push_move-2-clause-ranks g c = λ ranked.
    let before : AreRanked (c.args.number * 2 + 1 + 1) c.if-can_issue.moves.items = elim c.if-can_issue.branch [
      | then-can_issue+in_ok-push_move w ↦ subst (AreRanked (c.args.number * 2 + 1 + 1)) (sym (ap (λ (v : Vec Move Global). v.items) w.moves-is ∙ w.in_ok-push_move.ensures.pushed)) (ranked_push (c.args.number * 2 + 1) c.args.moves.now.items (move.Issue c.args.number) ranked (omega arith))
      | else-can_issue w ↦ subst (AreRanked (c.args.number * 2 + 1 + 1)) (sym (ap (λ (v : Vec Move Global). v.items) w.moves-is)) (ranked_more (c.args.number * 2 + 1) (c.args.number * 2 + 1 + 1) c.args.moves.now.items (omega arith) ranked)
    ] in
    subst (AreRanked (c.args.number * 2 + 3)) (sym {A = List Move} c.in_ok-push_move-2.ensures.pushed)
    (ranked_more (c.args.number * 2 + 2 + 1) (c.args.number * 2 + 3) (c.if-can_issue.moves.items ++ move.Finish c.args.number ∷ []) (omega arith) (ranked_push (c.args.number * 2 + 1 + 1) c.if-can_issue.moves.items (move.Finish c.args.number) before (omega arith)))
