use Rattle.std.proofs.Common.{[], ◌∷◌, ◌++◌, sym, subst, ap, ◌∙◌}
use Rattle.uring_outcomes.specs.Runs.{HasNext}
use Rattle.uring_outcomes.proofs.Replaying.{next_by}
use Rattle.uring_outcomes.proofs.next.next_moves.Goals as goal

pub returns-in_default-clause-next : goal.returns-in_default-clause-next
returns-in_default-clause-next g c = λ m at.
    next_by c.all_next.result c.args.names.now m (c.all_next.ensures.all m at) (c.all_next.ensures.right m at) c.all_next.ensures.once

pub returns-clause-next : goal.returns-clause-next
returns-clause-next g c = λ m at.
    subst (HasNext c.args.names.now m) (sym (c.in_ok-push_move.ensures.pushed ∙ ap (λ xs. xs ++ c.in-Some.only ∷ []) c.new-moves.ensures.items)) (c.in-Some.ensures m at)
