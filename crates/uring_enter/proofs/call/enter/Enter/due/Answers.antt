use Rattle.std.proofs.Common.{◌∷◌, sym, ◌∙◌}
use Rattle.uring_enter.proofs.Next.{due_taken, due_not_taken, due_least_over}
use Rattle.uring_enter.proofs.call.enter.Enter.due.Goals as goal

pub returns-in-Taken : goal.returns-in-Taken
returns-in-Taken c a log keeps before =
    c.going.ensures a (c.args.reply ∷ log) keeps
    ∙ sym (due_taken a log c.args.reply _ _ c.in-Taken.is)

pub returns-in-NotTaken : goal.returns-in-NotTaken
returns-in-NotTaken c a log keeps before =
    c.going-in-NotTaken.ensures a (c.args.reply ∷ log) keeps
    ∙ sym (due_not_taken a log c.args.reply _ _ c.in-NotTaken.is)

pub returns-in-LeastOver : goal.returns-in-LeastOver
returns-in-LeastOver c a log keeps before =
    c.least_over.ensures a (c.args.reply ∷ log) keeps
    ∙ sym (due_least_over a log c.args.reply _ _ c.in-LeastOver.is)
