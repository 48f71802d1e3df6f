use Rattle.std.proofs.Common.{sym, ◌∙◌}
use Rattle.uring_enter.proofs.Next.{heard_enough}
use Rattle.uring_enter.proofs.call.enter.Enter.hearing.Goals as goal

pub returns-then-is_enough : goal.returns-then-is_enough
returns-then-is_enough c a log keeps before =
    c.ended.ensures a log keeps
    ∙ sym (heard_enough a log c.args.sight (sym c.in-Other.is ∙ before)
    (sym (c.is_enough.ensures a log keeps) ∙ c.if-is_enough.true))
