use Rattle.std.proofs.Common.{◌*◌, min, ap, ◌∙◌}
use Rattle.uring_number_set.proofs.FilledBlocks.{limit_puts}
use Rattle.uring_number_set.proofs.number_set.NumberSet.remove.Goals as goal

pub returns-then-remove : goal.returns-then-remove
returns-then-remove c =
    rw (← c.self.view_is) (limit_puts _ _ c.args.n _ _ _ c.remove.ensures.puts
    (ap (λ l. min l (64 * c.remove-then-remove.new.self.limit)) c.remove.ensures.puts.limit
    ∙ ap (λ l. min c.self.inside.numbers.limit (64 * l)) c.remove-then-remove.ensures.puts.limit))

pub returns-else-remove : goal.returns-else-remove
returns-else-remove c =
    rw (← c.self.view_is) (limit_puts _ _ c.args.n _ _ _ c.remove.ensures.puts (ap (λ l. min l (64 * c.self.inside.filled.limit)) c.remove.ensures.puts.limit))
