use Rattle.std.proofs.Common.{◌*◌, ◌==◌, min, ap, sym, refl, ◌∙◌}
use Rattle.std.proofs.lemmas.Bool.{eq-eqb, both_ways}
use Rattle.uring_number_set.proofs.FilledBlocks.{insert_filled, insert_filled_some, limit_puts}
use Rattle.uring_number_set.proofs.number_set.NumberSet.insert.Goals as goal

pub invariant_of-self : goal.invariant_of-self
invariant_of-self c = insert_filled _ _ _ _ c.args.n c.self.invariant c.insert.ensures.puts c.insert-then-insert.ensures.puts

pub invariant_of-self-else-insert : goal.invariant_of-self-else-insert
invariant_of-self-else-insert c =
    insert_filled_some _ _ _ c.args.n c.self.invariant c.insert.ensures.puts (λ e. both_ways _ (sym c.insert.ensures.first ∙ c.if-insert.false) (eq-eqb _ 0 e))

pub returns-then-insert : goal.returns-then-insert
returns-then-insert c =
    rw (← c.self.view_is) (limit_puts _ _ c.args.n _ _ _ c.insert.ensures.puts
    (ap (λ l. min l (64 * c.insert-then-insert.new.self.limit)) c.insert.ensures.puts.limit
    ∙ ap (λ l. min c.self.inside.numbers.limit (64 * l)) c.insert-then-insert.ensures.puts.limit))

pub returns-else-insert : goal.returns-else-insert
returns-else-insert c =
    rw (← c.self.view_is) (limit_puts _ _ c.args.n _ _ _ c.insert.ensures.puts (ap (λ l. min l (64 * c.self.inside.filled.limit)) c.insert.ensures.puts.limit))
