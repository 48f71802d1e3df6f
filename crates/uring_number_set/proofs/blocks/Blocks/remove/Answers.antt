use Rattle.std.proofs.Common.{◌≡◌, refl, sym, ap, ◌∙◌, ◌*◌, ◌+◌, ◌==◌}
use Rattle.std.specs.Prelude.{vec_capacity}
use Rattle.uring_number_set.specs.NumberSet.{NumberSet}
use Rattle.std.proofs.lemmas.Bool.{eqb-true, ne_eqb}
use Rattle.uring_number_set.proofs.BlockLemmas.{remove_puts, written_here}
use Rattle.uring_number_set.proofs.FilledBlocks.{zero_puts}
use Rattle.uring_number_set.proofs.blocks.Blocks.remove.Goals as goal

pub returns-then-was-eq0-clause-puts : goal.returns-then-was-eq0-clause-puts
returns-then-was-eq0-clause-puts c = rw (← c.self.view_is) (zero_puts _ c.args.n (sym (rw (← c.self.view_is) at c.kept_block-was.ensures) ∙ c.if-was-eq0.true))

pub returns : goal.returns
returns c =
    let covers = rw (← c.self.view_is) at c.requires in
    let was = rw (← c.self.view_is) at c.kept_block-was.ensures in
    let now : NumberSet = record { first = c.self.inside.first; blocks = c.write.new.blocks.items; limit = 64 * (c.self.inside.first + vec_capacity c.write.new.blocks) } in
    let here = written_here _ now c.args.n _ covers refl c.write.ensures.items in
    rw (← c.self.view_is) (record {
      puts = remove_puts _ _ c.args.n c.kept_block-was.result covers was refl c.write.ensures.items (ap (λ x. 64 * (c.self.inside.first + x)) c.write.ensures.capacity);
      last = λ e. here ∙ eqb-true _ 0 e;
      other = λ e. ap (λ x. x == 0) here ∙ e ∙ sym (ne_eqb _ 0 (λ z. c.if-was-eq0.false (was ∙ z)));
    })
