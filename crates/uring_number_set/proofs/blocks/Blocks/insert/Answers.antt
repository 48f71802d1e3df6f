use Rattle.std.proofs.Common.{refl, ap, ◌*◌, ◌+◌, ◌==◌}
use Rattle.uring_number_set.proofs.BlockLemmas.{insert_puts}
use Rattle.uring_number_set.proofs.blocks.Blocks.insert.Goals as goal

pub returns : goal.returns
returns c =
    let covers = rw (← c.self.view_is) at c.requires in
    let was = rw (← c.self.view_is) at c.kept_block-was.ensures in
    rw (← c.self.view_is) (record {
      puts = insert_puts _ _ c.args.n c.kept_block-was.result covers was refl c.write.ensures.items (ap (λ x. 64 * (c.self.inside.first + x)) c.write.ensures.capacity);
      first = ap (λ x. x == 0) was;
    })
