use Rattle.uring_number_set.proofs.BlockLemmas.{kept_here}
use Rattle.uring_number_set.proofs.blocks.Blocks.kept_block.Goals as goal

pub returns : goal.returns
returns c =
    let covers = rw (← c.self.view_is) at c.requires in
    rw (← c.self.view_is) (kept_here _ c.args.n c.index.result.now covers c.index.ensures)
