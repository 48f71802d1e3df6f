use Rattle.std.proofs.Common.{◌∙◌}
use Rattle.uring_number_set.proofs.BlockLemmas.{holds_same}
use Rattle.uring_dispatch.proofs.WaitingLemmas.{grows_told}
use Rattle.uring_dispatch.proofs.waiting.Waiting.accept.Goals as goal

pub returns-clause-told : goal.returns-clause-told
returns-clause-told c = λ k e.
    c.relist_range.ensures.keeps.told k
    (record { head = holds_same _ _ c.extend.ensures.same.same k ∙ e.head; doomed = holds_same _ _ c.extend-2.ensures.same.same k ∙ e.doomed })

pub returns-clause-heads_reach : goal.returns-clause-heads_reach
returns-clause-heads_reach c =
    grows_told c.args.self.now.heads c.extend.new.self c.relist_range.new.self.heads c.args.n c.extend.ensures c.relist_range.ensures.keeps.heads

pub returns-clause-doomed_reach : goal.returns-clause-doomed_reach
returns-clause-doomed_reach c =
    grows_told c.args.self.now.doomed c.extend-2.new.self c.relist_range.new.self.doomed c.args.n c.extend-2.ensures c.relist_range.ensures.keeps.doomed
