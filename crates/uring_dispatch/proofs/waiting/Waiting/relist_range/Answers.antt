use Rattle.std.proofs.Common.{arith, inl, inr, ◌≡◌}
use Rattle.std.proofs.lemmas.Bool.{cases_lt}
use Rattle.uring_dispatch.proofs.WaitingLemmas.{keeps_both}
use Rattle.uring_dispatch.proofs.waiting.Waiting.relist_range.Goals as goal

pub loop-n-preserved : goal.loop-n-preserved
loop-n-preserved c = record {
  here = λ k from to.
      elim (cases_lt k c.loop-n.n) [
        | inl low ↦ c.relist.ensures.keeps.told k (c.loop-n.invariant.here k from low)
        | inr high ↦
            let same : k ≡ c.loop-n.n = omega arith in rw same c.relist.ensures.here
      ];
  keeps = keeps_both _ _ _ _ _ c.loop-n.invariant.keeps c.relist.ensures.keeps;
}
