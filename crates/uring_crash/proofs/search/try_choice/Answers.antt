use Rattle.std.proofs.Common.{List, ℕ, sym, subst}
use Rattle.uring_crash.specs.Keeping.{Holds}
use Rattle.uring_crash.proofs.search.try_choice.Goals as goal

pub returns-clause-without : goal.returns-clause-without
returns-clause-without g c = λ unit setup fd h w. (
  c.in_ok-image.ensures.image unit setup fd h w,
  λ held. c.holds.ensures.no c.if-holds.false (subst (λ (b : List ℕ). Holds c.args.off c.args.bytes.now b) (sym c.deref.ensures.value) held),
)
