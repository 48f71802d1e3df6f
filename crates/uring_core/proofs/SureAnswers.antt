-- Only a Begin is answered Again.
use Rattle.std.proofs.Common.{◌≡◌, ℕ, ◌∷◌, arith}
use Rattle.uring_core.proofs.Common.{Answer, Core, FitsApart, History, IsNoFinish, Step}
use Rattle.uring_core.specs.declared.step.Step.TheVariants as step
use Rattle.uring_core.specs.declared.answer.Answer.TheVariants as answer

pub never_again : (p : Core) (s : Step) (a : Answer) (h : History) → IsNoFinish s
    → ((count : ℕ) → s ≡ step.Begin count → ⊥) → FitsApart p ((s, a) ∷ h) → a ≡ answer.Again → ⊥
never_again p s a h finish begin f e = grind arith
