-- Histories whose ends are called for by their files too.
use Rattle.std.proofs.Common.{ℕ, neg_ℤ, List, [], ◌∷◌, ◌++◌, arith}
use Rattle.uring_laws.proofs.Common.{ECANCELED, History, IsLawful, IsLawfulApart, Setup}
use Rattle.uring_files.proofs.OperationCases.{outcome_other}
use Rattle.uring_core.specs.declared.step.Step.TheVariants as step
use Rattle.uring_core.specs.declared.answer.Answer.TheVariants as answer

pub lawful_apart : (g : Setup) (h : History) → IsLawful g h → IsLawfulApart g h
lawful_apart g [] lawful = tt
lawful_apart g ((step.Finish n, a) ∷ before) lawful = (grind (arith, lawful.0), lawful_apart g before lawful.1)
lawful_apart g ((s, a) ∷ before) lawful = (lawful.0, lawful_apart g before lawful.1)

-- what came before in a lawful history is lawful
pub lawful_before : (g : Setup) (after before : History) → IsLawful g (after ++ before)
    → IsLawful g before
lawful_before g [] before lawful = lawful
lawful_before g ((s, a) ∷ after) before lawful = lawful_before g after before lawful.1

-- no operation gives ECANCELED

pub finish_never_cancels : (g : Setup) (after before : History) (n : ℕ) (bytes : List ℕ)
    → IsLawful g (after ++ (step.Finish n, answer.Ended (neg_ℤ ECANCELED) bytes) ∷ before) → ⊥
finish_never_cancels g after before n bytes lawful = grind (arith, outcome_other, (lawful_before g after _ lawful).0)
