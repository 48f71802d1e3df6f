use Rattle.std.proofs.Common.{◌≡◌, [], ℕ, List, false, refl}
use Rattle.uring_trace.proofs.Common.{IsTrue, kept_of}
use Rattle.uring_trace.proofs.ExplainLines.{explain_last, explain_none}
use Rattle.uring_trace.proofs.explainer.Explainer.take_last.Goals as goal

pub returns-then-is_empty-clause-ok : goal.returns-then-is_empty-clause-ok
returns-then-is_empty-clause-ok g c = λ telling sure before told noted h. explain_none telling _ _ _ _ before _ _ (λ line e. (c.if-is_empty.ensures line e).0 refl) h

pub returns-clause-ok : goal.returns-clause-ok
returns-clause-ok g c =
    let some : (line : List ℕ) → c.args.self.now.line ≡ kept_of line → line ≡ [] → ⊥ = λ line e none. let is : IsTrue false = (c.if-is_empty.ensures line e).1 none in absurd cc in
    λ telling sure before told noted h. explain_last _ telling _ _ _ _ _ _ before told _ _ noted _ _ some c.in_ok-tell_line.ensures.told sure h
