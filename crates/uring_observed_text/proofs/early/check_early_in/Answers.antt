use Rattle.std.proofs.Common.{map, refl, ap, ◌∙◌}
use Rattle.std.proofs.lemmas.Result.{IfOk-weaker}
use Rattle.uring_observed_text.proofs.WrittenLines.{early_answered}
use Rattle.uring_observed_text.proofs.early.check_early_in.Goals as goal

pub returns-in-Nothing-clause-early : goal.returns-in-Nothing-clause-early
returns-in-Nothing-clause-early g c =
    IfOk-weaker c.check_lines.result _ _ (λ found so. early_answered c.args.setup.now c.args.input.now _ _ _ found (ap (map (λ line. line.now)) c.as_slice-lines.ensures.value ∙ c.in_ok-held.ensures.pieces) c.in_ok-said.ensures.said c.in-Nothing.is so) c.check_lines.ensures.early

pub returns-in-Says-clause-early : goal.returns-in-Says-clause-early
returns-in-Says-clause-early g c =
    IfOk-weaker c.check_lines-in-Says.result _ _ (λ found so. early_answered c.args.setup.now c.args.input.now _ _ _ found (ap (map (λ line. line.now)) c.as_slice-lines.ensures.value ∙ c.in_ok-held.ensures.pieces) c.in_ok-said.ensures.said c.in-Says.is so) c.check_lines-in-Says.ensures.early

pub returns-clause-early : goal.returns-clause-early
returns-clause-early g c =
    early_answered c.args.setup.now c.args.input.now _ _ _ _ (ap (map (λ line. line.now)) c.as_slice-lines.ensures.value ∙ c.in_ok-held.ensures.pieces) c.in_ok-said.ensures.said c.in-Misses.is refl
