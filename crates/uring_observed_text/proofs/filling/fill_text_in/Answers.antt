use Rattle.std.proofs.Common.{map, ap, ◌∙◌}
use Rattle.uring_observed_text.proofs.Common.{IfOk-weaker, if_ok_both}
use Rattle.uring_observed_text.proofs.Answered.{answered}
use Rattle.uring_observed_text.proofs.filling.fill_text_in.Goals as goal

pub returns-in-Nothing-clause-answered : goal.returns-in-Nothing-clause-answered
returns-in-Nothing-clause-answered g c =
    IfOk-weaker c.fill_lines.result _ _ (λ told so. answered c.args.setup.now c.args.input.now _ _ _ told (ap (map (λ line. line.now)) c.as_slice-lines.ensures.value ∙ c.in_ok-held.ensures.pieces) c.in_ok-said.ensures.said c.in-Nothing.is so) c.fill_lines.ensures.told

pub returns-in-Says-clause-answered : goal.returns-in-Says-clause-answered
returns-in-Says-clause-answered g c =
    IfOk-weaker c.fill_lines-in-Says.result _ _ (λ told so. answered c.args.setup.now c.args.input.now _ _ _ told (ap (map (λ line. line.now)) c.as_slice-lines.ensures.value ∙ c.in_ok-held.ensures.pieces) c.in_ok-said.ensures.said c.in-Says.is so) c.fill_lines-in-Says.ensures.told

pub returns-clause-answered : goal.returns-clause-answered
returns-clause-answered g c =
    if_ok_both c.told_bad.result _ _ _ (λ told bad names. answered c.args.setup.now c.args.input.now _ _ _ told (ap (map (λ line. line.now)) c.as_slice-lines.ensures.value ∙ c.in_ok-held.ensures.pieces) c.in_ok-said.ensures.said c.in-Misses.is (bad, names)) c.told_bad.ensures.verdict c.told_bad.ensures.text
