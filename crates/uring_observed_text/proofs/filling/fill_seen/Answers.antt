use Rattle.std.proofs.Common.{map, inl, inr}
use Rattle.uring_trace.proofs.ExplainLines.{if_ok_both}
use Rattle.uring_observed_text.proofs.Answered.{told_faulty}
use Rattle.uring_observed_text.proofs.filling.fill_seen.Goals as goal

pub told_of-requires : goal.told_of-requires
told_of-requires g c = record { reads = rw c.in-All.is at c.in_ok-done.ensures.read; paired = c.in_ok-done.ensures.paired }

pub told_wrong-requires : goal.told_wrong-requires
told_wrong-requires g c = record { never = rw c.in-Wrong.is at c.in_ok-done.ensures.read; paired = c.in_ok-done.ensures.paired }

pub told_bad-requires : goal.told_bad-requires
told_bad-requires g c = let is = rw c.in-Hidden.is at c.in_ok-done.ensures.read in is.1

pub returns-in-Hidden-clause-told : goal.returns-in-Hidden-clause-told
returns-in-Hidden-clause-told g c =
    let is = rw c.in-Hidden.is at c.in_ok-done.ensures.read in
    if_ok_both c.told_bad.result _ _ _ (λ told bad names. told_faulty c.args.setup.now (map (λ line. line.now) c.args.lines.now) c.in-Hidden.place told (inr is.0) bad names) c.told_bad.ensures.verdict c.told_bad.ensures.text

pub told_bad-requires-in-Bad : goal.told_bad-requires-in-Bad
told_bad-requires-in-Bad g c = let is = rw c.in-Bad.is at c.in_ok-done.ensures.read in is.1

pub returns-in_ok-push_line_flaw_in-in-Bad-clause-told : goal.returns-in_ok-push_line_flaw_in-in-Bad-clause-told
returns-in_ok-push_line_flaw_in-in-Bad-clause-told g c =
    let is = rw c.in-Bad.is at c.in_ok-done.ensures.read in
    if_ok_both c.told_bad-in-Bad.result _ _ _ (λ told bad names. told_faulty c.args.setup.now (map (λ line. line.now) c.args.lines.now) c.in-Bad.place told (inl is.0) bad names) c.told_bad-in-Bad.ensures.verdict c.told_bad-in-Bad.ensures.text
