use Rattle.std.proofs.Common.{rules}
use Rattle.uring_trace.proofs.ExplainStreams.{pair_cut, pair_whole}
use Rattle.uring_trace.proofs.explain_loop.write_both.Goals as goal

pub returns-in_err-write_all-clause-texts : goal.returns-in_err-write_all-clause-texts
returns-in_err-write_all-clause-texts g c = pair_cut _ _ _ _ c.in_err-write_all.field-0.0 c.args.text.now c.args.notes.now (search rules) c.in_err-write_all.ensures.text

pub returns-clause-texts : goal.returns-clause-texts
returns-clause-texts g c = pair_whole _ _ _ _ _ c.args.text.now c.args.notes.now c.in_ok-write_all.ensures.text c.write_all-2.ensures.text
