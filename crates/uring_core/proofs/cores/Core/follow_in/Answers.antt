use Rattle.std.proofs.Common.{◌∙◌}
use Rattle.uring_core.specs.Histories.{world}
use Rattle.uring_core.proofs.Following.{no_finish}
use Rattle.uring_core.proofs.RecordedAnswers.{one_answer, one_begin, no_position}
use Rattle.uring_core.proofs.cores.Core.follow_in.Goals as goal
use Rattle.uring_core.proofs.cores.Core.follow_in.Goals.{in_default-would_begin-via-in-Call+else-length-gt0, in_default-would_begin-via-in_default-would_begin}

pub follow_sure-requires-clause-one : goal.follow_sure-requires-clause-one
follow_sure-requires-clause-one g c = λ h f.
    one_begin c.args.self.now.setup (world c.args.self.now.setup h) c.in-Begin.count
    (λ n e some.
    elim c.in_default-would_begin.branch [
      | in_default-would_begin-via-in-Call+else-length-gt0 w ↦ no_position w.in-Call.length n c.would_begin.result w.in-Call.is (c.would_begin.ensures h f ∙ e) w.if-length-gt0.false some
      | in_default-would_begin-via-in_default-would_begin w ↦ w.in_default-would_begin.not-Call n (c.would_begin.ensures h f ∙ e)
    ])

pub follow_sure-requires-in_default : goal.follow_sure-requires-in_default
follow_sure-requires-in_default g c = record {
  no_finish = no_finish c.args.step c.in_default.not-Finish;
  one = λ h f. one_answer c.args.self.now.setup (world c.args.self.now.setup h) c.args.step c.in_default.not-Begin c.in_default.not-Finish;
}
