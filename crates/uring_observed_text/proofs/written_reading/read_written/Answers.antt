use Rattle.std.proofs.Common.{map, arith}
use Rattle.std.proofs.Math.Nat.{le_refl}
use Rattle.std.proofs.lemmas.Bool.{false≢true}
use Rattle.uring_observed_text.proofs.Common.{blank, history_of}
use Rattle.uring_observed_text.proofs.OneLine.{line_at}
use Rattle.uring_observed_text.proofs.WrittenLines.{all_written, bad_written, none_written, passed_written, shown_written, wrong_written}
use Rattle.uring_observed_text.proofs.written_reading.read_written.Goals as goal

pub loop-place-init : goal.loop-place-init
loop-place-init g c = none_written c.args.core.now c.args.events.now.items c.requires.fits c.requires.no_event

pub loop-place-preserved-in-Passed : goal.loop-place-preserved-in-Passed
loop-place-preserved-in-Passed g c =
    passed_written c.args.core.now.setup (map (λ line. line.now) c.args.lines.now) c.loop-place.place _ c.loop-place.core c.look.new.core c.loop-place.events.items (line_at (λ line. line.now) c.args.lines.now c.loop-place.place _ (omega arith)) c.in_ok-sight.ensures.setup (rw c.in-Passed.is at c.in_ok-sight.ensures.sight) c.loop-place.invariant

pub loop-place-preserved : goal.loop-place-preserved
loop-place-preserved g c =
    shown_written c.args.core.now.setup (map (λ line. line.now) c.args.lines.now) c.loop-place.place _ c.in-Shown.step c.in-Shown.answer c.loop-place.core c.look.new.core c.loop-place.events.items _ (line_at (λ line. line.now) c.args.lines.now c.loop-place.place _ (omega arith)) c.in_ok-sight.ensures.setup (rw c.in-Shown.is at c.in_ok-sight.ensures.sight) c.in_ok-push-in-Shown.ensures.items c.loop-place.invariant

pub returns-in-Wrong-clause-read : goal.returns-in-Wrong-clause-read
returns-in-Wrong-clause-read g c =
    wrong_written c.args.core.now.setup (map (λ line. line.now) c.args.lines.now) c.loop-place.place _ c.loop-place.core c.look.new.core c.loop-place.events.items (line_at (λ line. line.now) c.args.lines.now c.loop-place.place _ (omega arith)) c.in_ok-sight.ensures.setup (rw c.in-Wrong.is at c.in_ok-sight.ensures.sight) c.loop-place.invariant

pub returns-in-Bad-clause-read : goal.returns-in-Bad-clause-read
returns-in-Bad-clause-read g c =
    bad_written c.args.core.now.setup (map (λ line. line.now) c.args.lines.now) c.loop-place.place _ c.loop-place.core c.look.new.core c.loop-place.events.items (line_at (λ line. line.now) c.args.lines.now c.loop-place.place _ (omega arith)) (rw c.in-Bad.is at c.in_ok-sight.ensures.sight) c.loop-place.invariant

pub returns-in-Hidden-clause-read : goal.returns-in-Hidden-clause-read
returns-in-Hidden-clause-read g c =
    (rw c.in-Hidden.is at c.in_ok-sight.ensures.sight) (map blank (history_of c.loop-place.events.items)) c.loop-place.invariant.fits

pub returns-clause-read : goal.returns-clause-read
returns-clause-read g c = all_written c.args.core.now.setup (λ line. line.now) c.args.lines.now c.loop-place.place c.loop-place.core c.loop-place.events.items (omega arith) c.loop-place.invariant

pub returns-in_err-sight-clause-granted : goal.returns-in_err-sight-clause-granted
returns-in_err-sight-clause-granted g c = λ all. absurd (false≢true (c.in_err-sight.ensures.granted _ c.loop-place.invariant.fits all))

pub returns-in_err-push-in-Shown-clause-granted : goal.returns-in_err-push-in-Shown-clause-granted
returns-in_err-push-in-Shown-clause-granted g c = λ all. absurd (false≢true (c.in_err-push-in-Shown.ensures.granted _ (all _) (le_refl _)))
