use Rattle.std.proofs.Common.{◌∷◌, [], map, ap, ◌∙◌, arith}
use Rattle.std.proofs.Math.Nat.{le_refl}
use Rattle.std.proofs.lemmas.Bool.{false≢true}
use Rattle.std.proofs.lemmas.List.{map-append}
use Rattle.uring_observed_text.proofs.Common.{history_of}
use Rattle.uring_observed_text.proofs.OneLine.{line_at, none_read, passed_read, shown_read, wrong_read, hidden_read, bad_read, all_read}
use Rattle.uring_observed_text.proofs.reading.read.Goals as goal

pub loop-place-init : goal.loop-place-init
loop-place-init g c = none_read c.args.core.now c.args.events.now.items (map (λ line. line.now) c.args.shown.now.items) c.requires.fits c.requires.no_event (ap (map (λ line. line.now)) c.requires.no_line)

pub loop-place-preserved-in-Passed : goal.loop-place-preserved-in-Passed
loop-place-preserved-in-Passed g c =
    passed_read c.args.core.now.setup (map (λ line. line.now) c.args.lines.now) c.loop-place.place _ c.loop-place.core c.see.new.core c.loop-place.events.items _ (line_at (λ line. line.now) c.args.lines.now c.loop-place.place _ (omega arith)) c.in_ok-sight.ensures.setup (rw c.in-Passed.is at c.in_ok-sight.ensures.sight) c.loop-place.invariant

pub loop-place-preserved : goal.loop-place-preserved
loop-place-preserved g c =
    shown_read c.args.core.now.setup (map (λ line. line.now) c.args.lines.now) c.loop-place.place _ c.in-Shown.step c.in-Shown.answer c.loop-place.core c.see.new.core c.loop-place.events.items _ _ _ (line_at (λ line. line.now) c.args.lines.now c.loop-place.place _ (omega arith)) c.in_ok-sight.ensures.setup (rw c.in-Shown.is at c.in_ok-sight.ensures.sight) c.in_ok-push-in-Shown.ensures.items (ap (map (λ line. line.now)) c.in_ok-push-in-Shown-2.ensures.items ∙ map-append (λ line. line.now) c.loop-place.shown.items (_ ∷ [])) c.loop-place.invariant

pub returns-in-Wrong-clause-read : goal.returns-in-Wrong-clause-read
returns-in-Wrong-clause-read g c =
    wrong_read c.args.core.now.setup (map (λ line. line.now) c.args.lines.now) c.loop-place.place _ c.loop-place.core c.see.new.core c.loop-place.events.items _ (line_at (λ line. line.now) c.args.lines.now c.loop-place.place _ (omega arith)) c.in_ok-sight.ensures.setup (rw c.in-Wrong.is at c.in_ok-sight.ensures.sight) c.loop-place.invariant

pub returns-in-Hidden-clause-read : goal.returns-in-Hidden-clause-read
returns-in-Hidden-clause-read g c = (
  hidden_read c.args.core.now.setup (map (λ line. line.now) c.args.lines.now) c.loop-place.place _ c.loop-place.core c.see.new.core c.loop-place.events.items _ (line_at (λ line. line.now) c.args.lines.now c.loop-place.place _ (omega arith)) (rw c.in-Hidden.is at c.in_ok-sight.ensures.sight) c.loop-place.invariant,
  omega arith,
)

pub returns-in-Bad-clause-read : goal.returns-in-Bad-clause-read
returns-in-Bad-clause-read g c = (
  bad_read c.args.core.now.setup (map (λ line. line.now) c.args.lines.now) c.loop-place.place _ c.loop-place.core c.see.new.core c.loop-place.events.items _ (line_at (λ line. line.now) c.args.lines.now c.loop-place.place _ (omega arith)) (rw c.in-Bad.is at c.in_ok-sight.ensures.sight) c.loop-place.invariant,
  omega arith,
)

pub returns-clause-read : goal.returns-clause-read
returns-clause-read g c = all_read c.args.core.now.setup (λ line. line.now) c.args.lines.now c.loop-place.place c.loop-place.core c.loop-place.events.items _ (omega arith) c.loop-place.invariant

pub returns-in_err-sight-clause-granted : goal.returns-in_err-sight-clause-granted
returns-in_err-sight-clause-granted g c = λ all. absurd (false≢true (c.in_err-sight.ensures.granted (history_of c.loop-place.events.items) c.loop-place.invariant.fits all))

pub returns-in_err-push-in-Shown-clause-granted : goal.returns-in_err-push-in-Shown-clause-granted
returns-in_err-push-in-Shown-clause-granted g c = λ all. absurd (false≢true (c.in_err-push-in-Shown.ensures.granted _ (all _) (le_refl _)))

pub returns-in_err-push-in-Shown-2-clause-granted : goal.returns-in_err-push-in-Shown-2-clause-granted
returns-in_err-push-in-Shown-2-clause-granted g c = λ all. absurd (false≢true (c.in_err-push-in-Shown-2.ensures.granted _ (all _) (le_refl _)))
