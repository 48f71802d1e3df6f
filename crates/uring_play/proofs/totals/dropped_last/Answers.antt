use Rattle.std.proofs.Common.{sym, ap, ◌∙◌}
use Rattle.std.proofs.lemmas.Option.{slice_get_within, get_or_from_slice_get}
use Rattle.uring_core.specs.Histories.{Event}
use Rattle.uring_play.specs.Totals.{dropped_by}
use Rattle.uring_play.proofs.TotalLaws.{closed_more, other_more}
use Rattle.uring_play.proofs.totals.dropped_last.Goals as goal
use Rattle.uring_play.proofs.totals.dropped_last.Goals.{in-Taken, in_default-answer}

pub loop-place-preserved : goal.loop-place-preserved
loop-place-preserved c =
    let trace = c.args.trace.now.items in
    let place = c.loop-place.place in
    let event : Event = (c.in-Some.field-0-0, c.in-Some.answer) in
    let found = sym c.get.ensures ∙ c.in-Some.is in
    let within = slice_get_within trace place event found in
    let here = sym (get_or_from_slice_get trace place event event found) in
    elim c.match-answer.branch [
      | in-Taken w ↦ closed_more trace place event w.in-Taken.count _ within here (ap dropped_by w.in-Taken.is) w.dropped-is
      | in_default-answer w ↦ other_more trace place event c.loop-place.dropped _ within here w.in_default-answer.not-Taken w.dropped-is c.loop-place.invariant
    ]
