use Rattle.std.proofs.Common.{◌≡◌, ℕ, List, length, map, take, sym, subst, arith, Some}
use Rattle.uring_observed_text.proofs.Common.{history_of, is_hidden, seen_in, slice_get, take_all}
use Rattle.uring_observed_text.proofs.HistoryLines.{LineThere, IsWritten, line_there, count_more, nothing_written, one_at_most, one_written}
use Rattle.uring_observed_text.proofs.writing.push_events.Goals as goal

pub loop-event-init : goal.loop-event-init
loop-event-init g c = record {
  counted = cc;
  few = omega arith;
  written = nothing_written c.args.text.now.items c.args.events.now;
}

pub push_event-requires : goal.push_event-requires
push_event-requires g c = λ shown.
    let lines : List (List ℕ) = map (λ line. line.now) c.args.shown.now in
    let t : LineThere lines (length (seen_in (history_of (take c.loop-event.event-index c.args.events.now)))) c.event-item.result = line_there lines c.args.events.now c.requires.0 c.loop-event.event-index c.event-item.result c.requires.1 c.requires.2 (omega arith) c.event-item.is shown in
    (t.line, subst (λ k. slice_get lines k ≡ Some t.line) (sym c.loop-event.invariant.counted) t.there, t.shows)

pub loop-event-preserved : goal.loop-event-preserved
loop-event-preserved g c = record {
  counted = let more = count_more c.args.events.now c.loop-event.event-index c.event-item.result (omega arith) c.event-item.is in cc (more, c.in_ok-taken.ensures.count);
  few = omega (arith, one_at_most (is_hidden c.event-item.result.0) c.in_ok-taken.taken c.in_ok-taken.ensures.count);
  written = let w = c.in_ok-taken.ensures.text in one_written c.args.text.now.items c.loop-event.text.items c.push_event.new.text.items c.args.events.now c.loop-event.event-index c.event-item.result w.0 (omega arith) c.event-item.is w.1 w.2 c.loop-event.invariant.written;
}

pub overflow_add-count : goal.overflow_add-count
overflow_add-count g c = omega (arith, one_at_most (is_hidden c.event-item.result.0) c.in_ok-taken.taken c.in_ok-taken.ensures.count)

pub returns-clause-text : goal.returns-clause-text
returns-clause-text g c =
    let w : IsWritten c.args.text.now.items c.loop-event.text.items (history_of c.args.events.now) = subst (λ es. IsWritten c.args.text.now.items c.loop-event.text.items (history_of es)) (take_all c.loop-event.event-index c.args.events.now (omega arith)) c.loop-event.invariant.written in
    (w.out, w.lines, w.text)
