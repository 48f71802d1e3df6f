use Rattle.std.proofs.Common.{◌≡◌, ◌+◌, ◌≤◌, Bool, true, false, List, [], ◌∷◌, ◌++◌, length, take, if◌then◌else◌, sym, subst, ap, ◌∙◌, arith}
use Rattle.uring_reconstruct.proofs.Common.{Event, History, history_of, is_hidden, length_push, seen_in}
use Rattle.uring_reconstruct.proofs.Seeing.{at_most_one, taken_next}
use Rattle.uring_reconstruct.proofs.seen.seen_among.Goals as goal

seen_more : (hidden : Bool) (xs : List Event) (e : Event) → length (if hidden then xs else xs ++ e ∷ []) ≡ length xs + (if hidden then 0 else 1)
seen_more true xs e = omega arith
seen_more false xs e = length_push xs e

pub loop-event-preserved : goal.loop-event-preserved
loop-event-preserved c =
    let e = c.event-item.result in
    let low = c.loop-event-test.true in
    let xs = seen_in (history_of (take c.loop-event.event-index c.args.events.now)) in
    let one : c.one_if_seen-count.result ≤ 1 = subst (λ n. n ≤ 1) (sym c.one_if_seen-count.ensures) (at_most_one _) in
    record {
      counted =
          ap (λ n. n + c.one_if_seen-count.result) c.loop-event.invariant.counted ∙ ap (λ n. length xs + n) c.one_if_seen-count.ensures
          ∙ sym (seen_more (is_hidden e.0) xs e) ∙ ap (λ (h : History). length (seen_in h)) (sym (taken_next c.args.events.now c.loop-event.event-index e (omega (arith, low)) c.event-item.is));
      few = let far = c.loop-event.invariant.few in omega (arith, one, far);
    }
