use Rattle.std.proofs.Common.{◌≡◌, length, slice_get, sym, ◌∙◌, ap, arith}
use Rattle.uring_linux.proofs.Common.{LinuxDispatch, all_below, count_below, count_below_zero, get_all_below, is_issuable, length_all_below, slice_get_past}
use Rattle.uring_linux.proofs.PassedOver.{passed_issuable, count_passed}
use Rattle.uring_linux.proofs.Standings.{gone_issuable, one_more, shown_as}
use Rattle.uring_linux.proofs.dispatch.LinuxDispatch.nth_issuable.Goals as goal

pub loop-n-init : goal.loop-n-init
loop-n-init c = record {
  low = let first = ap (λ (d : LinuxDispatch). d.held.window.first) c.self.view_is in omega arith;
  high = λ l g.
      let h = shown_as c.self.inside.window c.self.inside.drains c.self.inside.has_skipped c.self.inside.room c.self.inside.is_between_calls _ l c.self.view_is g in
      omega arith;
  counted = λ l g.
      let none = count_below_zero (is_issuable l) c.first-n.result
      (λ i lt. gone_issuable c.self.inside.window c.self.inside.drains c.self.inside.has_skipped c.self.inside.room c.self.inside.is_between_calls _ l i c.self.view_is g (omega arith))
      in
      omega arith;
}

pub returns-then-left-count : goal.returns-then-left-count
returns-then-left-count c = λ l g.
    let end = ap (λ (d : LinuxDispatch). d.accepted) c.self.view_is in
    let so_far = c.loop-n.invariant.counted l g in
    let few = c.one-count.ensures.few in
    let here = one_more (is_issuable l c.loop-n.n) c.one-count.result (c.one-count.ensures.value l g) (omega arith) in
    let place : count_below (is_issuable l) c.loop-n.n ≡ c.args.k = omega arith in
    sym
    (ap (slice_get (all_below (is_issuable l) (length l.requests.accepted))) (sym place)
    ∙ get_all_below (is_issuable l) (length l.requests.accepted) c.loop-n.n (omega (arith, end, g.accepted)) here)

pub loop-n-preserved : goal.loop-n-preserved
loop-n-preserved c = record {
  low = omega (arith, c.loop-n.invariant.low, c.next_after-n.ensures.after);
  high = λ l g.
      let h = shown_as c.self.inside.window c.self.inside.drains c.self.inside.has_skipped c.self.inside.room c.self.inside.is_between_calls _ l c.self.view_is g in
      omega (arith, c.next_after-n.ensures.high l.requests h);
  counted = λ l g.
      let h = shown_as c.self.inside.window c.self.inside.drains c.self.inside.has_skipped c.self.inside.room c.self.inside.is_between_calls _ l c.self.view_is g in
      let so_far = c.loop-n.invariant.counted l g in
      let here = c.one-count.ensures.value l g in
      let passed = count_passed (is_issuable l) c.loop-n.n c.next_after-n.result c.next_after-n.ensures.after (λ i after lt. passed_issuable l i (c.next_after-n.ensures.skipped l.requests i h after lt)) in
      omega arith;
}

pub returns : goal.returns
returns c = λ l g.
    let end = ap (λ (d : LinuxDispatch). d.accepted) c.self.view_is in
    let so_far = c.loop-n.invariant.counted l g in
    let stop : c.loop-n.n ≡ length l.requests.accepted = omega (arith, end, g.accepted, c.loop-n.invariant.high l g) in
    let counted = ap (count_below (is_issuable l)) stop in
    let long = length_all_below (is_issuable l) (length l.requests.accepted) in
    sym (slice_get_past (all_below (is_issuable l) (length l.requests.accepted)) c.args.k (omega arith))
