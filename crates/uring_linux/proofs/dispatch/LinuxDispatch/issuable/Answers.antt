use Rattle.std.proofs.Common.{◌≡◌, length, sym, ◌∙◌, ap, arith}
use Rattle.uring_linux.proofs.Common.{LinuxDispatch, count_below, count_below_zero, is_issuable, length_all_below}
use Rattle.uring_linux.proofs.PassedOver.{passed_issuable, count_passed}
use Rattle.uring_linux.proofs.Standings.{gone_issuable, shown_as}
use Rattle.uring_linux.proofs.dispatch.LinuxDispatch.issuable.Goals as goal

pub loop-k-init : goal.loop-k-init
loop-k-init c = record {
  low = let first = ap (λ (d : LinuxDispatch). d.held.window.first) c.self.view_is in omega arith;
  high = λ l g.
      let h = shown_as c.self.inside.window c.self.inside.drains c.self.inside.has_skipped c.self.inside.room c.self.inside.is_between_calls _ l c.self.view_is g in
      omega arith;
  counted = λ l g.
      sym
      (count_below_zero (is_issuable l) c.first-k.result
      (λ i lt. gone_issuable c.self.inside.window c.self.inside.drains c.self.inside.has_skipped c.self.inside.room c.self.inside.is_between_calls _ l i c.self.view_is g (omega arith)));
  within = omega arith;
}

pub loop-k-preserved : goal.loop-k-preserved
loop-k-preserved c = record {
  low = omega (arith, c.loop-k.invariant.low, c.next_after-k.ensures.after);
  high = λ l g.
      let h = shown_as c.self.inside.window c.self.inside.drains c.self.inside.has_skipped c.self.inside.room c.self.inside.is_between_calls _ l c.self.view_is g in
      omega (arith, c.next_after-k.ensures.high l.requests h);
  counted = λ l g.
      let h = shown_as c.self.inside.window c.self.inside.drains c.self.inside.has_skipped c.self.inside.room c.self.inside.is_between_calls _ l c.self.view_is g in
      let so_far = c.loop-k.invariant.counted l g in
      let here = c.one-total.ensures.value l g in
      let passed = count_passed (is_issuable l) c.loop-k.k c.next_after-k.result c.next_after-k.ensures.after (λ i after lt. passed_issuable l i (c.next_after-k.ensures.skipped l.requests i h after lt)) in
      omega arith;
  within = omega (arith, c.loop-k.invariant.within, c.one-total.ensures.few, c.next_after-k.ensures.after);
}

pub returns : goal.returns
returns c = λ l g.
    let end = ap (λ (d : LinuxDispatch). d.accepted) c.self.view_is in
    let stop : c.loop-k.k ≡ length l.requests.accepted = omega (arith, end, g.accepted, c.loop-k.invariant.high l g) in
    c.loop-k.invariant.counted l g ∙ ap (count_below (is_issuable l)) stop
    ∙ sym (length_all_below (is_issuable l) (length l.requests.accepted))
