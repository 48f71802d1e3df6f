use Rattle.std.proofs.Common.{leb, ◌&&◌, length, sym, ◌∙◌, ap, arith, inl, inr}
use Rattle.uring_linux.proofs.Common.{LinuxDispatch, and_from, and_left, and_right, cases_lt, is_issuable, le-leb, least_below_none, least_below_some, lt-leb}
use Rattle.uring_linux.proofs.PassedOver.{passed_issuable}
use Rattle.uring_linux.proofs.Standings.{gone_issuable, shown_as}
use Rattle.uring_linux.proofs.dispatch.LinuxDispatch.next_issuable.Goals as goal

pub loop-k-init : goal.loop-k-init
loop-k-init c =
    let first = ap (λ (d : LinuxDispatch). d.held.window.first) c.self.view_is in
    record {
      after = omega arith;
      low = omega arith;
      passed = λ l g i lt.
          elim (cases_lt i c.args.n) [
            | inl low ↦ and_left _ _ (lt-leb c.args.n i low)
            | inr past ↦ and_right _ _ (gone_issuable c.self.inside.window c.self.inside.drains c.self.inside.has_skipped c.self.inside.room c.self.inside.is_between_calls _ l i c.self.view_is g (omega (arith, lt, past)))
          ];
    }

pub returns-then-is_issuable : goal.returns-then-is_issuable
returns-then-is_issuable c = λ l g.
    let end = ap (λ (d : LinuxDispatch). d.accepted) c.self.view_is in
    sym
    (least_below_some (λ i. leb c.args.n i && is_issuable l i) (length l.requests.accepted) c.loop-k.k (omega (arith, end, g.accepted))
    (and_from _ _ (le-leb c.args.n c.loop-k.k c.loop-k.invariant.after) (sym (c.is_issuable.ensures l g) ∙ c.if-is_issuable.true))
    (c.loop-k.invariant.passed l g))

pub loop-k-preserved : goal.loop-k-preserved
loop-k-preserved c = record {
  after = omega (arith, c.loop-k.invariant.after, c.next_after-k.ensures.after);
  low = omega (arith, c.loop-k.invariant.low, c.next_after-k.ensures.after);
  passed = λ l g i lt.
      elim (cases_lt i c.loop-k.k) [
        | inl before ↦ c.loop-k.invariant.passed l g i before
        | inr past ↦
            elim (cases_lt c.loop-k.k i) [
              | inl after ↦ and_right _ _ (passed_issuable l i (c.next_after-k.ensures.skipped l.requests i (shown_as c.self.inside.window c.self.inside.drains c.self.inside.has_skipped c.self.inside.room c.self.inside.is_between_calls _ l c.self.view_is g) after lt))
              | inr here ↦ and_right _ _ (ap (is_issuable l) (omega (arith, past, here)) ∙ sym (c.is_issuable.ensures l g) ∙ c.if-is_issuable.false)
            ]
      ];
}

pub returns : goal.returns
returns c = λ l g.
    let end = ap (λ (d : LinuxDispatch). d.accepted) c.self.view_is in
    sym
    (least_below_none (λ i. leb c.args.n i && is_issuable l i) (length l.requests.accepted)
    (λ i lt. c.loop-k.invariant.passed l g i (omega (arith, end, g.accepted))))
