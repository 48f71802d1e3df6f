use Rattle.std.proofs.Common.{◌≡◌, false, true, sym, subst}
use Rattle.uring_outcomes.proofs.Common.{AreUnnamed, among}
use Rattle.uring_outcomes.proofs.NextCalls.{next_unnamed, unnamed_next, none_next}
use Rattle.uring_outcomes.proofs.RunSteps.{call_there}
use Rattle.uring_outcomes.proofs.next.is_next_unnamed.Goals as goal

pub returns-in-Some : goal.returns-in-Some
returns-in-Some c = λ m at.
    let names = c.args.names.now in
    let there = call_there c.args.calls.now c.args.run.now.next_call c.in-Some.call c.in-Some.ensures.lookup in (
      λ so. next_unnamed names c.args.calls.now m c.args.run.now.next_call c.in-Some.call.now at.left there.0 there.1 (subst (AreUnnamed (among names)) c.as_slice.ensures.value (c.are_unnamed.ensures.0 so)),
      λ e. c.are_unnamed.ensures.1 (subst (AreUnnamed (among names)) (sym c.as_slice.ensures.value) (unnamed_next names c.args.calls.now m c.args.run.now.next_call c.in-Some.call.now at.left there.0 there.1 e)),
    )

pub returns-in-None : goal.returns-in-None
returns-in-None c = λ m at. (
  λ no. absurd (let f : false ≡ true = no in cc),
  λ e. absurd (none_next c.args.names.now c.args.calls.now m c.args.run.now.next_call at.left c.in-None.ensures.lookup.3 e),
)
