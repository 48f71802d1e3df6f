use Rattle.std.proofs.Common.{◌≡◌, ◌<◌, false, true, length, sym, ◌∙◌, arith}
use Rattle.uring_outcomes.proofs.Common.{eq-eqb, eqb-true, outstanding_in}
use Rattle.uring_outcomes.proofs.Moving.{none_left, some_left}
use Rattle.uring_outcomes.proofs.walk.is_over.Goals as goal

pub returns-then-run-calls : goal.returns-then-run-calls
returns-then-run-calls c = λ m at.
    let low : c.args.run.now.next_call < length c.args.calls.now = omega arith in (
      λ no. absurd (let f : false ≡ true = no in cc),
      λ over. absurd (some_left c.args.calls.now m c.args.run.now.next_call at.left low over.none_left),
    )

pub returns : goal.returns
returns c = λ m at.
    let told : c.outstanding.result ≡ outstanding_in m.requests = c.outstanding.ensures.shown m.requests at.requests in (
      λ none. record {
        none_left = none_left c.args.calls.now m c.args.run.now.next_call at.left (omega arith);
        none_outstanding = sym told ∙ eqb-true c.outstanding.result 0 none;
      },
      λ over. eq-eqb c.outstanding.result 0 (told ∙ over.none_outstanding),
    )
