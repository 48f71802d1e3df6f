use Rattle.std.proofs.Common.{◌≡◌, false, true, Some, sym, ap, ◌∙◌}
use Rattle.uring_outcomes.proofs.Common.{eq-eqb, eqb-true, none-some, same_Some}
use Rattle.uring_outcomes.proofs.Moving.{first_issuable, issuable_first}
use Rattle.uring_outcomes.proofs.next.can_issue.Goals as goal

pub returns-in-Some : goal.returns-in-Some
returns-in-Some c = λ calls m at. (
  λ so. first_issuable m.requests c.args.number (sym (c.in-Some.ensures m.requests at.requests) ∙ ap Some (eqb-true c.in-Some.next c.args.number so)),
  λ can. eq-eqb c.in-Some.next c.args.number (same_Some c.in-Some.next c.args.number (c.in-Some.ensures m.requests at.requests ∙ issuable_first m.requests c.args.number can)),
)

pub returns-in-None : goal.returns-in-None
returns-in-None c = λ calls m at. (
  λ no. absurd (let f : false ≡ true = no in cc),
  λ can. absurd (none-some c.args.number (c.in-None.ensures m.requests at.requests ∙ issuable_first m.requests c.args.number can)),
)
