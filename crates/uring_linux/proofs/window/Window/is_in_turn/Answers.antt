use Rattle.std.proofs.Common.{not, is_some, sym, ◌∙◌, ap}
use Rattle.uring_linux.proofs.MemberLemmas.{turn_is}
use Rattle.uring_linux.proofs.window.Window.is_in_turn.Goals as goal

pub returns-in-Some : goal.returns-in-Some
returns-in-Some c = λ r s m kept. ap (λ o. not (is_some o)) (c.in-Some.ensures r s m kept) ∙ sym (turn_is r c.args.n)

pub returns-in-None : goal.returns-in-None
returns-in-None c = λ r s m kept. ap (λ o. not (is_some o)) (c.in-None.ensures r s m kept) ∙ sym (turn_is r c.args.n)
