use Rattle.std.proofs.Common.{◌∙◌}
use Rattle.std.proofs.lemmas.Option.{same_Some, none-some}
use Rattle.uring_reconstruct.proofs.Common.{eq-eqb, requests_of, world}
use Rattle.uring_reconstruct.proofs.Issuing.{issuable_first}
use Rattle.uring_reconstruct.proofs.starts.can_issue.Goals as goal

pub returns-in-Some : goal.returns-in-Some
returns-in-Some c = λ h fits can.
    eq-eqb c.in-Some.next c.args.number (same_Some c.in-Some.next c.args.number (c.in-Some.ensures h fits ∙ issuable_first c.args.core.now.setup.linux (requests_of (world c.args.core.now.setup h)) c.args.number can))

pub returns-in-None : goal.returns-in-None
returns-in-None c = λ h fits can.
    absurd (none-some c.args.number (c.in-None.ensures h fits ∙ issuable_first c.args.core.now.setup.linux (requests_of (world c.args.core.now.setup h)) c.args.number can))
