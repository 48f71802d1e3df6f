use Rattle.std.proofs.Common.{Ok, ap, ◌∙◌}
use Rattle.uring_histories.proofs.Lawful.{accepted_by}
use Rattle.uring_histories.proofs.accepted.is_accepted.Goals as goal

pub returns-in-Ok-Lawful : goal.returns-in-Ok-Lawful
returns-in-Ok-Lawful c = λ found. accepted_by c.args.setup.now c.args.bytes.now _ _ _ _ c.check-checked.ensures (c.in-Ok-Lawful.is ∙ ap Ok (rw c.in-Ok-Lawful.is at c.in-Ok-Lawful.field-0-is))
