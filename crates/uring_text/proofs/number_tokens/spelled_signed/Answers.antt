use Rattle.uring_text.proofs.NumberLaws.{signed_tells}
use Rattle.uring_text.proofs.number_tokens.spelled_signed.Goals as goal

pub returns-clause-spells : goal.returns-clause-spells
returns-clause-spells c = signed_tells c.args.token.now c.file.result c.file.ensures
