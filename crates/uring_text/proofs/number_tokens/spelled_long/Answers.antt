use Rattle.std.proofs.Common.{◌^◌, arith}
use Rattle.uring_text.proofs.Spellings.{read_number_tells}
use Rattle.uring_text.proofs.number_tokens.spelled_long.Goals as goal

pub returns-clause-spells : goal.returns-clause-spells
returns-clause-spells c =
    read_number_tells (2 ^ 64) c.args.token.now c.number.result (omega arith) c.number.ensures
