use Rattle.std.proofs.Common.{◌≡◌, true, ◌∙◌, rules}
use Rattle.uring_text.specs.Reading.{is_numeral}
use Rattle.uring_text.proofs.Numbers.{numeral_parsed, numeral_utf8}
use Rattle.uring_text.proofs.number_tokens.number.Goals as goal

pub returns-in-Ok : goal.returns-in-Ok
returns-in-Ok c =
    let numeral : is_numeral c.args.token.now ≡ true = search rules in
    c.ok.ensures.value ∙ numeral_parsed c.args.token.now c.parse.result numeral (rw c.in-Ok.ensures.cases.0 at c.parse.ensures.value.0)

pub returns-in-Err : goal.returns-in-Err
returns-in-Err c =
    let numeral : is_numeral c.args.token.now ≡ true = search rules in
    absurd (c.in-Err.ensures.cases.0 (numeral_utf8 c.args.token.now numeral))
