use Rattle.std.proofs.Common.{◌≡◌, ◌^◌, None, Some, sym, ◌∙◌, rules, arith}
use Rattle.uring_text.specs.Reading.{number_of}
use Rattle.uring_text.proofs.Numbers.{number_below_is, number_above, no_number}
use Rattle.uring_text.proofs.number_tokens.number_below.Goals as goal

pub returns-in_err-n-clause-value : goal.returns-in_err-n-clause-value
returns-in_err-n-clause-value c =
    let none : number_of (2 ^ 64) c.args.token.now ≡ None = search rules in
    let left : c.from_residual.result ≡ None = search rules in
    left ∙ sym (no_number c.args.limit c.args.token.now none (omega arith))

pub returns-then-n-limit-clause-value : goal.returns-then-n-limit-clause-value
returns-then-n-limit-clause-value c =
    let found : number_of (2 ^ 64) c.args.token.now ≡ Some c.in_ok-n.n = search rules in
    sym (number_below_is c.args.limit c.args.token.now c.in_ok-n.n found (omega arith))

pub returns-else-n-limit-clause-value : goal.returns-else-n-limit-clause-value
returns-else-n-limit-clause-value c =
    let found : number_of (2 ^ 64) c.args.token.now ≡ Some c.in_ok-n.n = search rules in
    sym (number_above c.args.limit c.args.token.now c.in_ok-n.n found (omega arith))
