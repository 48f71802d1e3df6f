use Rattle.std.proofs.Common.{◌≡◌, ◌/◌, length, refl, arith, rules}
use Rattle.uring_observed_text.proofs.Common.{codes}
use Rattle.uring_observed_text.proofs.WrittenCompletions.{dash_padded, data_digits, data_few, data_many, decoded_padded}
use Rattle.uring_observed_text.proofs.payload.payload_of.Goals as goal

pub returns-then-dash : goal.returns-then-dash
returns-then-dash c =
    let is : c.args.token.now ≡ codes "-" = search rules in
    dash_padded c.args.token.now _ is refl

pub returns-then-count-eq0 : goal.returns-then-count-eq0
returns-then-count-eq0 c =
    let other : c.args.token.now ≡ codes "-" → ⊥ = search rules in
    let is = c.if-count-eq0.true in
    data_few c.args.token.now other (omega (arith, is))

pub returns-then-count-gt-SIZE : goal.returns-then-count-gt-SIZE
returns-then-count-gt-SIZE c =
    let other : c.args.token.now ≡ codes "-" → ⊥ = search rules in
    let is = c.if-count-gt-SIZE.true in
    data_many c.args.token.now other (omega (arith, is))

pub returns : goal.returns
returns c =
    let other : c.args.token.now ≡ codes "-" → ⊥ = search rules in
    let some = c.if-count-eq0.false in
    let few = c.if-count-gt-SIZE.false in
    decoded_padded c.args.token.now (length c.args.token.now / 2) c.decoded.result
    (data_digits c.args.token.now (length c.args.token.now / 2) other refl (λ none. absurd (omega (arith, some, none))) (omega (arith, few)))
    c.decoded.ensures
