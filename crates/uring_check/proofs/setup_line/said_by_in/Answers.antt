use Rattle.std.proofs.Common.{◌≡◌, true, false, length, refl}
use Rattle.uring_check.proofs.Common.{IsSaid, le-leb, lt-leb, nat_le}
use Rattle.uring_check.proofs.setup_line.said_by_in.Goals as goal

pub returns-in_ok-tokens-in-Some-clause-said : goal.returns-in_ok-tokens-in-Some-clause-said
returns-in_ok-tokens-in-Some-clause-said g c = λ bytes kept.
    let same : c.in-Some.bytes.now ≡ bytes = rw c.in-Some.is at (c.whole.ensures.line bytes kept) in
    let short : nat_le (length c.in-Some.bytes.now) 300 ≡ true = le-leb (length c.in-Some.bytes.now) 300 c.in-Some.ensures.short in
    let said : IsSaid c.in-Some.bytes.now c.said_of.result = rw short (rw (c.as_slice.ensures.value, c.in_ok-tokens-in-Some.ensures.tokens) at c.said_of.ensures) in
    rw same at said

pub returns-in-None-clause-said : goal.returns-in-None-clause-said
returns-in-None-clause-said g c = λ bytes kept.
    let long : nat_le (length bytes) 300 ≡ false = lt-leb (length bytes) 300 (rw c.in-None.is at (c.whole.ensures.line bytes kept)) in
    rw long refl
