use Rattle.std.proofs.Common.{◌≡◌, ◌<◌, ◌+◌, ℕ, List, [], ◌∷◌, ◌++◌, length, take, get_or, sym, ap, subst, ◌∙◌, append_assoc, arith, rules}
use Rattle.uring_crash.proofs.Common.{Follows, take_all, take_more}
use Rattle.uring_crash.proofs.follower.Follower.feed.Goals as goal

pub loop-byte-preserved : goal.loop-byte-preserved
loop-byte-preserved g c = λ unit setup fd most before f.
    let bytes : List ℕ = c.args.bytes.now in
    let i : ℕ = c.loop-byte.byte-index in
    let more = c.in_ok-take.ensures.follows unit setup fd most (before ++ take i bytes) (c.loop-byte.invariant unit setup fd most before f) in
    let lt : i < length bytes = search rules in
    let next : take (i + 1) bytes ≡ take i bytes ++ get_or bytes i 0 ∷ [] = take_more bytes i 0 lt in
    subst (λ (l : List ℕ). Follows unit setup fd most c.take.new.self l) (append_assoc before (take i bytes) (get_or bytes i 0 ∷ []) ∙ ap (λ (l : List ℕ). before ++ l) (sym next)) more

pub returns-clause-follows : goal.returns-clause-follows
returns-clause-follows g c = λ unit setup fd most before f.
    rw (take_all c.loop-byte.byte-index c.args.bytes.now (omega (arith, c.loop-byte-test.false))) at (c.loop-byte.invariant unit setup fd most before f)
