use Rattle.std.proofs.Common.{◌≡◌, ◌<◌, ◌+◌, ℕ, List, [], ◌∷◌, ◌++◌, length, take, get_or, sym, ap, subst, ◌∙◌, append_assoc, arith, rules}
use Rattle.uring_trace.proofs.Common.{Has, take_all, take_more}
use Rattle.uring_trace.proofs.Sessions.{took_byte}
use Rattle.uring_trace.proofs.session.Session.feed.Goals as goal
use Rattle.uring_trace.proofs.session.Session.feed.Goals.{then-byte-eq10+in_ok-end_line, else-byte-eq10}

pub loop-byte-preserved : goal.loop-byte-preserved
loop-byte-preserved g c = λ manner sure before told h.
    let bytes : List ℕ = c.args.bytes.now in
    let i : ℕ = c.loop-byte.byte-index in
    let so = c.loop-byte.invariant manner sure before told h in
    let lt : i < length bytes = search rules in
    let next : take (i + 1) bytes ≡ take i bytes ++ get_or bytes i 0 ∷ [] = take_more bytes i 0 lt in
    subst (λ (l : List ℕ). Has manner c.if-byte-eq10.self l (told ++ c.if-byte-eq10.text.items)) (append_assoc before (take i bytes) (get_or bytes i 0 ∷ []) ∙ ap (λ (l : List ℕ). before ++ l) (sym next))
    (elim c.if-byte-eq10.branch [
      | then-byte-eq10+in_ok-end_line w ↦ rw (w.self-is, w.text-is, w.if-byte-eq10.true) (w.in_ok-end_line.ensures.ok manner sure (before ++ take i bytes) told so)
      | else-byte-eq10 w ↦ rw (w.self-is, w.text-is) (took_byte manner _ _ _ _ (before ++ take i bytes) _ (get_or bytes i 0) w.if-byte-eq10.false w.push.ensures so)
    ])

pub returns-clause-ok : goal.returns-clause-ok
returns-clause-ok g c = λ manner sure before told h.
    let whole : take c.loop-byte.byte-index c.args.bytes.now ≡ c.args.bytes.now = take_all c.loop-byte.byte-index c.args.bytes.now (omega (arith, c.loop-byte-test.false)) in
    rw whole at (c.loop-byte.invariant manner sure before told h)
