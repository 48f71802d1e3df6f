use Rattle.std.proofs.Common.{List, ℕ, ◌+◌, [], ◌∷◌, ◌++◌, ◌∙◌, ap, append_assoc, get_or, subst, sym, length, take, ◌≡◌, arith}
use Rattle.std.proofs.Math.Seq.{take-length}
use Rattle.uring_play_text.proofs.Common.{Has, take_more}
use Rattle.uring_play_text.proofs.Readings.{given_of, took_byte, took_line}
use Rattle.uring_play_text.proofs.reading.Reading.feed.Goals as goal
use Rattle.uring_play_text.proofs.reading.Reading.feed.Goals.{then-byte-eq10+in_ok-take_line, else-byte-eq10}

pub loop-byte-preserved : goal.loop-byte-preserved
loop-byte-preserved g c = λ size before h.
    let bytes = c.args.bytes.now in
    let i : ℕ = c.loop-byte.byte-index in
    let so = c.loop-byte.invariant size before h in
    let next : take (i + 1) bytes ≡ take i bytes ++ get_or bytes i 0 ∷ [] = take_more bytes i 0 c.loop-byte-test.true in
    subst (Has size c.if-byte-eq10.self) (append_assoc before (take i bytes) (get_or bytes i 0 ∷ []) ∙ ap (λ (l : List ℕ). before ++ l) (sym next))
    (elim c.if-byte-eq10.branch [
      | then-byte-eq10+in_ok-take_line w ↦ rw (w.self-is, w.clear.ensures, w.if-byte-eq10.true) (took_line size c.loop-byte.self.line c.loop-byte.self.script w.take_line.new.self w.whole.result (before ++ take i bytes) (given_of c.loop-byte.self.line w.whole.result w.whole.ensures.line w.whole.ensures.short) w.in_ok-take_line.ensures.lines so)
      | else-byte-eq10 w ↦ rw w.self-is (took_byte size _ _ _ (before ++ take i bytes) (get_or bytes i 0) w.if-byte-eq10.false w.push.ensures so)
    ])

pub returns-clause-ok : goal.returns-clause-ok
returns-clause-ok g c = λ size before h.
    let bytes = c.args.bytes.now in
    let all : take c.loop-byte.byte-index bytes ≡ bytes = let end : c.loop-byte.byte-index ≡ length bytes = omega arith in ap (λ (n : ℕ). take n bytes) end ∙ take-length bytes in
    subst (λ (l : List ℕ). Has size c.loop-byte.self (before ++ l)) all (c.loop-byte.invariant size before h)
