use Rattle.std.proofs.Common.{◌≡◌, ◌∷◌, List, ℕ, ◌+◌, ◌-◌, false, eqb, eq-eqb, length, take, drop, ap, sym, subst, ◌∙◌, arith}
use Rattle.uring_text.proofs.Common.{length-drop, ne_eqb, take_all}
use Rattle.std.proofs.lemmas.List.Elements.{All-more}
use Rattle.std.proofs.lemmas.List.Splits.{slice_split_none}
use Rattle.uring_text.proofs.Cutting.{HasNone, cut_at, pieces_of}
use Rattle.uring_text.proofs.tokens.first_piece.Goals as goal

pub loop-i-preserved : goal.loop-i-preserved
loop-i-preserved c =
    All-more (λ b. eqb b c.args.end ≡ false) c.args.bytes.now c.loop-i.i 0 (omega arith) c.loop-i.invariant (ne_eqb _ c.args.end c.if-byte-end.false)

pub returns-then-byte-end-clause-some : goal.returns-then-byte-end-clause-some
returns-then-byte-end-clause-some c =
    let bytes = c.args.bytes.now in
    let i = c.loop-i.i in
    cut_at c.args.end bytes i (omega arith) (eq-eqb _ c.args.end c.if-byte-end.true) c.loop-i.invariant
    ∙ ap (λ (rest : List ℕ). take i bytes ∷ pieces_of c.args.end rest) (sym (take_all (length bytes - (i + 1)) (drop (i + 1) bytes) (omega (arith, length-drop (i + 1) bytes))))

pub returns-clause-none : goal.returns-clause-none
returns-clause-none c =
    let bytes = c.args.bytes.now in
    slice_split_none (λ b. eqb b c.args.end) bytes (subst (HasNone c.args.end) (take_all c.loop-i.i bytes (omega arith)) c.loop-i.invariant)
