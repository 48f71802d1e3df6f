use Rattle.std.proofs.Common.{◌≡◌, ◌+◌, ℕ, true, false, length, sym, subst, ap, ◌∙◌, rules, arith}
use Rattle.uring_crash.proofs.Common.{is_safe_to, list_any, slice_index}
use Rattle.uring_crash.proofs.Kept.{as_kept, kept_bytes, up_to_as_kept}
use Rattle.uring_volume.specs.declared.kept.Kept.{Kept}
use Rattle.uring_crash.proofs.keeping.keeps.Goals as goal

pub returns-clause-yes : goal.returns-clause-yes
returns-clause-yes c = λ is h next unit now are positive image.
    let end : c.in-Some.end ≡ c.args.off + length c.args.bytes.now = search rules in
    kept_bytes h unit c.args.off c.args.bytes.now now positive image
    (up_to_as_kept h next c.args.kept.now (c.args.off + length c.args.bytes.now) are ∙ subst (λ (e : ℕ). list_any (is_safe_to e) c.args.kept.now ≡ true) end (sym c.some_is_safe_to.ensures ∙ c.if-not-some_is_safe_to.false))
    (λ j within. as_kept h next c.args.kept.now (c.args.off + j) (slice_index c.args.bytes.now j) are ∙ c.loop-j.invariant j (search rules))

pub returns-then-not-some_is_safe_to-clause-no : goal.returns-then-not-some_is_safe_to-clause-no
returns-then-not-some_is_safe_to-clause-no c = λ is within h next are plain.
    let end : c.in-Some.end ≡ c.args.off + length c.args.bytes.now = search rules in
    let none : list_any (is_safe_to (c.args.off + length c.args.bytes.now)) c.args.kept.now ≡ false = subst (λ (e : ℕ). list_any (is_safe_to e) c.args.kept.now ≡ false) end (sym c.some_is_safe_to.ensures ∙ c.if-not-some_is_safe_to.true) in
    let e : true ≡ false = sym plain.reaches ∙ up_to_as_kept h next c.args.kept.now (c.args.off + length c.args.bytes.now) are ∙ none in
    absurd cc

pub returns-then-not-keeps_byte-clause-no : goal.returns-then-not-keeps_byte-clause-no
returns-then-not-keeps_byte-clause-no c = λ is within h next are plain.
    let e : true ≡ false = sym (plain.kept c.loop-j.j (search rules)) ∙ as_kept h next c.args.kept.now (c.args.off + c.loop-j.j) (slice_index c.args.bytes.now c.loop-j.j) are ∙ search rules in
    absurd cc
