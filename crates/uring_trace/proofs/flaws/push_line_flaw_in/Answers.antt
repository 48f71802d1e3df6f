use Rattle.std.proofs.Common.{◌≡◌, ◌≤◌, ◌++◌, ℕ, List, true, ltb, length, sym, ap, ◌∙◌, rules}
use Rattle.uring_trace.proofs.Common.{line_flaw, lt-ltb, on_ok_weaker, string_bytes}
use Rattle.uring_trace.proofs.LineFlaws.{empty_flaw, short_flaw}
use Rattle.uring_trace.proofs.flaws.push_line_flaw_in.Goals as goal

pub returns-in_default-clause-bytes : goal.returns-in_default-clause-bytes
returns-in_default-clause-bytes g c =
    on_ok_weaker c.push_text.result
    (λ told line k.
    let long : ltb 300 (length line) ≡ true = lt-ltb 300 (length line) (rw c.in_default.is at (c.whole.ensures.line line k)) in
    rw long told)
    c.push_text.ensures.bytes

-- what is told of a line, where it is the one that was kept
same_line : (old new told : List ℕ) (flaw : List ℕ → List ℕ) (bytes line : List ℕ) → bytes ≡ line
    → flaw bytes ≡ told → new ≡ old ++ told → new ≡ old ++ flaw line
same_line old new told flaw bytes line same is all = all ∙ ap (λ (t : List ℕ). old ++ t) (sym is ∙ ap flaw same)

pub returns-then-is_empty-clause-bytes : goal.returns-then-is_empty-clause-bytes
returns-then-is_empty-clause-bytes g c =
    on_ok_weaker c.push_text-then-is_empty.result
    (λ told line k. same_line (string_bytes c.args.text.now) _ _ (line_flaw c.args.language) c.in-Some.bytes.now line (rw c.in-Some.is at (c.whole.ensures.line line k)) (empty_flaw c.args.language c.in-Some.bytes.now c.if-is_empty.ensures) told)
    c.push_text-then-is_empty.ensures.bytes

pub returns-clause-bytes : goal.returns-clause-bytes
returns-clause-bytes g c =
    let short : length c.in-Some.bytes.now ≤ 300 = search rules in
    on_ok_weaker c.push_flaw_in.result
    (λ told line k. same_line (string_bytes c.args.text.now) _ _ (line_flaw c.args.language) c.in-Some.bytes.now line (rw c.in-Some.is at (c.whole.ensures.line line k)) (short_flaw c.args.language c.in-Some.bytes.now short c.if-is_empty.ensures) told)
    (rw (c.line_reach-reach.ensures.reach, c.as_slice.ensures.value, c.as_slice-2.ensures.value, c.in_ok-tokens.ensures.tokens) at c.push_flaw_in.ensures.bytes)
