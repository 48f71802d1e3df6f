use Rattle.std.proofs.Common.{◌≡◌, List, ℕ, ◌++◌, append_assoc, ap, ◌∙◌}
use Rattle.uring_litmus.proofs.Common.{codes, on_ok_weaker, string_bytes}
use Rattle.std.specs.Fmt.{decimal}
use Rattle.uring_litmus.proofs.listing.push_count.Goals as goal

one_after : (old n end : List ℕ) → old ++ n ++ end ≡ old ++ (n ++ end)
one_after old n end = append_assoc old n end

four_after : (old n more most end : List ℕ)
    → old ++ n ++ more ++ most ++ end ≡ old ++ (n ++ more ++ most ++ end)
four_after old n more most end = simp append_assoc

pub returns-then-is_all-clause-text : goal.returns-then-is_all-clause-text
returns-then-is_all-clause-text g c =
    let old = string_bytes c.args.text.now in
    rw c.if-is_all.true
    (on_ok_weaker c.push_text.result
    (λ is. is ∙ ap (λ (l : List ℕ). l ++ codes "\n") c.in_ok-push_number.ensures.bytes ∙ one_after old (decimal c.args.count) (codes "\n"))
    c.push_text.ensures.bytes)

pub returns-clause-text : goal.returns-clause-text
returns-clause-text g c =
    let old = string_bytes c.args.text.now in
    let more = codes " or more: stopped after " in
    let paths = codes " paths\n" in
    rw c.if-is_all.false
    (on_ok_weaker c.push_text-2.result
    (λ is. is ∙ ap (λ (l : List ℕ). l ++ paths) (c.in_ok-push_named.ensures.bytes ∙ ap (λ (l : List ℕ). l ++ more ++ decimal c.args.most) c.in_ok-push_number.ensures.bytes) ∙ four_after old (decimal c.args.count) more (decimal c.args.most) paths)
    c.push_text-2.ensures.bytes)
