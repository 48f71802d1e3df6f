use Rattle.std.proofs.Common.{◌≡◌, ◌++◌, ◌∷◌, [], List, ℕ, ap, sym, ◌∙◌, append_assoc, rules}
use Rattle.uring_text.proofs.Common.{last_byte, string_bytes, visible, visible_line}
use Rattle.std.proofs.lemmas.Result.{on_ok_weaker}
use Rattle.uring_text.proofs.VisibleLaws.{visible_last}
use Rattle.uring_text.proofs.visible.push_visible_line_in.Goals as goal

pub returns-clause-bytes : goal.returns-clause-bytes
returns-clause-bytes g c =
    let before = c.in-Some.before.now in
    let last = c.in-Some.last.now in
    let whole : c.args.line.now ≡ before ++ last ∷ [] = search rules in
    on_ok_weaker c.push_last.result
    (λ told. told ∙ ap (λ (t : List ℕ). t ++ last_byte last) c.in_ok-push_visible_in.ensures.bytes
    ∙ append_assoc (string_bytes c.args.text.now) (visible before) (last_byte last)
    ∙ ap (λ (t : List ℕ). string_bytes c.args.text.now ++ t) (sym (visible_last before last) ∙ ap visible_line (sym whole)))
    c.push_last.ensures.bytes
