use Rattle.std.proofs.Common.{◌≡◌, ◌++◌, ◌∷◌, [], List, ℕ, append_assoc}
use Rattle.uring_check.proofs.Common.{codes, completion_wanted, line_text, on_ok_weaker, reasons_by, string_bytes, wanted_text}
use Rattle.uring_text.specs.Visible.{visible_line}
use Rattle.uring_check.proofs.telling.tell_wrong.Goals as goal

-- a line, what is wanted in its place and why, appended in six parts
six_parts : (old a b c d e new n v w r : List ℕ) → a ≡ old ++ n → b ≡ a ++ v
    → c ≡ b ++ codes "\nwanted: " → d ≡ c ++ w → e ≡ d ++ 10 ∷ [] → new ≡ e ++ r
    → new ≡ old ++ n ++ (v ++ 10 ∷ []) ++ codes "wanted: " ++ (w ++ 10 ∷ []) ++ r
six_parts old a b c d e new n v w r ea eb ec ed ee en = rw (en, ee, ed, ec, eb, ea) (simp append_assoc)

pub returns-clause-told : goal.returns-clause-told
returns-clause-told g c =
    let wanted = c.args.wanted.now in
    let standing = c.args.standing.now in
    on_ok_weaker c.push_reasons.result
    (λ last. six_parts (string_bytes c.args.report.now) _ _ _ _ _ _ (line_text c.args.number) (visible_line c.args.line.now) (wanted_text standing.asked wanted) (reasons_by standing (completion_wanted wanted)) c.in_ok-tell_line.ensures.told c.in_ok-push_visible_line_in.ensures.bytes c.in_ok-push_text.ensures.bytes (rw c.asked.ensures at c.in_ok-push_wanted.ensures.told) c.in_ok-push_text-2.ensures.bytes (rw c.completion_in.ensures at last))
    c.push_reasons.ensures.told
