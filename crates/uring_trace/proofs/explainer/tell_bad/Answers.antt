use Rattle.std.proofs.Common.{◌≡◌, ◌++◌, ◌∷◌, [], List, ℕ, append_assoc}
use Rattle.uring_trace.proofs.Common.{codes, decimal, line_flaw, on_ok_weaker, string_bytes}
use Rattle.uring_trace.specs.declared.flaws.Language.TheVariants as language
use Rattle.uring_trace.proofs.explainer.tell_bad.Goals as goal

-- what follows some words, and the end of the line
three_parts : (old a b new u f : List ℕ) → a ≡ old ++ u → b ≡ a ++ f → new ≡ b ++ 10 ∷ []
    → new ≡ old ++ (u ++ (f ++ 10 ∷ []))
three_parts old a b new u f e g h = simp (h, g, e, append_assoc)

pub returns-clause-told : goal.returns-clause-told
returns-clause-told g c = on_ok_weaker c.push_text-2.result (λ last. c.in_ok-push_text.ensures.bytes) c.push_text-2.ensures.bytes

pub returns-clause-noted : goal.returns-clause-noted
returns-clause-noted g c =
    on_ok_weaker c.push_text-2.result
    (λ last line k. three_parts (string_bytes c.args.notes.now) _ _ _ (codes "uring: line " ++ decimal c.args.number ++ codes ": bad line: ") (line_flaw language.Questions line) c.in_ok-push_terms.ensures.bytes (c.in_ok-push_line_flaw_in.ensures.bytes line k) last)
    c.push_text-2.ensures.bytes
