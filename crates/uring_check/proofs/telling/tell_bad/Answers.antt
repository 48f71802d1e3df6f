use Rattle.std.proofs.Common.{◌≡◌, ◌++◌, ◌∷◌, [], List, ℕ, append_assoc}
use Rattle.uring_check.proofs.Common.{codes, line_text, on_ok_weaker, string_bytes}
use Rattle.uring_trace.specs.Flaws.{line_flaw}
use Rattle.uring_trace.specs.declared.flaws.Language.TheVariants as language
use Rattle.uring_check.proofs.telling.tell_bad.Goals as goal

-- a line's number and what is wrong with the line, appended in four parts
four_parts : (old a b c new n f : List ℕ) → a ≡ old ++ n → b ≡ a ++ codes "bad line\nwhy: "
    → c ≡ b ++ f → new ≡ c ++ 10 ∷ []
    → new ≡ old ++ n ++ (codes "bad line" ++ 10 ∷ []) ++ (codes "why: " ++ (f ++ 10 ∷ []))
four_parts old a b c new n f ea eb ec en = rw (en, ec, eb, ea) (simp append_assoc)

pub returns-clause-told : goal.returns-clause-told
returns-clause-told g c =
    on_ok_weaker c.push_text-2.result
    (λ last line k. four_parts (string_bytes c.args.report.now) _ _ _ _ (line_text c.args.number) (line_flaw language.Records line) c.in_ok-tell_line.ensures.told c.in_ok-push_text.ensures.bytes (c.in_ok-push_line_flaw_in.ensures.bytes line k) last)
    c.push_text-2.ensures.bytes
