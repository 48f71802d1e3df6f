use Rattle.std.proofs.Common.{◌≡◌, ◌++◌, Bool, true, false, List, ℕ, ap, ◌∙◌, append_assoc, rules}
use Rattle.uring_trace.proofs.Common.{codes, on_ok_weaker, step_text}
use Rattle.uring_trace.proofs.session.push_step.Goals as goal

-- a line and what stands between it and its answer
echoed : (is_echo : Bool) (old middle new given line : List ℕ) → is_echo ≡ true → given ≡ line
    → middle ≡ old ++ given → new ≡ middle ++ codes " = " → new ≡ old ++ step_text is_echo line
echoed true old middle new given line is same first second =
    second ∙ ap (λ (t : List ℕ). t ++ codes " = ") (first ∙ ap (λ (t : List ℕ). old ++ t) same)
    ∙ append_assoc old line (codes " = ")
echoed false old middle new given line is same first second = absurd cc

pub returns-clause-line : goal.returns-clause-line
returns-clause-line g c =
    let is_echo : c.args.is_echo ≡ true = search rules in
    on_ok_weaker c.push_bytes-2.result
    (λ second line k short. echoed c.args.is_echo c.args.text.now.items _ _ c.in-Some.bytes.now line is_echo (rw c.in-Some.is at (c.whole.ensures.line line k)) c.in_ok-push_bytes.ensures.items second)
    c.push_bytes-2.ensures.items
