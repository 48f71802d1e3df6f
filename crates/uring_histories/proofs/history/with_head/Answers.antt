use Rattle.std.proofs.Common.{◌≡◌, ℕ, List, ◌++◌, ap, sym, ◌∙◌, append_assoc}
use Rattle.std.specs.Prelude.{codes, string_bytes}
use Rattle.uring_check.specs.SetupLines.{setup_text}
use Rattle.uring_histories.specs.Shown.{remark_text}
use Rattle.uring_histories.proofs.history.with_head.Goals as goal

headed : (old all head line text : List ℕ) → old ≡ head
    → all ≡ old ++ (codes "# outcome " ++ (line ++ (codes "\n" ++ text))) → all ≡ head ++ (remark_text line ++ text)
headed old all head line text is now =
    now ∙ ap (λ l. l ++ (codes "# outcome " ++ (line ++ (codes "\n" ++ text)))) is
    ∙ ap (λ l. head ++ l) (sym (append_assoc (codes "# outcome " ++ line) (codes "\n") text ∙ append_assoc (codes "# outcome ") line (codes "\n" ++ text)))

pub returns : goal.returns
returns c = (
  string_bytes c.in_ok-line.line,
  c.in_ok-line.ensures,
  headed _ _ (setup_text c.args.setup.now) (string_bytes c.in_ok-line.line) c.args.text.now (rw c.new-all.ensures.bytes at c.in_ok-push_setup.ensures) (rw c.as_str-outcome.ensures.value at c.in_ok-write.ensures.bytes),
)
