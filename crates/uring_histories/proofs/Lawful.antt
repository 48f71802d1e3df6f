-- What a check of all bytes says.
use Rattle.std.proofs.Common.{◌≡◌, ℕ, false, List, ◌++◌, Option, Some, None, Result, Ok, sym, subst, ap, ◌∙◌, append-nil}
use Rattle.uring_histories.proofs.Common.{IsAccepted, Setup}
use Rattle.uring_text.specs.declared.trace_fault.TraceFault.{TraceFault}
use Rattle.uring_check.specs.Checks.{IsChecked, IsVerdict}
use Rattle.uring_check.specs.declared.ends.Ends.TheVariants.{Given}
use Rattle.uring_check.specs.declared.verdict.Verdict.{Verdict}
use Rattle.uring_check.specs.declared.verdict.Verdict.TheVariants as verdict

lawful : (g : Setup) (bytes : List ℕ) (left held_before held_after : Option (List ℕ))
    → IsChecked (record { setup = g; ends = Given }) false (Ok verdict.Lawful) (Some bytes) left held_before held_after
    → IsAccepted g bytes
lawful g bytes None before after c = absurd c.consumed
lawful g bytes (Some rest) before after c =
    let all : bytes ≡ c.bytes = c.consumed ∙ ap (λ l. c.bytes ++ l) c.whole ∙ append-nil c.bytes in
    (c.text, subst (λ b. IsVerdict (record { setup = g; ends = Given }) false b c.text verdict.Lawful) (sym all) c.written)

-- bytes that were read to their end, and found lawful
pub accepted_by : (g : Setup) (bytes : List ℕ) (left held_before held_after : Option (List ℕ)) (r : Result Verdict TraceFault)
    → IsChecked (record { setup = g; ends = Given }) false r (Some bytes) left held_before held_after
    → r ≡ Ok verdict.Lawful → IsAccepted g bytes
accepted_by g bytes left before after r c is =
    lawful g bytes left before after (subst (λ x. IsChecked (record { setup = g; ends = Given }) false x (Some bytes) left before after) is c)
