use Rattle.std.proofs.Common.{◌≡◌, List, ap, sym, true, rules, inl, inr, ◌∙◌, neg_ℤ}
use Rattle.std.proofs.Math.Nat.{le_refl}
use Rattle.uring_entry.specs.declared.errno.TheConstants.{ENOMEM}
use Rattle.uring_files.specs.Contents.{max_len}
use Rattle.uring_effect_points.proofs.Common.{FileContents, IsOutcome, Op, Outcome, is_lengthening, result_of}
use Rattle.uring_effect_points.proofs.apply.carry_out.Goals as goal
use Rattle.uring_effect_points.proofs.apply.carry_out.Goals.{else-lengthens-via-then-lengthens+else-outcome, else-lengthens-via-else-lengthens}

-- an outcome that isn't that of a refusal is the one called for
called_for : (files : List FileContents) (op : Op) (o : Outcome) → IsOutcome files op o
    → (is_lengthening files op ≡ true → o.res ≡ neg_ℤ ENOMEM → ⊥) → o ≡ result_of files op
called_for files op o (inl is) other = is
called_for files op o (inr refused) other = absurd (other refused.0 (ap (λ (x : Outcome). x.res) refused.1))

pub returns-else-eq-clause-granted : goal.returns-else-eq-clause-granted
returns-else-eq-clause-granted g c = λ all.
    let called : c.apply_in.result ≡ result_of c.args.files.now c.args.op.now = c.apply_in.ensures.granted max_len (all _) (le_refl _) in
    let differs : c.apply_in.result ≡ c.args.outcome.now → ⊥ = search rules in
    let other : is_lengthening c.args.files.now c.args.op.now ≡ true → c.args.outcome.now.res ≡ neg_ℤ ENOMEM → ⊥ = elim c.else-lengthens.branch [
      | else-lengthens-via-then-lengthens+else-outcome w ↦ search rules
      | else-lengthens-via-else-lengthens w ↦ search rules
    ] in
    absurd (differs (called ∙ sym (called_for c.args.files.now c.args.op.now c.args.outcome.now c.requires.may other)))
