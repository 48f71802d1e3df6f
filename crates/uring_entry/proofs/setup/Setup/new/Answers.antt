use Rattle.std.proofs.Common.{refl, ap, is_some, inl, inr, arith}
use Rattle.std.proofs.lemmas.Bool.{both_ways}
use Rattle.uring_entry.proofs.SetupLemmas.{not_outside, at_any_rounding}
use Rattle.uring_entry.proofs.setup.Setup.new.Goals as goal
use Rattle.uring_entry.proofs.setup.Setup.new.Goals.{then-files-lt1-via-then-files-lt1, then-files-lt1-via-else-files-lt1+then-files-gt-MAX_FILES}

pub returns-in_default-clause-bad_cq : goal.returns-in_default-clause-bad_cq
returns-in_default-clause-bad_cq c = (
  λ _. (
    not_outside 1 4096 c.args.sq (omega arith) (omega arith),
    at_any_rounding c.args.sq _ c.args.cq (omega arith) c.submission_size-sq.ensures.rounded (c.completion_size.ensures.none.0 (rw c.in_default.is refl)),
  ),
  λ _. refl,
)

pub returns-then-files-lt1-clause-bad_files : goal.returns-then-files-lt1-clause-bad_files
returns-then-files-lt1-clause-bad_files c = (
  λ _. (
    not_outside 1 4096 c.args.sq (omega arith) (omega arith),
    (λ p rounded bad.
        both_ways _ (c.completion_size.ensures.none.1 (at_any_rounding c.args.sq p c.args.cq (omega arith) rounded bad _ c.submission_size-sq.ensures.rounded)) (ap is_some c.in-Some.is)),
    elim c.then-files-lt1.branch [
      | then-files-lt1-via-then-files-lt1 w ↦ inl (omega arith)
      | then-files-lt1-via-else-files-lt1+then-files-gt-MAX_FILES w ↦ inr (omega arith)
    ],
  ),
  λ _. refl,
)
