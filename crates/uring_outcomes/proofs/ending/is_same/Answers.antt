use Rattle.std.proofs.Common.{◌≡◌, sym, ap, ◌∙◌}
use Rattle.uring_outcomes.proofs.Common.{Ending, both_ways}
use Rattle.std.proofs.lemmas.Slice.Eq.{slice_eq-Decides}
use Rattle.uring_outcomes.proofs.SameEndings.{completion_decides, ending_by}
use Rattle.uring_outcomes.proofs.ending.is_same.Goals as goal

pub returns-then-eq : goal.returns-then-eq
returns-then-eq c =
    let same : c.as_slice.result.now ≡ c.as_slice-2.result.now = (slice_eq-Decides completion_decides c.as_slice.result.now c.as_slice-2.result.now c.eq.result c.eq.ensures).0 c.if-eq.true in
    let posted : c.args.one.now.posted ≡ c.args.other.now.posted = sym (ap (λ (e : Ending). e.posted) c.one.view_is) ∙ sym c.as_slice.ensures.value ∙ same ∙ c.as_slice-2.ensures.value ∙ ap (λ (e : Ending). e.posted) c.other.view_is in (
      λ e. ending_by c.args.one.now c.args.other.now posted (sym (ap (λ (e : Ending). e.files) c.one.view_is) ∙ c.same_files.ensures.0 e ∙ ap (λ (e : Ending). e.files) c.other.view_is),
      λ e. c.same_files.ensures.1 (ap (λ (e : Ending). e.files) c.one.view_is ∙ ap (λ (e : Ending). e.files) e ∙ sym (ap (λ (e : Ending). e.files) c.other.view_is)),
    )

pub returns-else-eq : goal.returns-else-eq
returns-else-eq c = (
  λ e. absurd (both_ways c.eq.result c.if-eq.false e),
  λ e. (slice_eq-Decides completion_decides c.as_slice.result.now c.as_slice-2.result.now c.eq.result c.eq.ensures).1 (c.as_slice.ensures.value ∙ ap (λ (e : Ending). e.posted) c.one.view_is ∙ ap (λ (e : Ending). e.posted) e ∙ sym (ap (λ (e : Ending). e.posted) c.other.view_is) ∙ sym c.as_slice-2.ensures.value),
)
