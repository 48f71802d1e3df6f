use Rattle.std.proofs.Common.{◌≡◌, ℕ, Option, Some, None, refl, ap, ◌∙◌}
use Rattle.uring_core.proofs.Common.{Call, Core, ShowsSubmission, ShowsWorld, Sq, Submission, World, held_by, index_told, staging, with_staged, world}
use Rattle.uring_rings.specs.SqAnswers as ring
use Rattle.uring_rings.specs.declared.answers.IndexAnswer.{IndexAnswer}
use Rattle.uring_rings.specs.declared.answers.IndexAnswer.TheVariants as index
use Rattle.uring_core.specs.declared.step.Step.TheVariants as step
use Rattle.uring_core.proofs.CoreSteps.{on_submission, SubmissionStep, told_if, core_after}
use Rattle.uring_core.proofs.cores.Core.index.Goals as goal

index_shows : (p : Core) (w : World) (q : Sq) (word : ℕ) (r : IndexAnswer) → ShowsWorld p w
    → ShowsSubmission p.setup q (ring.after_index w.submission word r)
    → ShowsWorld (record p { sq = q }) (staging w word (index_told r))
index_shows p w q word index.Staged s shows = on_submission p w q (with_staged w.submission word) s shows refl (held_indexed w.submission word w.submission.call) refl
  where
    held_indexed : (l : Submission) (word : ℕ) (c : Option Call) → held_by (with_staged l word) c ≡ held_by l c
    held_indexed l word None = refl
    held_indexed l word (Some call) = refl
index_shows p w q word index.Full s shows = on_submission p w q w.submission s shows refl refl refl

index_goes : (p : Core) (q : Sq) (word : ℕ) (r : IndexAnswer)
    → SubmissionStep p q (step.Index word, index_told r) (λ g l. r ≡ ring.index_answer g.sq l) (λ g l. ring.after_index l word r)
index_goes p q word r answered shown h f = record {
  shows = index_shows p (world p.setup h) q word r f.shows (shown p.setup _ f.shows.submission);
  lawful = (ap index_told (answered p.setup _ f.shows.submission) ∙ told_if index_told _ index.Full index.Staged, f.lawful);
}

pub invariant_of-self : goal.invariant_of-self
invariant_of-self c = (c.self.invariant.0, core_after _ _ _ refl (index_goes _ c.index.new.self c.args.word c.index.result c.index.ensures.answer c.index.ensures.shows) c.self.invariant.1)

pub returns-clause-fits : goal.returns-clause-fits
returns-clause-fits c = rw (c.from.ensures, ← c.self.view_is) (index_goes _ c.index.new.self c.args.word c.index.result c.index.ensures.answer c.index.ensures.shows)
