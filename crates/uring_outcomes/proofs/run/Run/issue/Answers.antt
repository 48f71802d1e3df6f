use Rattle.std.proofs.Common.{◌≡◌, ◌⊎◌, ℕ, Bool, true, false, not, ℤ, Option, Some, None, if◌then◌else◌, refl, sym, subst, ◌∙◌, inl, inr, rules}
use Rattle.uring_dispatch.specs.declared.answers.Issued.{Issued}
use Rattle.uring_dispatch.specs.declared.answers.Issued.TheVariants.{Ended, NotReady, Running, Unknown}
use Rattle.uring_outcomes.proofs.Common.{MadeAs, Moment, Sqe, entry_of, is_outstanding, to_z-of_z, w32}
use Rattle.uring_outcomes.proofs.Moving.{IssueMoves, issue_moves, not_made}
use Rattle.uring_outcomes.proofs.RunSteps.{issue_starts, issue_ends}
use Rattle.uring_outcomes.proofs.run.Run.issue.Goals as goal

-- what ended has an entry
ended_told : (outstanding : Bool) (other : Issued) (res : ℤ) (e : Sqe) (told : Option Sqe) → Ended res ≡ (if not outstanding then Unknown else other)
    → told ≡ (if outstanding then Some e else None) → told ≡ None → ⊥
ended_told true other res e told ended is none = cc
ended_told false other res e told ended is none = cc

pub unreachable-requires : goal.unreachable-requires
unreachable-requires g c =
    let at = c.requires.1.at.requests in
    ended_told (is_outstanding c.requires.1.moment.requests c.args.number) _ c.in-Ended.res (entry_of c.requires.1.moment.requests c.args.number) c.entry-entry.result (c.in-Ended.ensures.answer _ at) (c.entry-entry.ensures _ at) c.in_default.is

pub returns-in-Run-clause-made : goal.returns-in-Run-clause-made
returns-in-Run-clause-made g c = λ calls m at.
    issue_starts calls c.args.self.now _ m c.args.number c.in-Run.field-0 at (c.in-Run.ensures.answer m.requests at.requests) (c.in-Run.ensures.shows m.requests at.requests) (c.in-Run.ensures.counts.between ∙ at.between) refl refl refl

pub returns-in_ok-post-in-Ended-clause-made : goal.returns-in_ok-post-in-Ended-clause-made
returns-in_ok-post-in-Ended-clause-made g c = λ calls m at.
    let same = to_z-of_z w32 c.in-Ended.res (search rules) in
    issue_ends calls c.args.self.now _ m c.args.number c.in-Ended.res c.in-Some.entry at (c.in-Ended.ensures.answer m.requests at.requests) (sym c.in-Some.is ∙ c.entry-entry.ensures m.requests at.requests) (c.in-Ended.ensures.shows m.requests at.requests) (c.in-Ended.ensures.counts.between ∙ at.between) (simp same at c.in_ok-post-in-Ended.ensures.posted) refl refl

refused : (m : Moment) (n : ℕ) (a : Issued) (o : Option Moment) (P : Moment → Type 0) → (a ≡ NotReady) ⊎ ((a ≡ Running) ⊎ (a ≡ Unknown))
    → IssueMoves m n a o → MadeAs false o P
refused m n a o P (inl is) moves = not_made P o (subst (λ x. IssueMoves m n x o) is moves)
refused m n a o P (inr (inl is)) moves = not_made P o (subst (λ x. IssueMoves m n x o) is moves)
refused m n a o P (inr (inr is)) moves = not_made P o (subst (λ x. IssueMoves m n x o) is moves)

pub returns-in-NotReady-clause-made : goal.returns-in-NotReady-clause-made
returns-in-NotReady-clause-made g c = λ calls m at.
    refused m c.args.number c.issue.result _ _ c.in-NotReady.is (issue_moves m c.args.number c.issue.result (c.issue.ensures.answer m.requests at.requests))
