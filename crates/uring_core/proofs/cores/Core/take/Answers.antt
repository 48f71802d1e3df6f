use Rattle.uring_core.proofs.Common.{Core, FitsApart, History, Setup, ShowsSubmission, Sq, Sqe, Submission, take_told}
use Rattle.std.proofs.Common.{◌≡◌, ◌∷◌, refl, arith}
use Rattle.uring_rings.specs.SqAnswers as ring
use Rattle.uring_rings.specs.declared.answers.TakeAnswer.{TakeAnswer}
use Rattle.uring_rings.specs.declared.answers.TakeAnswer.TheVariants as took_as
use Rattle.uring_core.specs.declared.step.Step.TheVariants as step
use Rattle.uring_core.proofs.CoreSteps.{core_after}
use Rattle.uring_core.proofs.CoreTakes.{take_entry_goes, take_dropped_goes, held_has_room}
use Rattle.uring_core.proofs.cores.Core.take.Goals as goal
use Rattle.uring_core.proofs.cores.Core.take.Goals.{in-Entry, in-Dropped, in_default}

-- a take that gave neither an entry nor a word
neither_goes : (p : Core) (q : Sq) (r : TakeAnswer) → ((entry : Sqe) → r ≡ took_as.Entry entry → ⊥)
    → (r ≡ took_as.Dropped → ⊥)
    → ((g : Setup) (l : Submission) → ShowsSubmission g p.sq l → r ≡ ring.take_answer l)
    → (r ≡ took_as.NoCall → q ≡ p.sq) → (r ≡ took_as.NoMore → q ≡ p.sq)
    → (h : History) → FitsApart p h → FitsApart (record p { sq = q }) ((step.Take, take_told r) ∷ h)
neither_goes p q r no_entry no_word answered same same' h f =
    grind (arith, (answered p.setup _ f.shows.submission))

pub push_reserved-requires : goal.push_reserved-requires
push_reserved-requires c =
    let room = held_has_room _ c.self.invariant.1.1 c.in-Entry.entry c.self.invariant.1.2 c.in-Entry.ensures.answer in
    let capacity = c.self.invariant.0 in
    omega arith

pub invariant_of-self : goal.invariant_of-self
invariant_of-self c = rw (c.push_reserved.ensures.items, c.push_reserved.ensures.capacity) (c.self.invariant.0, core_after _ _ _ refl (take_entry_goes _ c.take-answer.new.self c.stop_if.new.sq c.in-Entry.entry c.has_skipped-self-inside.result c.has_skipped-self-inside.ensures c.in-Entry.ensures.answer c.in-Entry.ensures.shows (rw c.stops_after-stops.ensures at c.stop_if.ensures)) c.self.invariant.1)

pub invariant_of-self-in-Dropped : goal.invariant_of-self-in-Dropped
invariant_of-self-in-Dropped c = (c.self.invariant.0, core_after _ _ _ refl (take_dropped_goes _ c.take-answer.new.self c.stop_if-in-Dropped.new.sq c.in-Dropped.ensures.answer c.in-Dropped.ensures.shows (rw c.is_linux.ensures.value at c.stop_if-in-Dropped.ensures)) c.self.invariant.1)

pub returns-clause-fits : goal.returns-clause-fits
returns-clause-fits c =
    elim c.match-answer.branch [
      | in-Entry w ↦ rw (c.from.ensures, w.self-is, w.answer-is, ← c.self.view_is) (simp w.push_reserved.ensures.items (take_entry_goes _ c.take-answer.new.self w.stop_if.new.sq w.in-Entry.entry w.has_skipped-self-inside.result w.has_skipped-self-inside.ensures w.in-Entry.ensures.answer w.in-Entry.ensures.shows (rw w.stops_after-stops.ensures at w.stop_if.ensures)))
      | in-Dropped w ↦ rw (c.from.ensures, w.self-is, w.answer-is, w.in-Dropped.is, ← c.self.view_is) (take_dropped_goes _ c.take-answer.new.self w.stop_if-in-Dropped.new.sq w.in-Dropped.ensures.answer w.in-Dropped.ensures.shows (rw w.is_linux.ensures.value at w.stop_if-in-Dropped.ensures))
      | in_default w ↦ rw (c.from.ensures, w.self-is, w.answer-is, ← c.self.view_is) (neither_goes _ c.take-answer.new.self c.take-answer.result w.in_default.not-Entry w.in_default.not-Dropped c.take-answer.ensures.answer c.take-answer.ensures.no_call c.take-answer.ensures.no_more)
    ]

pub invariant_of-self-in_default : goal.invariant_of-self-in_default
invariant_of-self-in_default c = (c.self.invariant.0, core_after _ _ _ refl (neither_goes _ c.take-answer.new.self c.take-answer.result c.in_default.not-Entry c.in_default.not-Dropped c.take-answer.ensures.answer c.take-answer.ensures.no_call c.take-answer.ensures.no_more) c.self.invariant.1)
