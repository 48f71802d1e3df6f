-- The laws `reaped_begin_posted` and `nothing_after_close`, from what is sound.
use Rattle.std.proofs.Common.{◌≡◌, ℕ, true, false, [], ◌∷◌, ◌++◌, length, take, None, refl, arith, append_assoc}
use Rattle.uring_laws.proofs.Common.{Answer, Completions, History, IsLawfulApart, IsSoundCompletions, ReapedBeginPosted, Setup, Step, SubmissionMove, World, length-drop, length-take, list_any, submission_move, take-append-drop, take-take, takes_in, world}
use Rattle.uring_core.specs.declared.step.Step.TheVariants as step
use Rattle.uring_core.specs.declared.answer.Answer.TheVariants as answer

pub begin_posted : (size : ℕ) (l : Completions) → IsSoundCompletions size l
    → ReapedBeginPosted size l
begin_posted size l s =
    grind (arith, (take-append-drop l.put l.posted), (take-append-drop (length l.reaped) (take l.put l.posted)), take-take, append_assoc, length-drop, length-take)

-- the ring is closed, and no call is open
record IsShut (w : World) : Type 0 where
  closed : w.is_closed ≡ true
  no_call : w.submission.call ≡ None

shut_stays : (g : Setup) (w : World) (s : Step) (a : Answer) (v : World) → SubmissionMove g w s a v
    → IsShut w → IsShut v × (takes_in (s, a) ≡ false)
shut_stays g w s a v h i = grind arith

-- what stands after the ring is closed
stays_shut : (g : Setup) (after before : History)
    → IsLawfulApart g (after ++ (step.Close, answer.Shut) ∷ before)
    → IsShut (world g (after ++ (step.Close, answer.Shut) ∷ before)) × (list_any takes_in after ≡ false)
stays_shut g [] before lawful = (record { closed = refl; no_call = grind (arith, lawful.0) }, refl)
stays_shut g ((s, a) ∷ after) before lawful =
    let i = stays_shut g after before lawful.1 in
    grind (arith, i, (shut_stays g _ s a _ (submission_move g s a (after ++ (step.Close, answer.Shut) ∷ before) lawful) i.0))

pub nothing_after : (g : Setup) (after before : History)
    → IsLawfulApart g (after ++ (step.Close, answer.Shut) ∷ before)
    → list_any takes_in after ≡ false
nothing_after g after before lawful = (stays_shut g after before lawful).1
