-- Laws of answers that were recorded elsewhere: whether one is called for is decided, and a wrong one makes a list unlawful.
use Rattle.std.proofs.Common.{◌≡◌, ℕ, ◌+◌, Bool, true, List, [], ◌∷◌, ◌++◌, take, drop, neg_ℤ, Some, sym, ap, ◌∙◌, ◌⊎◌, arith}
use Rattle.uring_laws.proofs.Common.{Answer, ENOMEM, EndsOn, Event, FileContents, History, IsOutcome, Op, OrAgain, Outcome, Requests, Setup, begin_answer, cases_Bool, ended_with, entry_of, get_or_from_slice_get, history_of, is_lengthening, operation_of, result_of, reverse-append, slice_get, slice_get_within, take-append-drop, take_more}
use Rattle.uring_laws.specs.Recorded.{CalledIsDecided, CalledIsDecidedApart, WrongIsUnlawful, WrongIsUnlawfulApart}
use Rattle.uring_core.specs.declared.step.Step.TheVariants as step
use Rattle.uring_core.specs.declared.answer.Answer.TheVariants as answer
use Rattle.uring_core.proofs.SameAnswers.{decided}
use Rattle.uring_core.proofs.Following.{history_of_snoc}
use Rattle.uring_laws.proofs.Growth as apart
use Rattle.uring_laws.proofs.WholeLaws.{lawful_before}

-- That an answer is called for is decided.

-- a fact holds, or doesn't
abbrev Decided : Type 0 → Type 0
Decided P = P ⊎ (P → ⊥)

decided_begin : (x a : Answer) → Decided (OrAgain x a)
decided_begin x a = grind (arith, (decided a x), (decided a answer.Again))

pub decided_apart : CalledIsDecidedApart
decided_apart g w (step.Begin count) a = decided_begin (begin_answer w count) a
decided_apart g w (step.Finish n) a = grind arith
decided_apart g w _ a = decided a _

-- outcomes, as ends that have them
decided_outcome : (o p : Outcome) → Decided (o ≡ p)
decided_outcome o p = grind (arith, (decided (answer.Ended o.res o.bytes) (answer.Ended p.res p.bytes)))

decided_end : (files : List FileContents) (op : Op) (o : Outcome) → Decided (IsOutcome files op o)
decided_end files op o =
    grind (arith, (decided_outcome o (result_of files op)), (cases_Bool (is_lengthening files op)), (decided_outcome o (ended_with (neg_ℤ ENOMEM))))

decided_on : (files : List FileContents) (r : Requests) (n : ℕ) (running : Bool) (a : Answer)
    → Decided (EndsOn files r n running a)
decided_on files r n true (answer.Ended res bytes) = decided_end files (operation_of (entry_of r n)) (record { res = res; bytes = bytes })
decided_on files r n running a = grind (arith, (decided a answer.NotRunning))

pub decided_called : CalledIsDecided
decided_called g w (step.Finish n) a = grind (arith, decided_on)
decided_called g w (step.Begin count) a = decided_begin (begin_answer w count) a
decided_called g w _ a = decided a _

-- A list with a wrong answer is unlawful.

-- the history up to an event
parted : (events : List Event) (place : ℕ) (e : Event) → slice_get events place ≡ Some e
    → (later : History) × (history_of events ≡ later ++ e ∷ history_of (take place events))
parted events place e is_there =
    let more : take (place + 1) events ≡ take place events ++ e ∷ [] = rw (take_more events place e (slice_get_within events place e is_there), get_or_from_slice_get events place e e is_there) in
    (history_of (drop (place + 1) events), ap history_of (sym (take-append-drop (place + 1) events)) ∙ reverse-append (take (place + 1) events) (drop (place + 1) events) ∙ rw (more, history_of_snoc))

pub wrong_unlawful : (g : Setup) → WrongIsUnlawful g
wrong_unlawful g events place wanted first lawful =
    let parts = parted events place first.event first.is_there in
    first.wrong.not_called (lawful_before g parts.0 _ (rw parts.1 at lawful)).0

pub wrong_unlawful_apart : (g : Setup) → WrongIsUnlawfulApart g
wrong_unlawful_apart g events place wanted first lawful =
    let parts = parted events place first.event first.is_there in
    first.wrong.not_called (apart.lawful_before g parts.0 _ (rw parts.1 at lawful)).0
