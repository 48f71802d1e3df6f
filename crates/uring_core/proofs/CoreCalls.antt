-- Submission calls, from the layers' contracts to the core's: what a core shows as one opens.
use Rattle.std.proofs.Common.{◌≡◌, ℕ, ◌+◌, ◌-◌, ◌^◌, ◌≤◌, true, false, ◌∷◌, arith}
use Rattle.uring_core.proofs.Common.{Completions, Core, Cq, FitsApart, History, IsOk, IsShortFor, KeepsMemory, LinuxRequests, OnOk, Result, Setup, ShowsCompletions, ShowsSubmission, Sq, Submission, begin_answer, begin_told, call_length, is_err, world, OnErr}
use Rattle.uring_rings.specs.SqAnswers as ring
use Rattle.uring_rings.specs.declared.answers.BeginAnswer.{BeginAnswer}
use Rattle.uring_rules.specs.RulesDispatch.{Rules, ShowsRequests, IsSameCount}
use Rattle.uring_core.specs.declared.step.Step.TheVariants as step
use Rattle.uring_core.specs.declared.answer.Answer.TheVariants as answer
use Rattle.uring_core.proofs.Changes.{not_some}

-- Begin.

-- A Begin of so many positions opens a call of this length, if memory is there.
abbrev Opens : Core → ℕ → ℕ → Type 0
Opens p count n =
    (h : History) → FitsApart p h → begin_answer (world p.setup h) count ≡ answer.Call n

-- such a call has the positions that the history leaves it
pub opens_with : (p : Core) (count n : ℕ) → Opens p count n → (h : History) → FitsApart p h
    → n ≡ call_length (world p.setup h).submission count
opens_with p count n opens h f = grind arith

-- the numbers of such a call aren't spent
pub opens_within : (p : Core) (count n : ℕ) → Opens p count n → (h : History) → FitsApart p h
    → p.dispatch.accepted + n ≤ 2 ^ 63 - 1
opens_within p count n opens h f = grind arith

pub again_goes : (p : Core) (d : Rules) (q : Cq) (count n : ℕ) → Opens p count n
    → IsSameCount p.dispatch d → d.is_between_calls ≡ true
    → ((l : LinuxRequests) → ShowsRequests p.dispatch l → ShowsRequests d l) → q ≡ p.cq → IsShortFor p n
    → (h : History) → FitsApart p h
    → FitsApart (record p { dispatch = d; cq = q }) ((step.Begin count, answer.Again) ∷ h)
again_goes p d q count n opens same between shows kept short h f = grind arith

pub call_goes : (p : Core) (s' : Sq) (q : Cq) (d : Rules) (count n : ℕ) (r : BeginAnswer)
    → Opens p count n
    → IsSameCount p.dispatch d → n ≤ d.room → d.is_between_calls ≡ true
    → ((l : LinuxRequests) → ShowsRequests p.dispatch l → ShowsRequests d l)
    → ((g : Setup) (l : Completions) → ShowsCompletions g p.cq l → ShowsCompletions g q l)
    → q.room ≡ p.dispatch.outstanding + n → KeepsMemory p.cq q
    → ((g : Setup) (l : Submission) → ShowsSubmission g p.sq l → r ≡ ring.begin_answer l count)
    → ((g : Setup) (l : Submission) → ShowsSubmission g p.sq l → ShowsSubmission g s' (ring.after_begin l count r))
    → (h : History) → FitsApart p h
    → FitsApart (record p { sq = s'; cq = q; dispatch = d }) ((step.Begin count, begin_told r) ∷ h)
call_goes p s' q d count n r opens same fits between shows kept room memory answered shown h f =
    grind (arith, not_some, opens_within)

-- what holds of a success
pub on_success : {A E : Type 0} (r : Result A E) (P : Type 0) → is_err r ≡ false → OnOk r P → P
on_success r P e holds = grind arith

-- what holds of a failure
pub on_failure : {A E : Type 0} (r : Result A E) (P : Type 0) → is_err r ≡ true → OnErr r P → P
on_failure r P e holds = grind arith

-- a success is no failure
pub not_refused : {A E : Type 0} (r : Result A E) → IsOk r → is_err r ≡ true → ⊥
not_refused r ok e = grind arith
