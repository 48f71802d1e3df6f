-- Answers that were recorded elsewhere: what is called for beside one answer, and what a refusal says.
use Rattle.std.proofs.Common.{◌≡◌, ℕ, ◌<◌, ◌≤◌, Bool, true, false, if◌then◌else◌, ◌∷◌, Option, Some, None, is_some, refl, sym, ap, ◌∙◌, inl, inr, arith}
use Rattle.uring_core.proofs.Common.{Answer, CalledForApart, Core, Err, FinishesApart, FitsApart, History, Ok, Op, OrAgain, Result, Setup, Step, World, begin_answer, entry_of, is_running, operation_of, operation_running, true≢false}
use Rattle.uring_core.specs.Recorded.{IsWrong, IsOneAnswer, IsRefused}
use Rattle.uring_core.specs.declared.step.Step.TheVariants as step
use Rattle.uring_core.specs.declared.answer.Answer.TheVariants as answer
use Rattle.uring_core.specs.declared.wanted.Wanted.TheVariants.{Only, CallOrAgain}
use Rattle.uring_core.specs.declared.wanted.Refusal.{Refusal}
use Rattle.uring_core.specs.declared.wanted.Refusal.TheVariants.{Wrong}

-- another answer than the one that is called for is wrong
pub wrong_beside : (Called : Answer → Type 0) (x a : Answer) → Called x
    → ((b : Answer) → Called b → b ≡ x) → (a ≡ x → ⊥) → IsWrong Called a (Only x)
wrong_beside Called x a called one other = grind arith

-- to any other step than Begin and Finish one answer is called for
pub one_answer : (g : Setup) (w : World) (s : Step) → ((count : ℕ) → s ≡ step.Begin count → ⊥)
    → ((n : ℕ) → s ≡ step.Finish n → ⊥) → IsOneAnswer (CalledForApart g w s)
one_answer g w (step.Begin count) begin finish a b e f = absurd (begin count refl)
one_answer g w (step.Finish n) begin finish a b e f = absurd (finish n refl)
one_answer g w _ begin finish a b e f = e ∙ sym f

-- to a Begin that opens no call, or one of no position, too
pub one_begin : (g : Setup) (w : World) (count : ℕ)
    → ((n : ℕ) → begin_answer w count ≡ answer.Call n → 0 < n → ⊥)
    → IsOneAnswer (CalledForApart g w (step.Begin count))
one_begin g w count none = beside (begin_answer w count) none where
  beside : (x : Answer) → ((n : ℕ) → x ≡ answer.Call n → 0 < n → ⊥) → IsOneAnswer (OrAgain x)
  beside (answer.Call n) none a b (inl e) (inl f) = e ∙ sym f
  beside (answer.Call n) none a b (inr again) f = absurd (none n refl again.1)
  beside (answer.Call n) none a b (inl e) (inr again) = absurd (none n refl again.1)
  beside x none a b e f = e ∙ sym f

-- a call of no position isn't one of some
pub no_position : (m n : ℕ) (a : Answer) → a ≡ answer.Call m → a ≡ answer.Call n → m ≤ 0 → 0 < n → ⊥
no_position m n a e f none some = let same : m ≡ n = cc in omega arith

-- what has an operation to carry out runs, and ends
pub ended_since : (w : World) (n : ℕ) (op : Option Op) (x a : Answer)
    → op ≡ operation_running w.requests n → is_some op ≡ true
    → a ≡ (if is_running w.requests n then x else answer.NotRunning) → a ≡ x
ended_since w n op x a is some ends =
    by_running (operation_of (entry_of w.requests n)) (is_running w.requests n) is ends where
      by_running : (o : Op) (running : Bool) → op ≡ (if running then Some o else None) → a ≡ (if running then x else answer.NotRunning) → a ≡ x
      by_running o true e k = k
      by_running o false e k = absurd (true≢false (sym some ∙ ap is_some e))

-- a Begin that was answered Again made nothing
pub again_made_nothing : (p : Core) (count : ℕ) (a : Answer) (h : History) → a ≡ answer.Again
    → FitsApart p ((step.Begin count, a) ∷ h) → FitsApart p h
again_made_nothing p count a h is f = grind arith

-- what was followed isn't refused
pub followed : (r : Result Unit Refusal) (x : Unit) (refusal : Refusal) → r ≡ Ok x → r ≡ Err refusal
    → ⊥
followed r x refusal ok err = cc

-- what isn't answered Again where a call opens is answered that it does
pub call_made : (x a given : Answer) (length : ℕ) → x ≡ answer.Call length
    → given ≡ answer.Call length → (a ≡ answer.Again → ⊥) → OrAgain x a → a ≡ given
call_made x a given length is same sure told = grind arith

-- another answer than the call and Again is wrong where a call of some positions opens
pub wrong_call : (x : Answer) (length : ℕ) (a : Answer) → x ≡ answer.Call length → 0 < length
    → (a ≡ answer.Call length → ⊥) → (a ≡ answer.Again → ⊥)
    → IsWrong (OrAgain x) a (CallOrAgain length)
wrong_call x length a is some no_call no_again = grind arith

-- to a Finish of what doesn't run one answer is called for
pub idle_refused_apart : (w : World) (n : ℕ) (op : Option Op) (a : Answer) (refusal : Refusal)
    → op ≡ operation_running w.requests n → is_some op ≡ false
    → refusal ≡ Wrong (Only answer.NotRunning) → (a ≡ answer.NotRunning → ⊥)
    → IsRefused (FinishesApart (is_running w.requests n)) a refusal
idle_refused_apart w n op a refusal is none told other = grind arith
