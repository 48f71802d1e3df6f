-- Which words tell that memory was refused.
use Rattle.std.proofs.Common.{◌≡◌, ℕ, ◌≤◌, List, length, Option, Some, None, Result, Ok, Err, sym, ap, subst, arith}
use Rattle.uring_ffi_values.proofs.Common.{Answer, Core, CrashMachine, Epoch, Fits, FitsApart, FitsRun, History, IfSome, IsAgain, IsErrOf, IsSomeAnd, IsUnrefused, IsUnrefusedOn, Machine, Setup, Sqe, Step, SubmittedApart, TellsUnrefusedOn, elements_for, elements_for_call, elements_for_step, kind_of, submit_told, words_of, world}
use Rattle.uring_entry.specs.Submission.{Call}
use Rattle.uring_core.specs.World.{World}
use Rattle.uring_core.specs.StepAnswers.{end_answer_in}
use Rattle.uring_core.specs.declared.answer.Answer.TheVariants as answer
use Rattle.uring_core.specs.declared.step.Step.TheVariants as step
use Rattle.uring_core.specs.declared.cores.submit.NotSubmitted.{NotSubmitted}
use Rattle.uring_core.specs.declared.cores.submit.NotSubmitted.TheVariants as not_made_as
use Rattle.uring_ffi_values.specs.Cores.Stepping.{TellUnrefused}
use Rattle.uring_ffi_values.specs.declared.core_words.answer_words.AnswerWords.{AnswerWords}

-- no other answer has the kind of Again
again_alone : (a : Answer) → kind_of a ≡ 11 → a ≡ answer.Again
again_alone a is = grind arith

-- an answer that refuses no memory is told as one
unrefused_is_told : (g : Setup) (w : World) (s : Step) (a : Answer) → IsUnrefused g w s a
    → TellUnrefused g w s (words_of a)
unrefused_is_told g w (step.Finish n) a is = ap words_of is
unrefused_is_told g w _ a never = λ told. never (again_alone a told)

-- what is granted to a core's step is granted to the call that makes it
pub core_granted : (grants : ℕ → Type 0) (place : Option Core) (given : Option Step) (s : Step)
    → given ≡ Some s → (a : Answer) (words : AnswerWords) → words ≡ words_of a
    → IsSomeAnd place (λ core. (h : History) (n : ℕ) → FitsApart core h → grants n → elements_for core (world core.setup h) s ≤ n → a ≡ answer.Again → ⊥)
    → IfSome place (λ core. IfSome given (λ t. (h : History) (n : ℕ) → FitsApart core h → grants n → elements_for core (world core.setup h) t ≤ n → IsAgain words → ⊥))
core_granted grants place given s is a words told made = grind arith

-- and that to a machine's
pub machine_granted : (grants : ℕ → Type 0) (place : Option Machine) (given : Option Step) (s : Step)
    → given ≡ Some s → (a : Answer) (words : AnswerWords) → words ≡ words_of a
    → IsSomeAnd place (λ m. (h : History) (n : ℕ) → Fits m h → grants n → elements_for_step m.core (world m.core.setup h) s ≤ n → IsUnrefused m.core.setup (world m.core.setup h) s a)
    → IfSome place (λ m. IfSome given (λ t. (h : History) (n : ℕ) → Fits m h → grants n → elements_for_step m.core (world m.core.setup h) t ≤ n → TellUnrefused m.core.setup (world m.core.setup h) t words))
machine_granted grants None given s is a words told made = absurd made
machine_granted grants (Some m) given s is a words told made =
    subst (λ o. IfSome o (λ t. (h : History) (n : ℕ) → Fits m h → grants n → elements_for_step m.core (world m.core.setup h) t ≤ n → TellUnrefused m.core.setup (world m.core.setup h) t words)) (sym is)
    (λ h n fits has few. subst (λ w. TellUnrefused m.core.setup (world m.core.setup h) s w) (sym told) (unrefused_is_told m.core.setup (world m.core.setup h) s a (made h n fits has few)))

-- and a crash machine's answer refuses no memory, if whatever is asked for is granted
pub crash_unrefused : (grants : ℕ → Type 0) (place now : Option CrashMachine) (given : Option Step) (s : Step)
    → now ≡ place → given ≡ Some s → (a : Answer) (words : AnswerWords) → words ≡ words_of a
    → IsSomeAnd now (λ m. ((n : ℕ) → grants n) → (e : Epoch) (earlier : List Epoch) → FitsRun m e earlier → IsUnrefusedOn m.files (world m.core.setup e.history) s a)
    → ((n : ℕ) → grants n) → IsSomeAnd given (λ t. IsSomeAnd place (λ m. TellsUnrefusedOn t m words))
crash_unrefused grants place now given s kept is a words told made all = grind arith

-- no End is answered Again
end_is_not_again : (g : Setup) (w : World) (call : Option Call) → kind_of (end_answer_in g w call) ≡ 11 → ⊥
end_is_not_again g w call is = grind arith

-- what C is told is Again only if the Begin of the call was answered so
again_of_begin : (entries : List Sqe) (made : Result Answer NotSubmitted) (old new : Core) (h : History)
    → SubmittedApart entries made old new → FitsApart old h → kind_of (submit_told made) ≡ 11
    → IsErrOf made (not_made_as.Begin answer.Again)
again_of_begin entries (Ok told) old new h made fits is = grind (arith, end_is_not_again)
again_of_begin entries (Err (not_made_as.Begin refusal)) old new h made fits is = grind arith
again_of_begin entries (Err not_made_as.Closed) old new h made fits is = absurd (omega (arith, is))
again_of_begin entries (Err not_made_as.InCall) old new h made fits is = absurd (omega (arith, is))
again_of_begin entries (Err not_made_as.TooMany) old new h made fits is = absurd (omega (arith, is))
again_of_begin entries (Err not_made_as.Waits) old new h made fits is = absurd (omega (arith, is))

-- and what is granted to a whole call
pub submit_granted : (grants : ℕ → Type 0) (place after : Option Core) (entries : List Sqe) (many : ℕ)
    → length entries ≡ many → (made : Result Answer NotSubmitted) (words : AnswerWords) → words ≡ words_of (submit_told made)
    → IsSomeAnd place (λ old. IsSomeAnd after (SubmittedApart entries made old))
    → IsSomeAnd place (λ core. (h : History) (n : ℕ) → FitsApart core h → grants n → elements_for_call core (length entries) ≤ n → IsErrOf made (not_made_as.Begin answer.Again) → ⊥)
    → IfSome place (λ core. (h : History) (n : ℕ) → FitsApart core h → grants n → elements_for_call core many ≤ n → IsAgain words → ⊥)
submit_granted grants place after entries many is made words told makes granted = grind (arith, again_of_begin)
