-- Answers that were recorded elsewhere, with files: what a machine fits after a step was followed, and what is called for as a request ends.
use Rattle.std.proofs.Common.{◌≡◌, ◌↔◌, ℕ, arith, ℤ, neg_ℤ, true, false, List, ◌∷◌, Some, None, refl, sym, inl, inr}
use Rattle.uring_machine.proofs.Common.{Answer, CalledFor, CalledForApart, Core, EndsOn, Err, FileContents, Fits, FitsApart, History, IfErr, IsFinished, IsNoFinish, IsOutcome, IsRefused, IsShortOfMemory, IsWrong, Machine, MayLackMemory, Meets, Ok, OnOk, Outcome, Refusal, Requests, Result, Setup, Step, World, after, ended_with, entry_of, files_of, is_lengthening, is_running, no_bytes, operation_running, result_of, resumed, world}
use Rattle.uring_entry.specs.Preparation.{operation_of}
use Rattle.uring_entry.specs.declared.errno.TheConstants.{ENOMEM}
use Rattle.uring_entry.specs.declared.operation.Op.{Op}
use Rattle.uring_core.specs.declared.step.Step.TheVariants as step
use Rattle.uring_core.specs.declared.answer.Answer.TheVariants as answer
use Rattle.uring_core.specs.declared.wanted.Wanted.TheVariants.{Only, EndOrNoMemory}
use Rattle.uring_core.specs.declared.wanted.Refusal.TheVariants.{Wrong}
use Rattle.uring_machine.proofs.Fitting.{step_fits, finish_fits}
use Rattle.uring_core.proofs.Running.{runs_with}
use Rattle.uring_core.proofs.RecordedAnswers.{wrong_beside}
use Rattle.uring_files.proofs.OperationCases.{failed}

-- Any step but a Finish: its core follows.

-- the machine with a core that fits the same history
pub kept_fits : (core later : Core) (files left : List FileContents) (h : History)
    → later.setup ≡ core.setup → left ≡ files → Fits (record { core = core; files = files }) h
    → FitsApart later h
    → Fits (record { core = later; files = left }) h
kept_fits core later files left h same untouched fits next = grind (arith, fits, next)

pub resumed_fits : (core later : Core) (files : List FileContents) (s : Step) (refusal : Refusal) (h : History)
    → later.setup ≡ core.setup → IsNoFinish s
    → Fits (record { core = core; files = files }) h → FitsApart later (resumed s refusal h)
    → Fits (record { core = later; files = files }) (resumed s refusal h)
resumed_fits core later files s (Wrong (Only x)) h same other fits next =
    step_fits core later files s x h same other fits next
resumed_fits core later files s _ h same other fits next =
    kept_fits core later files files h same refl fits next

-- some history is fitted, whichever way the core went
pub follows_some : (core later : Core) (files : List FileContents) (s : Step) (a : Answer) (r : Result Unit Refusal) (h : History)
    → later.setup ≡ core.setup → IsNoFinish s
    → Fits (record { core = core; files = files }) h
    → OnOk r ((k : History) → FitsApart core k → FitsApart later ((s, a) ∷ k))
    → IfErr r (λ refusal. (k : History) → FitsApart core k → FitsApart later (resumed s refusal k))
    → (k : History) × Fits (record { core = later; files = files }) k
follows_some core later files s a (Ok x) h same other fits next goes_on =
    ((s, a) ∷ h, step_fits core later files s a h same other fits (next h fits.core))
follows_some core later files s a (Err refusal) h same other fits next goes_on = (resumed s refusal h, resumed_fits core later files s refusal h same other fits (goes_on h fits.core))

-- what is refused apart from files is refused
pub refused_apart : (g : Setup) (w : World) (s : Step) (a : Answer) (refusal : Refusal)
    → IsNoFinish s → IsRefused (CalledForApart g w s) a refusal
    → IsRefused (CalledFor g w s) a refusal
refused_apart g w (step.Finish n) a refusal other refused = absurd other
refused_apart g w _ a refusal other refused = refused

pub lacks_apart : (m : Machine) (w : World) (s : Step) → IsNoFinish s → IsShortOfMemory m.core w s
    → MayLackMemory m w s
lacks_apart m w s other short = grind arith

-- A Finish of what doesn't run.

pub idle_refused : (g : Setup) (w : World) (n : ℕ) (a : Answer) (refusal : Refusal)
    → None ≡ operation_running w.requests n → refusal ≡ Wrong (Only answer.NotRunning)
    → (a ≡ answer.NotRunning → ⊥)
    → IsRefused (CalledFor g w (step.Finish n)) a refusal
idle_refused g w n a refusal none is other =
    let idle : is_running w.requests n ≡ false = grind arith in
    rw is (wrong_beside (CalledFor g w (step.Finish n)) answer.NotRunning a (rw idle refl) (λ b called. rw idle at called) other)

-- A Finish of what runs.

-- an end as this operation calls for on these files
abbrev pub EndsWith : List FileContents → Op → Answer → Type 0
EndsWith files op (answer.Ended res bytes) =
    IsOutcome files op (record { res = res; bytes = bytes })
EndsWith files op _ = ⊥

ends_on : (files : List FileContents) (r : Requests) (n : ℕ) (a : Answer)
    → EndsOn files r n true a ↔ EndsWith files (operation_of (entry_of r n)) a
ends_on files r n a = (λ called. grind arith, λ called. grind arith)

-- What runs in a machine that fits a history: what is called for, by the operation and the machine's files.
pub record RunsWith (m : Machine) (h : History) (n : ℕ) (op : Op) : Type 0 where
  pub ends : (a : Answer) → CalledFor m.core.setup (world m.core.setup h) (step.Finish n) a
      → EndsWith m.files op a
  pub called : (a : Answer) → EndsWith m.files op a
      → CalledFor m.core.setup (world m.core.setup h) (step.Finish n) a
  pub is_same : is_lengthening m.files op
      ≡ is_lengthening (files_of m.core.setup (world m.core.setup h)) (operation_of (entry_of (world m.core.setup h).requests n))

pub runs_so : (m : Machine) (h : History) (n : ℕ) (op : Op) → Fits m h
    → Some op ≡ operation_running (world m.core.setup h).requests n → RunsWith m h n op
runs_so m h n op fits is =
    let w : World = world m.core.setup h in
    let runs = runs_with w.requests n op is in
    record {
      ends = λ a called. rw (fits.files, runs.1) ((ends_on _ w.requests n a).0 (rw runs.0 at called));
      called = λ a ends. rw runs.0 ((ends_on _ w.requests n a).1 (rw (fits.files, runs.1) at ends));
      is_same = cc (fits.files, runs.1);
    }

-- one end alone is called for where the operation doesn't make its file longer
pub end_refused : (m : Machine) (h : History) (n : ℕ) (op : Op) (x a : Answer) (refusal : Refusal)
    → RunsWith m h n op → is_lengthening m.files op ≡ false
    → CalledFor m.core.setup (world m.core.setup h) (step.Finish n) x → refusal ≡ Wrong (Only x)
    → (a ≡ x → ⊥)
    → IsRefused (CalledFor m.core.setup (world m.core.setup h) (step.Finish n)) a refusal
end_refused m h n op x a refusal runs short called is other =
    rw is (wrong_beside _ x a called (λ b k. grind (arith, runs.ends b k, runs.ends x called)) other)

-- The write makes its file longer.

ends_growth : (files : List FileContents) (op : Op) (res : ℤ) (a : Answer)
    → is_lengthening files op ≡ true → result_of files op ≡ ended_with res
    → Meets (EndOrNoMemory res) a → EndsWith files op a
ends_growth files op res a long is e = grind arith

pub growth_wrong : (m : Machine) (h : History) (n : ℕ) (op : Op) (res : ℤ) (a : Answer)
    → RunsWith m h n op → is_lengthening m.files op ≡ true → result_of m.files op ≡ ended_with res
    → (a ≡ answer.Ended (neg_ℤ ENOMEM) no_bytes → ⊥) → (a ≡ answer.Ended res no_bytes → ⊥)
    → IsWrong (CalledFor m.core.setup (world m.core.setup h) (step.Finish n)) a (EndOrNoMemory res)
growth_wrong m h n op res a runs long is no_failure no_success = record {
  not_called = λ k. grind (arith, (runs.ends a k));
  called = λ b k. grind (arith, (runs.ends b k));
  only = λ b k. runs.called b (ends_growth m.files op res b long is k);
}

pub growth_called : (m : Machine) (h : History) (n : ℕ) (op : Op) (res : ℤ) (a : Answer)
    → RunsWith m h n op → is_lengthening m.files op ≡ true → result_of m.files op ≡ ended_with res
    → a ≡ answer.Ended res no_bytes
    → CalledFor m.core.setup (world m.core.setup h) (step.Finish n) a
growth_called m h n op res a runs long is e =
    runs.called a (ends_growth m.files op res a long is (inl e))

-- what ended otherwise than with its success found no memory
pub growth_failed : (files : List FileContents) (op : Op) (res : ℤ) (outcome : Outcome)
    → result_of files op ≡ ended_with res → IsOutcome files op outcome → (outcome.res ≡ res → ⊥)
    → outcome.res ≡ neg_ℤ ENOMEM
growth_failed files op res outcome is e other = grind arith

-- no write gives bytes
pub growth_bytes : (files : List FileContents) (op : Op) (res : ℤ) (outcome : Outcome)
    → result_of files op ≡ ended_with res → IsOutcome files op outcome → outcome.bytes ≡ no_bytes
growth_bytes files op res outcome is e = grind arith

pub ended_alike : (x y : ℤ) (b c : List ℕ) → x ≡ y → b ≡ c → answer.Ended x b ≡ answer.Ended y c
ended_alike x y b c e f = λ i. answer.Ended (e i) (f i)

-- a running request ended as was recorded
pub followed_end : (core later : Core) (files : List FileContents) (n : ℕ) (op : Op) (outcome : Outcome) (left : List FileContents) (a given : Answer) (h : History)
    → later.setup ≡ core.setup
    → Fits (record { core = core; files = files }) h
    → Some op ≡ operation_running (world core.setup h).requests n → IsOutcome files op outcome
    → left ≡ after files op outcome.res
    → FitsApart later ((step.Finish n, a) ∷ h) → IsFinished (world core.setup h) n outcome a
    → given ≡ answer.Ended outcome.res outcome.bytes
    → Fits (record { core = later; files = left }) ((step.Finish n, given) ∷ h)
followed_end core later files n op outcome left a given h same fits is allowed leaves next finished recorded =
    let ends : given ≡ a = cc (recorded, rw (runs_with (world core.setup h).requests n op is).0 at finished) in
    rw ends (finish_fits core later files n op outcome left a h same fits is allowed leaves next finished)

-- it ended without memory, as was recorded
pub followed_failure : (core later : Core) (files : List FileContents) (n : ℕ) (op : Op) (a given : Answer) (h : History)
    → later.setup ≡ core.setup
    → Fits (record { core = core; files = files }) h
    → Some op ≡ operation_running (world core.setup h).requests n → is_lengthening files op ≡ true
    → FitsApart later ((step.Finish n, a) ∷ h)
    → IsFinished (world core.setup h) n (ended_with (neg_ℤ ENOMEM)) a
    → given ≡ answer.Ended (neg_ℤ ENOMEM) no_bytes
    → Fits (record { core = later; files = files }) ((step.Finish n, given) ∷ h)
followed_failure core later files n op a given h same fits is long next finished recorded =
    followed_end core later files n op (ended_with (neg_ℤ ENOMEM)) files a given h same fits is (inr (long, refl)) (sym (failed files op 11)) next finished recorded
