-- That a machine fits a history with one more event.
use Rattle.std.proofs.Common.{◌≡◌, ℕ, arith, ◌≤◌, List, ◌∷◌, Some, None, sym, subst, ◌∙◌, ap}
use Rattle.uring_machine.proofs.Common.{Answer, CalledFor, CalledForApart, Core, FileContents, Fits, FitsApart, History, IsFinished, IsLawful, IsNoFinish, IsOutcome, IsUnrefused, Outcome, Requests, Setup, Step, World, after, elements_for, elements_for_step, entry_of, files_of, finish_answer, max_len, operation_running, result_of, world}
use Rattle.uring_entry.specs.Preparation.{operation_of}
use Rattle.uring_entry.specs.declared.operation.Op.{Op}
use Rattle.uring_core.specs.declared.step.Step.TheVariants as step
use Rattle.uring_core.specs.declared.answer.Answer.TheVariants as answer
use Rattle.uring_core.proofs.FileHistory.{files_kept, files_ended}
use Rattle.uring_core.proofs.Running.{runs_with}

-- the machine with another core of its shape: but for a finish, answers are called for as they are apart from files
pub step_fits : (core later : Core) (files : List FileContents) (s : Step) (a : Answer) (h : History)
    → later.setup ≡ core.setup → IsNoFinish s
    → Fits (record { core = core; files = files }) h → FitsApart later ((s, a) ∷ h)
    → Fits (record { core = later; files = files }) ((s, a) ∷ h)
step_fits core later files s a h same other fits next =
    let called : CalledForApart later.setup (world later.setup h) s a = next.lawful.0 in
    record {
      core = next;
      files = rw (files_kept later.setup s a h next.lawful other, same) fits.files;
      lawful = (grind arith, subst (λ k. IsLawful k h) (sym same) fits.lawful);
    }

-- a running request ended
pub finish_fits : (core later : Core) (files : List FileContents) (n : ℕ) (op : Op) (outcome : Outcome) (left : List FileContents) (a : Answer) (h : History)
    → later.setup ≡ core.setup
    → Fits (record { core = core; files = files }) h
    → Some op ≡ operation_running (world core.setup h).requests n
    → IsOutcome files op outcome → left ≡ after files op outcome.res
    → FitsApart later ((step.Finish n, a) ∷ h) → IsFinished (world core.setup h) n outcome a
    → Fits (record { core = later; files = left }) ((step.Finish n, a) ∷ h)
finish_fits core later files n op outcome left a h same fits is allowed leaves next finished =
    let r : Requests = (world core.setup h).requests in
    let runs = runs_with r n op is in
    let ends : a ≡ answer.Ended outcome.res outcome.bytes = rw runs.0 at finished in
    record {
      core = next;
      files = subst (λ k. left ≡ files_of k (world k ((step.Finish n, a) ∷ h))) (sym same)
          (rw (ends, leaves, runs.1) (ap (λ fs. after fs (operation_of (entry_of r n)) outcome.res) fits.files ∙ sym (files_ended r n outcome.res outcome.bytes _)));
      lawful = subst (λ k. IsLawful k ((step.Finish n, a) ∷ h)) (sym same) (rw (ends, runs.0, ← runs.1, ← fits.files) allowed, fits.lawful);
    }

-- it ended as its operation calls for, and so with the answer that is called for if memory is there
pub finish_called : (core : Core) (files : List FileContents) (n : ℕ) (op : Op) (outcome : Outcome) (a : Answer) (h : History)
    → Fits (record { core = core; files = files }) h
    → Some op ≡ operation_running (world core.setup h).requests n → outcome ≡ result_of files op
    → IsFinished (world core.setup h) n outcome a
    → a ≡ finish_answer (files_of core.setup (world core.setup h)) (world core.setup h).requests n
finish_called core files n op outcome a h fits is right finished =
    cc (finished, right, fits.files, (runs_with (world core.setup h).requests n op is).1)

-- what doesn't run is answered so
pub finish_idle : (core : Core) (files : List FileContents) (n : ℕ) (h : History)
    → None ≡ operation_running (world core.setup h).requests n
    → answer.NotRunning ≡ finish_answer (files_of core.setup (world core.setup h)) (world core.setup h).requests n
finish_idle core files n h none =
    grind arith

-- a step that is no Finish and isn't answered Again refuses no memory
pub unrefused_apart : (g : Setup) (w : World) (s : Step) (a : Answer) → IsNoFinish s
    → (a ≡ answer.Again → ⊥) → IsUnrefused g w s a
unrefused_apart g w s a other ok = grind arith

pub unrefused_finish : (g : Setup) (w : World) (p : Core) (s : Step) (k : ℕ) (a : Answer) (n : ℕ)
    → s ≡ step.Finish k → (max_len ≤ n → a ≡ finish_answer (files_of g w) w.requests k)
    → elements_for_step p w s ≤ n → IsUnrefused g w s a
unrefused_finish g w p s k a n is right = rw is right

pub elements_apart : (p : Core) (w : World) (s : Step) (n : ℕ) → IsNoFinish s
    → elements_for_step p w s ≤ n → elements_for p w s ≤ n
elements_apart p w s n other few = grind arith

-- an event of a fitted history was called for
pub called_for : (g : Setup) (core : Core) (files : List FileContents) (s : Step) (a : Answer) (h : History)
    → core.setup ≡ g → Fits (record { core = core; files = files }) ((s, a) ∷ h)
    → CalledFor g (world g h) s a
called_for g core files s a h same fits =
    rw same at fits.lawful.0
