-- Worlds that lawful histories make which refuse no memory, with the files that they leave: what one step more makes of them.
-- `step_on` and `finish_on` make the history longer; who uses them speaks of worlds alone.
use Rattle.std.proofs.Common.{◌≡◌, ℕ, Bool, true, false, List, [], ◌∷◌, ◌++◌, if◌then◌else◌, refl, sym, subst, ap, ◌∙◌, inl}
use Rattle.uring_outcomes.proofs.Common.{Answer, CalledFor, EndsOn, FileContents, History, IsLawful, Move, Op, Outcome, RefusesNone, Setup, World, after, empty_files, entry_of, files_of, happens, is_running, moves_in, operation_of, result_of, with_event, world}
use Rattle.uring_core.specs.Core.{IsNoFinish}
use Rattle.uring_core.specs.declared.step.Step.{Step}
use Rattle.uring_core.specs.declared.step.Step.TheVariants as step
use Rattle.uring_core.specs.declared.answer.Answer.TheVariants as answer
use Rattle.uring_core.proofs.FileHistory.{files_kept, files_ended}
use Rattle.uring_laws.proofs.WholeLaws.{lawful_apart}
use Rattle.uring_machine.specs.Machine.{IsUnrefused, finish_answer}
use Rattle.uring_outcomes.specs.declared.move_of_calls.Move.TheVariants as move

-- some lawful history that refuses no memory, of these moves, makes this world and leaves these files
pub record Reaches (g : Setup) (w : World) (files : List FileContents) (moves : List Move) : Type 0 where
  pub history : History
  pub lawful : IsLawful g history
  pub refuses_none : RefusesNone g history
  pub makes : world g history ≡ w
  pub leaves : files_of g (world g history) ≡ files
  pub are : moves_in history ≡ moves

-- a step that is no finish
pub step_on : {moves : List Move} (g : Setup) (w : World) (files : List FileContents) (s : Step) (a : Answer)
    → Reaches g w files moves → IsNoFinish s → CalledFor g w s a → IsUnrefused g w s a
    → Reaches g (happens g w s a) files (with_event s a moves)
step_on {moves} g w files s a there other called unrefused =
    let called_there : CalledFor g (world g there.history) s a = subst (λ v. CalledFor g v s a) (sym there.makes) called in
    record {
      history = (s, a) ∷ there.history;
      lawful = (called_there, there.lawful);
      refuses_none = (subst (λ v. IsUnrefused g v s a) (sym there.makes) unrefused, there.refuses_none);
      makes = ap (λ v. happens g v s a) there.makes;
      leaves = files_kept g s a there.history (lawful_apart g ((s, a) ∷ there.history) (called_there, there.lawful)) other ∙ there.leaves;
      are = ap (with_event s a) there.are;
    }

-- the same world, spelt otherwise
pub as_well : {moves : List Move} (g : Setup) (w v : World) (files : List FileContents) → w ≡ v → Reaches g w files moves
    → Reaches g v files moves
as_well {moves} g w v files same there = subst (λ x. Reaches g x files moves) same there

-- A finish of a running request, as its operation calls for on these files.

abbrev op_of : World → ℕ → Op
op_of w n = operation_of (entry_of w.requests n)

abbrev called_of : List FileContents → World → ℕ → Outcome
called_of files w n = result_of files (op_of w n)

abbrev pub ends_as_called : List FileContents → World → ℕ → Answer
ends_as_called files w n = answer.Ended (called_of files w n).res (called_of files w n).bytes

ends_on : (files : List FileContents) (w : World) (n : ℕ) (running : Bool) → running ≡ true
    → EndsOn files w.requests n running (ends_as_called files w n)
ends_on files w n true is = inl refl
ends_on files w n false is = absurd cc

-- what is asked of the answer in the world that a history made
asked_there : {moves : List Move} (g : Setup) (w : World) (files : List FileContents) (P : List FileContents → World → Type 0)
    → (there : Reaches g w files moves) → P files w
    → P (files_of g (world g there.history)) (world g there.history)
asked_there g w files P there holds =
    subst (λ v. P (files_of g (world g there.history)) v) (sym there.makes) (subst (λ fs. P fs w) (sym there.leaves) holds)

pub finish_on : {moves : List Move} (g : Setup) (w : World) (files : List FileContents) (n : ℕ) → Reaches g w files moves
    → is_running w.requests n ≡ true
    → Reaches g (happens g w (step.Finish n) (ends_as_called files w n)) (after files (op_of w n) (called_of files w n).res) (moves ++ move.Finish n ∷ [])
finish_on {moves} g w files n there running =
    let a : Answer = ends_as_called files w n in
    let o : Outcome = called_of files w n in
    record {
      history = (step.Finish n, a) ∷ there.history;
      lawful = (asked_there g w files (λ fs v. EndsOn fs v.requests n (is_running v.requests n) a) there (ends_on files w n (is_running w.requests n) running), there.lawful);
      refuses_none = (asked_there g w files (λ fs v. a ≡ finish_answer fs v.requests n) there (sym (ap (λ b. if b then a else answer.NotRunning) running)), there.refuses_none);
      makes = ap (λ v. happens g v (step.Finish n) a) there.makes;
      leaves =
          files_ended (world g there.history).requests n o.res o.bytes (empty_files g.files)
          ∙ asked_there g w files (λ fs v. after fs (op_of v n) o.res ≡ after files (op_of w n) o.res) there refl;
      are = ap (with_event (step.Finish n) a) there.are;
    }
