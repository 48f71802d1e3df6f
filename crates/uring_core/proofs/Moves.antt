-- What an event makes of the requests, each with what is known of it because its answer was called for.
use Rattle.std.proofs.Common.{◌≡◌, ℕ, ℤ, Bool, true, false, List, None, refl, ◌∷◌}
use Rattle.uring_core.proofs.Common.{Answer, History, IsLawfulApart, LinuxRequests, Requests, Setup, Sqe, Step, World, end_told_by, entries_of, entry_of, happens, is_cancel, is_outstanding, is_running, may_start, no_bytes, places_from, requests_of, started_by, with_call, with_ended, with_started, world}
use Rattle.uring_rules.specs.Rules.{doomed_result, cancel_result, with_issued_end}
use Rattle.uring_rules.specs.Rules as by_rules
use Rattle.uring_core.specs.declared.step.Step.TheVariants as step
use Rattle.uring_core.specs.declared.answer.Answer.TheVariants as answer
use Rattle.uring_core.proofs.Changes.{Change, refuses, takes, drops, closes, runs, dooms, cancels, finishes, change_of}

-- by Linux's rules or the manual pages', from these requests
pub data Move (linux : Bool) (l : LinuxRequests) : Step → Answer → Requests → Type 0 where
  stays : (s : Step) (a : Answer) → started_by (s, a) ≡ None → end_told_by (s, a) ≡ None → Move linux l s a l.requests
  accepts : (accepted missed head : ℕ) (entries : List Sqe) → Move linux l step.End (answer.Taken accepted missed head) (with_call l.requests entries)
  starts : (n : ℕ) → is_outstanding l.requests n ≡ true → is_running l.requests n ≡ false → by_rules.ends_doomed linux l.requests n ≡ false → may_start linux l n ≡ true → is_cancel (entry_of l.requests n) ≡ false
      → Move linux l (step.Issue n) answer.Run (with_started l.requests n)
  ends_doomed : (n : ℕ) → is_outstanding l.requests n ≡ true
      → Move linux l (step.Issue n) (answer.Ended (doomed_result linux l.requests n) no_bytes) (with_issued_end linux l.requests n (doomed_result linux l.requests n))
  ends_cancel : (n : ℕ) → is_outstanding l.requests n ≡ true → by_rules.ends_doomed linux l.requests n ≡ false → may_start linux l n ≡ true → is_cancel (entry_of l.requests n) ≡ true
      → Move linux l (step.Issue n) (answer.Ended (cancel_result linux l.requests n) no_bytes) (with_issued_end linux l.requests n (cancel_result linux l.requests n))
  ends_run : (n : ℕ) (res : ℤ) (bytes : List ℕ) → is_running l.requests n ≡ true → Move linux l (step.Finish n) (answer.Ended res bytes) (with_ended l.requests n res bytes)

move_by : (g : Setup) (w : World) (s : Step) (a : Answer) → Change g w s a
    → Move g.linux (requests_of w) s a (happens g w s a).requests
move_by g w s a (refuses _ _ same silent) = rw same (stays s a silent.starts silent.ends)
move_by g w s a (takes entry call place opened left at valid) = rw opened (stays _ _ refl refl)
move_by g w s a (drops call place opened left at invalid) = rw opened (stays _ _ refl refl)
move_by g w s a (closes accepted missed head call opened all told) =
    rw opened (accepts accepted missed head (entries_of (places_from w.submission call.count)))
move_by g w s a (runs n outstanding idle spared ready no_cancel) =
    starts n outstanding idle spared ready no_cancel
move_by g w s a (dooms n outstanding idle doomed) = ends_doomed n outstanding
move_by g w s a (cancels n outstanding idle spared ready cancel) =
    ends_cancel n outstanding spared ready cancel
move_by g w s a (finishes n res bytes running) = ends_run n res bytes running
move_by g w s a _ = stays _ _ refl refl

pub move_of : (g : Setup) (s : Step) (a : Answer) (h : History) → IsLawfulApart g ((s, a) ∷ h)
    → Move g.linux (requests_of (world g h)) s a (world g ((s, a) ∷ h)).requests
move_of g s a h lawful = move_by g (world g h) s a (change_of g (world g h) s a lawful.0)
