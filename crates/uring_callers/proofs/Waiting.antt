-- A request that runs waits for nobody.
use Rattle.std.proofs.Common.{◌≡◌, ℕ, ◌<◌, ℤ, Bool, true, false, not, if◌then◌else◌, arith}
use Rattle.uring_callers.proofs.Common.{Setup, World, and_parts, has_ended, is_joined, is_ready_inside, issue_answer, no_bytes, waits_for}
use Rattle.uring_core.proofs.SoundRequests.{ready_first}
use Rattle.uring_laws.proofs.LinuxSound.{turn_first}
use Rattle.uring_core.specs.declared.answer.Answer.TheVariants as answer

run_ready : (outstanding running doomed ready cancel : Bool) (as_doomed as_cancel : ℤ)
    → answer.Run
    ≡ (if not outstanding then answer.Unknown else (if running then answer.Running else (if doomed then answer.Ended as_doomed no_bytes else (if not ready then answer.NotReady else (if cancel then answer.Ended as_cancel no_bytes else answer.Run)))))
    → ready ≡ true
run_ready outstanding running doomed ready cancel x y is = grind arith

-- by either's rules each earlier member of the group of a request that runs has ended
pub run_after_ended : (g : Setup) (w : World) (n m : ℕ) → answer.Run ≡ issue_answer g w n → m < n
    → is_joined w.requests m n ≡ true → has_ended w.requests m ≡ true
run_after_ended g w n m is lt joined = grind (arith, (g.linux), run_ready, and_parts, turn_first, ready_first)

-- by the manual pages' rules what a request that runs waits for has ended
pub run_waits_for_none : (g : Setup) (w : World) (n m : ℕ) → g.linux ≡ false
    → answer.Run ≡ issue_answer g w n → m < n → waits_for w.requests n m ≡ true
    → has_ended w.requests m ≡ true
run_waits_for_none g w n m manual is lt waits = grind (arith, manual, run_ready, is_ready_inside)
