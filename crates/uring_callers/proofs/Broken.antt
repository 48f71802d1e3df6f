-- A failure in a chain, by either's rules.
use Rattle.std.proofs.Common.{◌≡◌, ℕ, ◌+◌, ℤ, negsuc, Bool, true, false, not, List, ◌∷◌, if◌then◌else◌, refl, sym, subst, ◌∙◌, ap, arith}
use Rattle.uring_callers.proofs.Common.{Answer, History, IsLawfulApart, IsNextInChain, Requests, Setup, World, and_from, and_left, and_parts, and_right, ends_doomed, has_ended_other, has_ended_same, has_failed_same, is_after_failure, is_doomed_after, is_in_turn, is_joined_inside, is_joined_yes, is_running, is_running_ended_other, issue_answer, keeps_back, never_success, no_bytes, not-true, or_right, requests_of, with_ended, world}
use Rattle.uring_rules.specs.Rules.{doomed_result}
use Rattle.uring_entry.proofs.BelowLemmas.{some_below_none}
use Rattle.uring_entry.proofs.EventLemmas.{is_joined_ended, is_after_failure_from}
use Rattle.uring_core.specs.declared.step.Step.TheVariants as step
use Rattle.uring_core.specs.declared.answer.Answer.TheVariants as answer
use Rattle.uring_core.proofs.ListCounts.{any_kept}
use Rattle.uring_core.proofs.LinuxHistories.{by_linux}
use Rattle.uring_laws.proofs.LinuxSound.{IsFirst, linux_sound}

module _ (r : Requests) (n below : ℕ) (bytes : List ℕ) (next : IsNextInChain r n) where
  -- who failed with a negative result has the next after its failure, if a soft link joins them
  next_after : is_after_failure (with_ended r n (negsuc below) bytes) (n + 1) ≡ true
  next_after =
      is_after_failure_from (with_ended r n (negsuc below) bytes) (n + 1) n (record {
        before = omega arith;
        joined = grind (arith, is_joined_ended, is_joined_yes, next.joined);
        soft = next.soft;
        failed = grind (arith, has_failed_same, not-true, and_parts, next.runs, never_success);
      })

  -- and it is in its turn, as whoever runs is
  next_turn : IsFirst r n → is_in_turn (with_ended r n (negsuc below) bytes) (n + 1) ≡ true
  unfolding is_in_turn
  next_turn first =
      ap not (some_below_none (keeps_back (with_ended r n (negsuc below) bytes) (n + 1)) (n + 1)
      (λ k lt. grind (arith, and_right, has_ended_same, is_joined_yes, is_joined_inside, any_kept, and_left, is_joined_ended)))

  -- so it ends as doomed
  pub next_ends : (linux : Bool) → (linux ≡ true → IsFirst r n)
      → ends_doomed linux (with_ended r n (negsuc below) bytes) (n + 1) ≡ true
  next_ends linux first = grind (arith, and_from, next_turn, or_right, next_after, is_doomed_after)

-- whose failure it is makes no difference to the result
same_result : (linux : Bool) (r : Requests) (n k : ℕ) (res : ℤ) (bytes : List ℕ)
    → doomed_result linux (with_ended r n res bytes) k ≡ doomed_result linux r k
same_result linux r n k res bytes = grind arith

doomed_ends : (outstanding running doomed ready cancel : Bool) (as_doomed as_cancel : ℤ)
    → outstanding ≡ true → running ≡ false → doomed ≡ true
    → (if not outstanding then answer.Unknown else (if running then answer.Running else (if doomed then answer.Ended as_doomed no_bytes else (if not ready then answer.NotReady else (if cancel then answer.Ended as_cancel no_bytes else answer.Run)))))
    ≡ answer.Ended as_doomed no_bytes
doomed_ends outstanding running doomed ready cancel x y o r d = grind arith

-- and its issue ends it
next_cancelled : (g : Setup) (w after : World) (n below : ℕ) (bytes : List ℕ)
    → IsNextInChain w.requests n → (g.linux ≡ true → IsFirst w.requests n)
    → after.requests ≡ with_ended w.requests n (negsuc below) bytes
    → issue_answer g after (n + 1) ≡ answer.Ended (doomed_result g.linux w.requests (n + 1)) no_bytes
next_cancelled g w after n below bytes next first is =
    grind (arith, has_ended_other, is_running_ended_other, next_ends, doomed_ends, requests_of, same_result)

-- by Linux's rules whoever runs is in its turn
runs_first : (g : Setup) (h : History) (n : ℕ) → IsLawfulApart g h
    → is_running (world g h).requests n ≡ true → g.linux ≡ true → IsFirst (world g h).requests n
runs_first g h n lawful running is =
    let same : g ≡ by_linux g = ap (λ linux. record g { linux = linux }) is in
    subst (λ k. IsFirst (world k h).requests n) (sym same)
    ((linux_sound g h (subst (λ k. IsLawfulApart k h) same lawful)).started_first n (and_parts _ _ (subst (λ k. is_running (world k h).requests n ≡ true) same running)).0)

-- the failure is a finish, and the issue is the next step
pub cancelled_after : (g : Setup) (h : History) (n below : ℕ) (bytes : List ℕ) (a b : Answer)
    → IsLawfulApart g h → IsNextInChain (world g h).requests n → a ≡ answer.Ended (negsuc below) bytes
    → b ≡ issue_answer g (world g ((step.Finish n, a) ∷ h)) (n + 1)
    → b ≡ answer.Ended (doomed_result g.linux (world g h).requests (n + 1)) no_bytes
cancelled_after g h n below bytes a b lawful next failed is =
    rw failed at is ∙ next_cancelled g (world g h) (world g ((step.Finish n, answer.Ended (negsuc below) bytes) ∷ h)) n below bytes next (runs_first g h n lawful next.runs) refl
