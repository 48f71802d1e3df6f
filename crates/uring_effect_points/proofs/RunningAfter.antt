-- Which operations run after an event, by its mark.
use Rattle.std.proofs.Common.{◌≡◌, ◌==◌, ◌||◌, ◌&&◌, ℕ, ℤ, Bool, true, false, not, List, refl, sym, ap, ◌∙◌, arith}
use Rattle.uring_effect_points.proofs.Common.{Answer, Change, Ends, Idle, IsSilent, Mark, Requests, Setup, Starts, Step, World, cancel_result, cancels, closes, doomed_result, dooms, drops, entry_of, finishes, happens, has_ended, has_started, is_running, list_any_push, mark_by, operation_of, refuses, runs, takes, with_ended, with_issued_end, with_started}
use Rattle.uring_core.specs.declared.step.Step.TheVariants as step
use Rattle.uring_core.specs.declared.answer.Answer.TheVariants as answer
use Rattle.uring_laws.proofs.EndedRequests.{not_ended}

-- whether an operation runs after a mark, if it did before it or not as told
abbrev pub runs_after : Mark → Bool → ℕ → Bool
runs_after (Starts m op) b n = b || (m == n)
runs_after (Ends m e) b n = b && not (m == n)
runs_after Idle b n = b

-- ---- of Bools

started_more : (s k e : Bool) → (k ≡ true → e ≡ false) → ((s || k) && not e) ≡ ((s && not e) || k)
started_more s k e none = grind arith

ended_idle : (s e k : Bool) → (k ≡ true → (s && not e) ≡ false) → (s && not (e || k)) ≡ (s && not e)
ended_idle s e k idle = grind arith

ended_run : (s e k : Bool) → (s && not (e || k)) ≡ ((s && not e) && not k)
ended_run s e k = grind arith

-- ---- of requests

start_runs : (r : Requests) (m n : ℕ) → has_ended r m ≡ false
    → is_running (with_started r m) n ≡ (is_running r n || (m == n))
start_runs r m n unended = grind (arith, list_any_push, started_more)

end_is : (r : Requests) (m n : ℕ) (res : ℤ) (bytes : List ℕ)
    → is_running (with_ended r m res bytes) n ≡ (has_started r n && not (has_ended r n || (m == n)))
end_is r m n res bytes = grind (arith, list_any_push)

end_idle : (r : Requests) (m n : ℕ) (res : ℤ) (bytes : List ℕ) → is_running r m ≡ false
    → is_running (with_ended r m res bytes) n ≡ is_running r n
end_idle r m n res bytes idle = grind (arith, end_is, ended_idle)

issued_idle : (linux : Bool) (r : Requests) (m n : ℕ) (res : ℤ) → is_running r m ≡ false
    → is_running (with_issued_end linux r m res) n ≡ is_running r n
issued_idle linux r m n res idle = grind (arith, end_idle)

-- ---- of events

idle_of : (r : Requests) (s : Step) (a : Answer) → IsSilent (s, a) → mark_by r (s, a) ≡ Idle
idle_of r s a silent = grind arith

-- the mark of a start has the operation
pub started_mark : (r : Requests) (m : ℕ) → has_ended r m ≡ false
    → mark_by (with_started r m) (step.Issue m, answer.Run) ≡ Starts m (operation_of (entry_of r m))
started_mark r m unended = grind (arith, operation_of, start_runs)

pub runs_by : (g : Setup) (w : World) (s : Step) (a : Answer) (n : ℕ) → Change g w s a
    → is_running (happens g w s a).requests n ≡ runs_after (mark_by (happens g w s a).requests (s, a)) (is_running w.requests n) n
runs_by g w s a n (refuses _ _ same silent) =
    ap (λ (v : World). is_running v.requests n) (same w)
    ∙ sym (ap (λ (m : Mark). runs_after m (is_running w.requests n) n) (idle_of (happens g w s a).requests s a silent))
runs_by g w s a n (takes entry call place opened left at valid) = rw opened
runs_by g w s a n (drops call place opened left at invalid) = rw opened
runs_by g w s a n (closes accepted missed head call opened all told) = rw opened
runs_by g w s a n (runs m outstanding idle spared ready no_cancel) =
    let unended : has_ended w.requests m ≡ false = not_ended w.requests m outstanding in
    start_runs w.requests m n unended
    ∙ sym (ap (λ (k : Mark). runs_after k (is_running w.requests n) n) (started_mark w.requests m unended))
runs_by g w s a n (dooms m outstanding idle doomed) =
    issued_idle g.linux w.requests m n (doomed_result g.linux w.requests m) idle
runs_by g w s a n (cancels m outstanding idle spared ready cancel) =
    issued_idle g.linux w.requests m n (cancel_result g.linux w.requests m) idle
runs_by g w s a n (finishes m res bytes ran) =
    end_is w.requests m n res bytes ∙ ended_run (has_started w.requests n) (has_ended w.requests n) (m == n)
runs_by g w s a n _ = refl
