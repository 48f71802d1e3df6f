-- Which events go on from a part, and what is so of those that do.
use Rattle.std.proofs.Common.{◌≡◌, ℕ, ◌-◌, ◌≤◌, ℤ, pos, Bool, true, false, ◌||◌, cond, List, [], ◌∷◌, ◌++◌, length, Option, Some, None, if◌then◌else◌, refl, sym, ap, subst, ◌∙◌, arith, rules}
use Rattle.uring_reconstruct.proofs.Common.{Answer, Begins, CalledForApart, Completions, Core, Cqe, Event, FinishFits, FinishesApart, GivesAllowed, History, IsErrorOf, IsIdle, IsLawfulApart, IsPart, QuietResult, Requests, Setup, Sqe, StandsAt, Step, TellsNext, World, cancel_result, completion_for, completions_in, doomed_result, drop, ends_doomed, entry_of, false≢true, is_after_failure, is_drain, is_hidden, is_issuable, is_outstanding, is_running, is_some, is_stale, is_success, length-drop, may_start, neg_ℤ, no_bytes, or_parts, or_right, posts, posts_completion, put_by_flush, requests_of, seen_in, slice_get, targets_of, with_count, with_error, with_flushed, with_none, with_posted, world}
use Rattle.uring_entry.specs.Preparation.{is_faulty, is_cancel, is_cancel_all}
use Rattle.uring_entry.specs.declared.errno.TheConstants.{EINVAL, EOPNOTSUPP, ECANCELED}
use Rattle.uring_entry.specs.Why.{is_failure_before}
use Rattle.uring_entry.proofs.BelowLemmas.{is_some_least_below}
use Rattle.uring_linux.specs.LinuxRequests.{LinuxRequests}
use Rattle.uring_linux.specs.LinuxRequests as kernel
use Rattle.uring_entry.proofs.RequestLemmas.{one_success}
use Rattle.uring_dispatch.proofs.Counting.{length_all_below, count_below_within}
use Rattle.uring_core.specs.Events.{is_flush, is_store_cq_head}
use Rattle.uring_core.specs.declared.step.Step.TheVariants as step
use Rattle.uring_core.specs.declared.answer.Answer.TheVariants as answer
use Rattle.uring_core.proofs.Changes.{Change, refuses, runs, dooms, cancels, change_of}
use Rattle.uring_core.proofs.CompletionMoves.{CompletionMove, ends, flushes, stores_head, completion_move}
use Rattle.uring_core.proofs.RequestEnds.{doomed_fails}
use Rattle.uring_core.proofs.Sound.{sound_of}
use Rattle.uring_core.proofs.SoundRings.{IsSoundCompletions}
use Rattle.uring_laws.proofs.LinuxSound.{IsSoundLinux, linux_sound, of_linux}
use Rattle.uring_reconstruct.proofs.Begun.{begins_next, after_begun}

-- What an end posts.

posts_on : (told : Bool) (size : ℕ) (l : Completions) (c : Cqe) (all : List Cqe) → Begins l.posted all
    → (told ≡ true → slice_get all (length l.posted) ≡ Some c)
    → Begins (cond told (with_posted size l c) l).posted all
posts_on told size l c all b next = grind (arith, begins_next)

posts_next : (told : Bool) (size : ℕ) (l : Completions) (c : Cqe) (all : List Cqe)
    → Begins (cond told (with_posted size l c) l).posted all → told ≡ true
    → slice_get all (length l.posted) ≡ Some c
posts_next true size l c all b e = after_begun l.posted c all b
posts_next false size l c all b e = absurd cc

-- Who posts as its own entry says.

no_breaker : (r : Requests) (n : ℕ) → kernel.is_doomed r n ≡ false → kernel.breaker_of r n ≡ None
unfolding is_after_failure
no_breaker r n spared =
    grind (arith, (or_parts (kernel.is_in_faulty_group r n) (is_after_failure r n) spared), (is_some_least_below (is_failure_before r n) n))

-- by Linux's rules whoever isn't doomed
spared_posts : (r : Requests) (n : ℕ) (res : ℤ) → kernel.is_doomed r n ≡ false
    → posts true r n res ≡ posts_completion (entry_of r n) res
spared_posts r n res spared = ap (λ o. kernel.posts_after r o n res) (no_breaker r n spared)

sound_linux : (g : Setup) (h : History) → g.linux ≡ true → IsLawfulApart g h → IsSoundLinux (world g h).requests
sound_linux g h is =
    of_linux (λ s. IsLawfulApart s h → IsSoundLinux (world s h).requests) (λ s. linux_sound s h) g is

-- by either's whoever runs
running_posts : (g : Setup) (h : History) (n : ℕ) (res : ℤ) → IsLawfulApart g h
    → is_running (world g h).requests n ≡ true
    → posts g.linux (world g h).requests n res ≡ posts_completion (entry_of (world g h).requests n) res
running_posts g h n res lawful running = grind (arith, spared_posts, sound_linux)

pub finish_runs : (running : Bool) (res : ℤ) (bytes : List ℕ) → FinishesApart running (answer.Ended res bytes)
    → running ≡ true
finish_runs running res bytes called = grind arith

-- so does whoever finishes
finish_posts : (g : Setup) (h : History) (n : ℕ) (res : ℤ) (bytes : List ℕ)
    → IsLawfulApart g ((step.Finish n, answer.Ended res bytes) ∷ h)
    → posts g.linux (world g h).requests n res ≡ posts_completion (entry_of (world g h).requests n) res
finish_posts g h n res bytes lawful = grind (arith, running_posts)

-- Starts and flushes.

pub start_part : (g : Setup) (seen : List Event) (h : History) (n : ℕ) → IsPart g seen h
    → IsLawfulApart g ((step.Issue n, answer.Run) ∷ h)
    → IsPart g seen ((step.Issue n, answer.Run) ∷ h)
start_part g seen h n p lawful = search rules

pub flush_part : (g : Setup) (seen : List Event) (h : History) (a : Answer) → IsPart g seen h
    → IsLawfulApart g ((step.Flush, a) ∷ h) → IsPart g seen ((step.Flush, a) ∷ h)
flush_part g seen h a p lawful = search rules

-- Ends of running requests.

pub finish_part : (core : Core) (seen : List Event) (wanted : Option Cqe) (h : History) (n : ℕ) (res : ℤ) (bytes : List ℕ)
    → StandsAt core seen wanted h
    → FinishFits (entry_of (world core.setup h).requests n) wanted res bytes
    → IsLawfulApart core.setup ((step.Finish n, answer.Ended res bytes) ∷ h)
    → IsPart core.setup seen ((step.Finish n, answer.Ended res bytes) ∷ h)
finish_part core seen wanted h n res bytes at fits lawful =
    let r = (world core.setup h).requests in
    let e = entry_of r n in
    let same = finish_posts core.setup h n res bytes lawful in
    record {
      lawful = lawful;
      results = (record { result = fits.may.result; untold = λ quiet. fits.may.untold (sym same ∙ quiet) }, at.part.results);
      shows = at.part.shows;
      posts = posts_on (posts core.setup.linux r n res) core.setup.cq (world core.setup h).completions (completion_for e res bytes) (completions_in seen) at.part.posts (λ told. sym at.is_next ∙ fits.tells (sym same ∙ told));
    }

pub part_finish : (core : Core) (seen : List Event) (wanted : Option Cqe) (h : History) (n : ℕ) (res : ℤ) (bytes : List ℕ)
    → StandsAt core seen wanted h
    → IsPart core.setup seen ((step.Finish n, answer.Ended res bytes) ∷ h)
    → FinishFits (entry_of (world core.setup h).requests n) wanted res bytes
part_finish core seen wanted h n res bytes at p =
    let r = (world core.setup h).requests in
    let e = entry_of r n in
    let same = finish_posts core.setup h n res bytes p.lawful in
    record {
      may = record { result = p.results.0.result; untold = λ quiet. p.results.0.untold (same ∙ quiet) };
      tells = λ told. at.is_next ∙ posts_next (posts core.setup.linux r n res) core.setup.cq (world core.setup h).completions (completion_for e res bytes) (completions_in seen) p.posts (same ∙ told);
    }

-- Ends of requests as they are issued.

pub issue_part : (core : Core) (seen : List Event) (wanted : Option Cqe) (h : History) (n : ℕ) (res : ℤ)
    → StandsAt core seen wanted h
    → TellsNext (posts core.setup.linux (world core.setup h).requests n res) (entry_of (world core.setup h).requests n) wanted res no_bytes
    → IsLawfulApart core.setup ((step.Issue n, answer.Ended res no_bytes) ∷ h)
    → IsPart core.setup seen ((step.Issue n, answer.Ended res no_bytes) ∷ h)
issue_part core seen wanted h n res at tells lawful =
    let r = (world core.setup h).requests in
    let e = entry_of r n in
    record {
      lawful = lawful;
      results = (tt, at.part.results);
      shows = at.part.shows;
      posts = posts_on (posts core.setup.linux r n res) core.setup.cq (world core.setup h).completions (completion_for e res no_bytes) (completions_in seen) at.part.posts (λ told. sym at.is_next ∙ tells told);
    }

pub part_issue : (core : Core) (seen : List Event) (wanted : Option Cqe) (h : History) (n : ℕ) (res : ℤ) (bytes : List ℕ)
    → StandsAt core seen wanted h
    → IsPart core.setup seen ((step.Issue n, answer.Ended res bytes) ∷ h)
    → TellsNext (posts core.setup.linux (world core.setup h).requests n res) (entry_of (world core.setup h).requests n) wanted res no_bytes
part_issue core seen wanted h n res bytes at p =
    let r = (world core.setup h).requests in
    let e = entry_of r n in
    λ told. at.is_next ∙ posts_next (posts core.setup.linux r n res) core.setup.cq (world core.setup h).completions (completion_for e res no_bytes) (completions_in seen) p.posts told

-- how a request ends as it is issued, by these rules: as a doomed one, or as a cancel that is carried out, and with no bytes
pub data IssueEnd (linux : Bool) (r : Requests) (n : ℕ) (res : ℤ) : Type 0 where
  doomed_end : res ≡ doomed_result linux r n → IssueEnd linux r n res
  cancel_end : res ≡ cancel_result linux r n → is_cancel (entry_of r n) ≡ true → (linux ≡ true → kernel.is_doomed r n ≡ false) → IssueEnd linux r n res

pub record EndsIssued (linux : Bool) (l : LinuxRequests) (n : ℕ) (res : ℤ) (bytes : List ℕ) : Type 0 where
  pub outstanding : is_outstanding l.requests n ≡ true
  pub idle : is_running l.requests n ≡ false
  pub issuable : is_issuable linux l n ≡ true
  pub none : bytes ≡ no_bytes
  pub by : IssueEnd linux l.requests n res

-- what is to end as doomed, or may start, can be issued
issuable_by : (linux : Bool) (l : LinuxRequests) (n : ℕ) → is_outstanding l.requests n ≡ true
    → is_running l.requests n ≡ false
    → (ends_doomed linux l.requests n || may_start linux l n) ≡ true → is_issuable linux l n ≡ true
issuable_by linux l n outstanding idle goes = grind arith

ends_by : (g : Setup) (w : World) (n : ℕ) (res : ℤ) (bytes : List ℕ) (a : Answer) → Change g w (step.Issue n) a
    → a ≡ answer.Ended res bytes → EndsIssued g.linux (requests_of w) n res bytes
ends_by g w n res bytes a (dooms _ outstanding idle doomed) told = grind arith
ends_by g w n res bytes a (cancels _ outstanding idle spared ready cancel) told = grind arith
ends_by g w n res bytes a (runs _ outstanding idle spared ready cancel) told = absurd cc
ends_by g w n res bytes a (refuses _ _ same silent) told = absurd cc

pub issued_end : (g : Setup) (w : World) (n : ℕ) (res : ℤ) (bytes : List ℕ)
    → CalledForApart g w (step.Issue n) (answer.Ended res bytes)
    → EndsIssued g.linux (requests_of w) n res bytes
issued_end g w n res bytes called =
    ends_by g w n res bytes (answer.Ended res bytes) (change_of g w (step.Issue n) (answer.Ended res bytes) called) refl

-- What is issued and ends without a completion.

succeeds : (e : Sqe) (res : ℤ) → posts_completion e res ≡ false → is_success e res ≡ true
succeeds e res quiet = grind arith

few_targets : (r : Requests) (n : ℕ) → length (targets_of r n) ≤ length r.accepted
unfolding targets_of
few_targets r n = grind (arith, length_all_below, count_below_within)

quiet_none : (linux : Bool) (e : Sqe) (accepted : ℕ) (res : ℤ) → res ≡ pos 0
    → posts_completion e res ≡ false → QuietResult linux e accepted res
quiet_none linux e accepted res is quiet = grind (arith, with_none)

-- a cancel of one
quiet_one : (linux : Bool) (e : Sqe) (accepted : ℕ) (res : ℤ) → is_cancel e ≡ true
    → is_cancel_all e ≡ false → posts_completion e res ≡ false → QuietResult linux e accepted res
quiet_one linux e accepted res cancel one quiet = grind (arith, quiet_none, one_success)

-- one of all
quiet_all : (linux : Bool) (r : Requests) (n : ℕ) (res : ℤ) → is_cancel_all (entry_of r n) ≡ true
    → posts_completion (entry_of r n) res ≡ false → res ≡ cancel_result linux r n
    → QuietResult linux (entry_of r n) (length r.accepted) res
quiet_all linux r n res all quiet same = grind (arith, quiet_none, is_some, with_count, few_targets)

quiet_cancel : (linux : Bool) (r : Requests) (n : ℕ) (res : ℤ) (all : Bool) → is_cancel (entry_of r n) ≡ true
    → is_cancel_all (entry_of r n) ≡ all → posts_completion (entry_of r n) res ≡ false
    → res ≡ cancel_result linux r n → QuietResult linux (entry_of r n) (length r.accepted) res
quiet_cancel linux r n res all cancel is quiet same = grind (arith, quiet_all, quiet_one)

error_by : (e : Sqe) (refused faulty : Bool) → (refused ≡ true → is_drain e ≡ true) → is_faulty e ≡ faulty
    → IsErrorOf e (if refused then neg_ℤ EOPNOTSUPP else if faulty then neg_ℤ EINVAL else neg_ℤ ECANCELED)
error_by e refused faulty drain is = grind arith

error_of : (r : Requests) (n : ℕ) → IsErrorOf (entry_of r n) (kernel.doomed_result r n)
error_of r n = grind (arith, error_by)

quiet_by : (linux : Bool) (r : Requests) (n : ℕ) (res : ℤ) → posts linux r n res ≡ false → IssueEnd linux r n res
    → QuietResult linux (entry_of r n) (length r.accepted) res
quiet_by linux r n res quiet h = grind (arith, with_error, error_of, quiet_cancel, spared_posts, succeeds, doomed_fails)

pub quiet_end : (linux : Bool) (l : LinuxRequests) (n : ℕ) (res : ℤ) (bytes : List ℕ)
    → EndsIssued linux l n res bytes → posts linux l.requests n res ≡ false
    → QuietResult linux (entry_of l.requests n) (length l.requests.accepted) res
quiet_end linux l n res bytes ended quiet = quiet_by linux l.requests n res quiet ended.by

-- A flush that changes nothing.

record HeadsKept (w v : World) : Type 0 where
  head : v.completions.head ≡ w.completions.head
  seen_head : v.completions.seen_head ≡ w.completions.seen_head

heads_by : (g : Setup) (w : World) (s : Step) (a : Answer) (v : World) → CompletionMove g w s a v
    → is_flush (s, a) ≡ false → is_store_cq_head (s, a) ≡ false → HeadsKept w v
heads_by g w s a v (ends _ _ n res bytes r off tells accepted ended) f k = grind arith
heads_by g w s a v (flushes moved) f k = absurd cc
heads_by g w s a v (stores_head head) f k = absurd cc
heads_by g w s a v _ f k = record { head = refl; seen_head = refl }

settled_then : (g : Setup) (s : Step) (a : Answer) (h : History) → IsLawfulApart g ((s, a) ∷ h)
    → (world g h).completions.seen_head ≡ (world g h).completions.head
    → is_flush (s, a) ≡ false → is_store_cq_head (s, a) ≡ false
    → (world g ((s, a) ∷ h)).completions.seen_head ≡ (world g ((s, a) ∷ h)).completions.head
settled_then g s a h lawful before f k =
    grind (arith, (heads_by g (world g h) s a (world g ((s, a) ∷ h)) (completion_move g s a h lawful) f k))

-- the head that was loaded last is the one that was stored last
settled : (g : Setup) (h : History) → IsLawfulApart g h → is_stale h ≡ false
    → (world g h).completions.seen_head ≡ (world g h).completions.head
settled g [] lawful e = refl
settled g ((step.Flush, a) ∷ h) lawful e = refl
settled g ((step.StoreCqHead, a) ∷ h) lawful e = absurd cc
settled g ((s, a) ∷ h) lawful e = settled_then g s a h lawful (settled g h lawful.1 e) refl refl

flushed_same : (size : ℕ) (l : Completions) → IsSoundCompletions size l → l.seen_head ≡ l.head
    → with_flushed size l ≡ l
flushed_same size l s same = grind arith

pub flush_idle : (g : Setup) (h : History) (a : Answer) → IsLawfulApart g h → is_stale h ≡ false
    → IsIdle g h (step.Flush, a)
flush_idle g h a lawful settles = grind (arith, flushed_same, sound_of, settled)

-- how many move at most
pub few_moved : (size : ℕ) (l : Completions) → put_by_flush size l - l.put ≤ length (drop l.put l.posted)
few_moved size l = simp length-drop (omega arith)

-- Hidden events.

-- a hidden event that is lawful
pub data HiddenEvent (g : Setup) (h : History) : Event → Type 0 where
  idle_one : (x : Event) → IsIdle g h x → HiddenEvent g h x
  start : (n : ℕ) → is_issuable g.linux (requests_of (world g h)) n ≡ true → HiddenEvent g h (step.Issue n, answer.Run)
  issue_end : (n : ℕ) (res : ℤ) (bytes : List ℕ) → HiddenEvent g h (step.Issue n, answer.Ended res bytes)
  finish_end : (n : ℕ) (res : ℤ) (bytes : List ℕ) → HiddenEvent g h (step.Finish n, answer.Ended res bytes)
  flush : (a : Answer) → HiddenEvent g h (step.Flush, a)

starts_by : (g : Setup) (w : World) (n : ℕ) (a : Answer) → Change g w (step.Issue n) a → a ≡ answer.Run
    → is_issuable g.linux (requests_of w) n ≡ true
starts_by g w n a (runs _ outstanding idle spared ready cancel) told = issuable_by g.linux (requests_of w) n outstanding idle (or_right _ _ ready)
starts_by g w n a (refuses _ _ same silent) told = absurd cc
starts_by g w n a _ told = absurd cc

pub hidden_event : (g : Setup) (h : History) (x : Event) → IsLawfulApart g (x ∷ h) → is_hidden x.0 ≡ true
    → HiddenEvent g h x
hidden_event g h (step.Issue n, answer.Run) lawful hidden =
    start n (starts_by g (world g h) n answer.Run (change_of g (world g h) (step.Issue n) answer.Run lawful.0) refl)
hidden_event g h (step.Issue n, answer.Ended res bytes) lawful hidden = issue_end n res bytes
hidden_event g h (step.Issue n, a) lawful hidden = idle_one _ (record { hidden = refl; same = refl })
hidden_event g h (step.Finish n, answer.Ended res bytes) lawful hidden = finish_end n res bytes
hidden_event g h (step.Finish n, a) lawful hidden = idle_one _ (record { hidden = refl; same = refl })
hidden_event g h (step.Flush, a) lawful hidden = flush a
hidden_event g h (s, a) lawful hidden = absurd (false≢true hidden)

-- Steps that are seen.

no_end : (s : Step) (linux : Bool) (r : Requests) (a : Answer) → is_hidden s ≡ false
    → GivesAllowed linux r (s, a)
no_end s linux r a e = grind arith

posted_kept : (g : Setup) (w : World) (s : Step) (a : Answer) (v : World) → CompletionMove g w s a v
    → is_hidden s ≡ false → v.completions.posted ≡ w.completions.posted
posted_kept g w s a v h e = grind arith

pub seen_part : (g : Setup) (seen : List Event) (h : History) (x : Event) → IsPart g seen h
    → is_hidden x.0 ≡ false → slice_get seen (length (seen_in h)) ≡ Some x
    → IsLawfulApart g (x ∷ h) → IsPart g seen (x ∷ h)
seen_part g seen h x p shown next lawful =
    let kept = posted_kept g (world g h) x.0 x.1 (world g (x ∷ h)) (completion_move g x.0 x.1 h lawful) shown in
    record {
      lawful = lawful;
      results = (no_end x.0 g.linux (world g h).requests x.1 shown, p.results);
      shows = subst (λ b. Begins (if b then seen_in h else seen_in h ++ x ∷ []) seen) (sym shown) (begins_next (seen_in h) x seen p.shows next);
      posts = subst (λ xs. Begins xs (completions_in seen)) (sym kept) p.posts;
    }

pub part_seen : (g : Setup) (seen : List Event) (h : History) (x : Event) → IsPart g seen (x ∷ h)
    → is_hidden x.0 ≡ false → slice_get seen (length (seen_in h)) ≡ Some x
part_seen g seen h x p shown =
    after_begun (seen_in h) x seen (subst (λ b. Begins (if b then seen_in h else seen_in h ++ x ∷ []) seen) shown p.shows)
