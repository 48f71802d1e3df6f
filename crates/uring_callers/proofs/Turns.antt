-- What one turn of a simulation makes.
use Rattle.std.proofs.Common.{◌≡◌, ℕ, ◌+◌, ◌≤◌, ℤ, Bool, true, false, List, [], ◌∷◌, ◌++◌, length, Option, Some, None, is_some, refl, sym, subst, ◌∙◌, ap, arith, ◌⊎◌, inl, inr, append_assoc}
use Rattle.uring_callers.proofs.Common.{Answer, HasRun, History, IsEnded, IsIdle, IsLawfulApart, NoneRuns, Requests, and_from, cases_eq, is_outstanding, is_running, is_running_ended_other, is_running_ended_same, is_running_started_other, is_running_started_same, least_of, next_answer_of, no_bytes, operation_running, outstanding_in, requests_of, with_issued_end, with_started, world}
use Rattle.std.proofs.lemmas.List.Folds.{list_all-append}
use Rattle.uring_entry.proofs.BelowLemmas.{least_below_out}
use Rattle.uring_rules.specs.Rules as by_rules
use Rattle.uring_core.specs.Core.{Core, FitsApart}
use Rattle.uring_machine.specs.Settling.{is_issue_or_finish}
use Rattle.uring_machine.proofs.GoingOn.{least_goes_on}
use Rattle.uring_core.specs.declared.step.Step.TheVariants as step
use Rattle.uring_core.specs.declared.answer.Answer.TheVariants as answer
use Rattle.uring_core.proofs.Outstanding.{ended_less, none_outstanding, count_below_zero}
use Rattle.uring_core.proofs.Issuable.{next_tells}
use Rattle.uring_core.proofs.Issuable.{issue_goes, issuable_outstanding}

-- The next request.

-- with something outstanding and nothing running there is a next
some_next : (next least : Option ℕ) (r : Requests) (a : Answer)
    → ((n : ℕ) → least ≡ Some n → (is_running r n ≡ true) ⊎ (is_some next ≡ true))
    → ((n : ℕ) → is_running r n ≡ false) → 1 ≤ outstanding_in r → least_of r ≡ least
    → a ≡ next_answer_of next → ((k : ℕ) → a ≡ answer.Next k → ⊥) → ⊥
some_next (Some m) least r a goes quiet some e is other = other m is
some_next None (Some n) r a goes quiet some e is other = grind (arith, (goes n refl), (quiet n))
some_next None None r a goes quiet some e is other =
    grind (arith, (least_below_out (is_outstanding r) (length r.accepted) e), count_below_zero)

-- The issue of the next request.

-- an end as a request is issued, by either's rules
less_after_issue : (linux : Bool) (r : Requests) (n : ℕ) (res : ℤ) → is_outstanding r n ≡ true
    → outstanding_in (with_issued_end linux r n res) + 1 ≡ outstanding_in r
less_after_issue true r n res outstanding = ended_less r n res no_bytes outstanding
less_after_issue false r n res outstanding = ended_less r n res no_bytes outstanding

-- A turn.

-- a core that answered Next fits what it fitted
pub fits_without_next : (p : Core) (a : Answer) (h : History) → FitsApart p ((step.Next, a) ∷ h)
    → FitsApart p h
fits_without_next p a h fits = record { shows = fits.shows; lawful = fits.lawful.1 }

-- it ended as it was issued
pub turn_ended : (p : Core) (h : History) (n : ℕ) (a : Answer) → NoneRuns (world p.setup h)
    → is_outstanding (world p.setup h).requests n ≡ true → IsEnded a
    → FitsApart p ((step.Issue n, a) ∷ h) → HasRun p h 1
turn_ended p h n (answer.Ended res bytes) quiet outstanding ended fits =
    record {
      events = (step.Issue n, answer.Ended res bytes) ∷ [];
      issues_and_finishes = refl;
      fits = fits;
      quiet = λ k. grind (arith, is_running_ended_same, is_running_ended_other, (quiet k));
      fewer = less_after_issue p.setup.linux (world p.setup h).requests n res outstanding;
    }
turn_ended p h n _ quiet outstanding ended fits = absurd ended

-- it ran, and was finished
pub turn_run : (p : Core) (h : History) (n : ℕ) (res : ℤ) (bytes : List ℕ)
    → NoneRuns (world p.setup h) → is_outstanding (world p.setup h).requests n ≡ true
    → FitsApart p ((step.Finish n, answer.Ended res bytes) ∷ (step.Issue n, answer.Run) ∷ h)
    → HasRun p h 1
turn_run p h n res bytes quiet outstanding fits =
    record {
      events = (step.Finish n, answer.Ended res bytes) ∷ (step.Issue n, answer.Run) ∷ [];
      issues_and_finishes = refl;
      fits = fits;
      quiet = λ k. elim (cases_eq k n) [
        | inl same ↦ rw same (is_running_ended_same (with_started (world p.setup h).requests n) n res bytes)
        | inr other ↦ is_running_ended_other (with_started (world p.setup h).requests n) n res bytes k other ∙ is_running_started_other (world p.setup h).requests n k other ∙ quiet k
      ];
      fewer = ended_less (with_started (world p.setup h).requests n) n res bytes outstanding;
    }

-- Next is answered
pub turn_goes_on : (old asked : Core) (h : History) (a : Answer) → asked.setup ≡ old.setup
    → NoneRuns (world old.setup h) → 1 ≤ outstanding_in (world old.setup h).requests
    → FitsApart asked ((step.Next, a) ∷ h) → ((k : ℕ) → a ≡ answer.Next k → ⊥) → ⊥
turn_goes_on old asked h a same quiet some fits other =
    let lawful : IsLawfulApart old.setup h = subst (λ g. IsLawfulApart g h) same fits.lawful.1 in
    some_next (by_rules.next_of old.setup.linux (requests_of (world old.setup h))) (least_of (world old.setup h).requests)
    (world old.setup h).requests a (λ n least. least_goes_on old.setup h n lawful least) quiet some refl (grind arith) other

-- the next request ends as it is issued
pub turn_issue : (old asked new : Core) (h : History) (n : ℕ) (a b : Answer)
    → asked.setup ≡ old.setup → new.setup ≡ asked.setup
    → a ≡ answer.Next n → (b ≡ answer.Run → ⊥) → NoneRuns (world old.setup h)
    → FitsApart asked ((step.Next, a) ∷ h) → FitsApart new ((step.Issue n, b) ∷ h) → HasRun new h 1
turn_issue old asked new h n a b same kept named other quiet asked_fits fits =
    let one : new.setup ≡ old.setup = kept ∙ same in
    let issuable : by_rules.is_issuable new.setup.linux (requests_of (world new.setup h)) n ≡ true =
    rw one (next_tells old.setup.linux (requests_of (world old.setup h)) n (sym named ∙ rw same at asked_fits.lawful.0)) in
    turn_ended new h n b (rw one quiet) (issuable_outstanding new.setup.linux (requests_of (world new.setup h)) n issuable)
    (grind (arith, fits.lawful.0, (issue_goes new.setup (world new.setup h) n issuable), other)) fits

-- the next request runs
pub record IsStarted (p : Core) (h : History) (n : ℕ) : Type 0 where
  pub outstanding : is_outstanding (world p.setup h).requests n ≡ true
  pub quiet : NoneRuns (world p.setup h)
  pub runs : is_running (world p.setup ((step.Issue n, answer.Run) ∷ h)).requests n ≡ true
  pub fits : FitsApart p ((step.Issue n, answer.Run) ∷ h)

pub turn_start : (old asked new : Core) (h : History) (n : ℕ) (a b : Answer)
    → asked.setup ≡ old.setup → new.setup ≡ asked.setup → a ≡ answer.Next n → b ≡ answer.Run
    → NoneRuns (world old.setup h) → FitsApart asked ((step.Next, a) ∷ h)
    → FitsApart new ((step.Issue n, b) ∷ h) → IsStarted new h n
turn_start old asked new h n a b same kept named ran quiet asked_fits fits = grind (arith, requests_of, is_running_started_same)

-- so it has an operation
pub turn_operation : (p : Core) (h : History) (n : ℕ) → IsStarted p h n
    → None ≡ operation_running (world p.setup ((step.Issue n, answer.Run) ∷ h)).requests n → ⊥
turn_operation p h n started none = grind arith

pub turn_finish : (ran new : Core) (h : History) (n : ℕ) (d : Answer) → new.setup ≡ ran.setup
    → IsStarted ran h n
    → FitsApart new ((step.Finish n, d) ∷ (step.Issue n, answer.Run) ∷ h) → HasRun new h 1
turn_finish ran new h n d same started fits = grind (arith, turn_run)

-- Many turns.

pub run_none : (p : Core) (h : History) → NoneRuns (world p.setup h) → FitsApart p h → HasRun p h 0
run_none p h quiet fits = grind arith

pub run_more : (old new : Core) (h : History) (ended : ℕ) → new.setup ≡ old.setup
    → (before : HasRun old h ended) → HasRun new (before.events ++ h) 1 → HasRun new h (ended + 1)
run_more old new h ended same before last =
    record {
      events = last.events ++ before.events;
      issues_and_finishes = list_all-append is_issue_or_finish last.events before.events ∙ and_from _ _ last.issues_and_finishes before.issues_and_finishes;
      fits = rw append_assoc last.fits;
      quiet = rw append_assoc last.quiet;
      fewer = rw append_assoc (omega (arith, last.fewer, before.fewer, ap (λ g. outstanding_in (world g (before.events ++ h)).requests) same, ap (λ g. outstanding_in (world g h).requests) same));
    }

pub run_all : (p : Core) (h : History) (ended : ℕ)
    → ended ≡ outstanding_in (world p.setup h).requests → HasRun p h ended → IsIdle p h
run_all p h ended all run = grind (arith, none_outstanding)
