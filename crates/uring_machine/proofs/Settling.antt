-- What the steps make that settle requests.
use Rattle.std.proofs.Common.{◌≡◌, ℕ, ◌+◌, ◌-◌, ◌^◌, ◌≤◌, true, false, List, [], ◌∷◌, ◌++◌, length, Option, Some, None, refl, sym, subst, ◌∙◌, ap, arith, length-append}
use Rattle.uring_machine.proofs.Common.{Answer, AreSettling, AreUnrefused, Core, Event, FileContents, Fits, FitsApart, HasSettled, History, IsEnded, IsIssued, IsSettled, IsSettledIf, IsUnrefused, LinuxRequests, Machine, Requests, Setup, World, and_from, and_parts, finishing, has_ended, history_of, history_of_append, history_of_cons, is_issue_or_finish, is_outstanding, is_running, is_running_started_same, issuing, least_of, next_answer_of, no_bytes, not-true, outstanding_in, requests_of, started_last, world}
use Rattle.std.proofs.lemmas.List.Folds.{list_all-append}
use Rattle.uring_rules.specs.Rules.{next_of}
use Rattle.uring_entry.proofs.BelowLemmas.{least_below_tells, least_below_out}
use Rattle.uring_core.specs.Events.{started_by}
use Rattle.uring_core.specs.declared.step.Step.TheVariants as step
use Rattle.uring_core.specs.declared.answer.Answer.TheVariants as answer
use Rattle.uring_core.proofs.Outstanding.{ended_less, none_outstanding, count_below_zero}
use Rattle.uring_machine.proofs.GoingOn.{least_goes_on}
use Rattle.uring_core.proofs.Issuable.{issue_goes, issued_ends, issuable_outstanding, next_is, next_tells}

-- Ends, each of which leaves one outstanding request less.

issue_less : (g : Setup) (w : World) (n : ℕ) (a : Answer) → is_outstanding w.requests n ≡ true
    → IsEnded a → outstanding_in (issuing g w n a).requests + 1 ≡ outstanding_in w.requests
issue_less g w n (answer.Ended res bytes) outstanding ended = grind (arith, (ended_less w.requests n res no_bytes outstanding))
issue_less g w n _ outstanding ended = absurd ended

finish_less : (g : Setup) (w : World) (n : ℕ) (a : Answer) → is_outstanding w.requests n ≡ true
    → IsEnded a → outstanding_in (finishing g w n a).requests + 1 ≡ outstanding_in w.requests
finish_less g w n a outstanding ended = grind (arith, ended_less)

-- a machine that answered Next fits what it fitted
pub next_fits : (m : Machine) (a : Answer) (h : History) → Fits m ((step.Next, a) ∷ h) → Fits m h
next_fits m a h fits = record { core = record { shows = fits.core.shows; lawful = fits.core.lawful.1 }; files = fits.files; lawful = fits.lawful.1 }

-- Steps that settle further.

-- events that settle further, after others that did

started_append : (started : Option ℕ) (earlier later : List Event)
    → started_last started (earlier ++ later) ≡ started_last (started_last started earlier) later
started_append started [] later = refl
started_append started (event ∷ earlier) later = started_append (started_by event) earlier later

settling_append : (g : Setup) (before : History) (started : Option ℕ) (earlier later : List Event)
    → AreSettling g before started earlier
    → AreSettling g (history_of earlier ++ before) (started_last started earlier) later
    → AreSettling g before started (earlier ++ later)
settling_append g before started [] later e l = l
settling_append g before started ((s, a) ∷ earlier) later e l =
    (e.0, settling_append g ((s, a) ∷ before) (started_by (s, a)) earlier later e.1 (subst (λ h. AreSettling g h (started_last (started_by (s, a)) earlier) later) (history_of_cons (s, a) earlier before) l))

-- events that refuse no memory, after others that refused none
pub unrefused_append : (g : Setup) (before : History) (earlier later : List Event)
    → AreUnrefused g before earlier → AreUnrefused g (history_of earlier ++ before) later
    → AreUnrefused g before (earlier ++ later)
unrefused_append g before [] later e l = l
unrefused_append g before ((s, a) ∷ earlier) later e l =
    (e.0, unrefused_append g ((s, a) ∷ before) earlier later e.1 (subst (λ h. AreUnrefused g h later) (history_of_cons (s, a) earlier before) l))

-- how many are outstanding
pub outstanding_of : (m : Machine) (h : History) → Fits m h
    → m.core.dispatch.outstanding ≡ outstanding_in (world m.core.setup h).requests
outstanding_of m h fits = fits.core.shows.requests.outstanding

-- the next request ran, and was finished
pub settled_run : (granted : Type 0) (old asked new : Machine) (n : ℕ) (a b c : Answer) (h : History)
    → asked.core.setup ≡ old.core.setup → new.core.setup ≡ asked.core.setup → a ≡ answer.Next n
    → b ≡ answer.Run
    → Fits old h → Fits asked ((step.Next, a) ∷ h)
    → Fits new ((step.Finish n, c) ∷ (step.Issue n, b) ∷ h)
    → (granted → IsUnrefused new.core.setup (world new.core.setup ((step.Issue n, b) ∷ h)) (step.Finish n) c)
    → HasSettled granted old new h 2 1
settled_run granted old asked new n a b c h same kept next ran fits asked_fits new_fits unrefused =
    let g : Setup = new.core.setup in
    let r : Requests = (world g h).requests in
    let now : Fits new ((step.Finish n, c) ∷ (step.Issue n, answer.Run) ∷ h) = rw ran at new_fits in
    let l : LinuxRequests = requests_of (world g h) in
    let named : answer.Next n ≡ next_answer_of (next_of g.linux l) = subst (λ (k : Setup). answer.Next n ≡ next_answer_of (next_of k.linux (requests_of (world k h)))) (sym kept) (sym next ∙ asked_fits.core.lawful.0) in
    let outstanding = issuable_outstanding g.linux l n (next_tells g.linux l n named) in
    let unended : has_ended r n ≡ false = not-true _ (and_parts _ _ outstanding).1 in
    let before : old.core.dispatch.outstanding ≡ outstanding_in r = rw (kept, same) fits.core.shows.requests.outstanding in
    let less = finish_less g (world g ((step.Issue n, answer.Run) ∷ h)) n c outstanding (rw (is_running_started_same r n unended) at now.core.lawful.0) in
    record {
      settles = record {
        events = (step.Issue n, b) ∷ (step.Finish n, c) ∷ [];
        issues_and_finishes = refl;
        settling = (rw (next_is (next_of g.linux l) n named), (rw ran refl, tt));
        fits = new_fits;
        many = refl;
        unrefused = λ sure. ((λ again. cc (ran, again)), (unrefused sure, tt));
      };
      none_started = refl;
      few = omega arith;
      fewer = omega (arith, less, now.core.shows.requests.outstanding, before);
    }

-- the next request ended as it was issued
pub settled_end : (granted : Type 0) (old asked new : Machine) (n : ℕ) (a b : Answer) (h : History)
    → asked.core.setup ≡ old.core.setup → new.core.setup ≡ asked.core.setup → a ≡ answer.Next n
    → (b ≡ answer.Run → ⊥)
    → Fits old h → Fits asked ((step.Next, a) ∷ h) → Fits new ((step.Issue n, b) ∷ h)
    → HasSettled granted old new h 1 1
settled_end granted old asked new n a b h same kept next other fits asked_fits new_fits =
    let g : Setup = new.core.setup in
    let l : LinuxRequests = requests_of (world g h) in
    let named : answer.Next n ≡ next_answer_of (next_of g.linux l) = subst (λ (k : Setup). answer.Next n ≡ next_answer_of (next_of k.linux (requests_of (world k h)))) (sym kept) (sym next ∙ asked_fits.core.lawful.0) in
    let issuable = next_tells g.linux l n named in
    let ended : IsEnded b = issued_ends b (subst IsIssued (sym new_fits.core.lawful.0) (issue_goes g (world g h) n issuable)) other in
    record {
      settles = record {
        events = (step.Issue n, b) ∷ [];
        issues_and_finishes = refl;
        settling = (rw (next_is (next_of g.linux l) n named), tt);
        fits = new_fits;
        many = refl;
        unrefused = λ sure. ((λ again. rw again at ended), tt);
      };
      none_started = grind arith;
      few = omega arith;
      fewer =
          grind (arith, (issue_less g (world g h) n b (issuable_outstanding g.linux l n issuable) ended), (issuable_outstanding g.linux l n issuable));
    }

-- the least outstanding request ran, and was finished
pub settled_finish : (granted : Type 0) (old asked new : Machine) (n : ℕ) (a b : Answer) (h : History)
    → asked.core.setup ≡ old.core.setup → new.core.setup ≡ asked.core.setup
    → ((k : ℕ) → a ≡ answer.Next k → ⊥)
    → Fits old h → Some n ≡ least_of (world old.core.setup h).requests
    → Fits asked ((step.Next, a) ∷ h) → Fits new ((step.Finish n, b) ∷ h)
    → (granted → IsUnrefused new.core.setup (world new.core.setup h) (step.Finish n) b)
    → HasSettled granted old new h 1 1
settled_finish granted old asked new n a b h same kept other fits least asked_fits new_fits unrefused =
    let g : Setup = new.core.setup in
    let r : Requests = (world g h).requests in
    let is : least_of r ≡ Some n = rw (kept, same) (sym least) in
    let told : a ≡ next_answer_of (next_of g.linux (requests_of (world g h))) = subst (λ (k : Setup). a ≡ next_answer_of (next_of k.linux (requests_of (world k h)))) (sym kept) asked_fits.core.lawful.0 in
    -- where there is no next, the least outstanding request runs
    let running : is_running r n ≡ true = grind (arith, (least_goes_on g h n new_fits.core.lawful.1 is), told, other) in
    record {
      settles = record {
        events = (step.Finish n, b) ∷ [];
        issues_and_finishes = refl;
        settling = (grind (arith, told, other, is), tt);
        fits = new_fits;
        many = refl;
        unrefused = λ sure. (unrefused sure, tt);
      };
      none_started = refl;
      few = omega arith;
      fewer =
          grind (arith, (finish_less g (world g h) n b (least_below_tells (is_outstanding r) (length r.accepted) n is).holds (rw running at new_fits.core.lawful.0)));
    }

-- something is outstanding, so there is a least
pub some_least : (m : Machine) (h : History) → Fits m h → 1 ≤ m.core.dispatch.outstanding
    → None ≡ least_of (world m.core.setup h).requests → ⊥
some_least m h fits some none =
    let r : Requests = (world m.core.setup h).requests in
    omega (arith, count_below_zero (is_outstanding r) (length r.accepted) (least_below_out (is_outstanding r) (length r.accepted) (sym none)), fits.core.shows.requests.outstanding)

-- what was settled so far, and what is settled then
pub settled_more : (granted : Type 0) (first old new : Machine) (h : History) (count more ended : ℕ)
    → new.core.setup ≡ old.core.setup → HasSettled granted first old h count ended
    → ((k : History) → Fits old k → HasSettled granted old new k more 1)
    → HasSettled granted first new h (count + more) (ended + 1)
settled_more granted first old new h count more ended same before next =
    let b = before.settles in
    let last = next (history_of b.events ++ h) b.fits in
    let l = last.settles in
    let after : AreSettling new.core.setup (history_of b.events ++ h) (started_last None b.events) l.events = rw before.none_started l.settling in
    record {
      settles = record {
        events = b.events ++ l.events;
        issues_and_finishes = list_all-append is_issue_or_finish b.events l.events ∙ and_from _ _ b.issues_and_finishes l.issues_and_finishes;
        settling = settling_append new.core.setup h None b.events l.events (subst (λ g. AreSettling g h None b.events) (sym same) b.settling) after;
        fits = subst (λ k. Fits new k) (sym (history_of_append b.events l.events h)) l.fits;
        many = omega (arith, length-append b.events l.events, l.many, b.many);
        unrefused = λ sure. unrefused_append new.core.setup h b.events l.events (subst (λ g. AreUnrefused g h b.events) (sym same) (b.unrefused sure)) (l.unrefused sure);
      };
      none_started = started_append None b.events l.events ∙ ap (λ started. started_last started l.events) before.none_started ∙ last.none_started;
      few = omega (arith, last.few, before.few);
      fewer = omega (arith, last.fewer, before.fewer);
    }

-- nothing was settled yet
pub settled_none : (granted : Type 0) (m : Machine) (h : History) → Fits m h → HasSettled granted m m h 0 0
settled_none granted m h fits = record { settles = record { events = []; issues_and_finishes = refl; settling = tt; fits = fits; many = refl; unrefused = λ sure. tt }; none_started = refl; few = omega arith; fewer = omega arith }

-- all that was outstanding was settled
pub settled_all : (granted : Type 0) (old new : Machine) (h : History) (count ended : ℕ)
    → new.core.setup ≡ old.core.setup → Fits old h
    → ended ≡ outstanding_in (world old.core.setup h).requests
    → HasSettled granted old new h count ended → IsSettledIf granted new h count
settled_all granted old new h count ended same fits all s =
    record {
      settles = s.settles;
      few = omega (arith, s.few, all, ap (λ g. outstanding_in (world g h).requests) same);
      none_outstanding = grind (arith, none_outstanding);
    }

-- what is settled if memory is granted is settled
pub settled_anyway : (granted : Type 0) (m : Machine) (h : History) (count : ℕ)
    → IsSettledIf granted m h count → IsSettled m h count
settled_anyway granted m h count s =
    record {
      settles = grind arith;
      few = s.few;
      none_outstanding = s.none_outstanding;
    }

-- this number is how many are outstanding
pub record IsCounted (m : Machine) (n : ℕ) : Type 0 where
  pub history : History
  pub fits : Fits m history
  pub same : n ≡ m.core.dispatch.outstanding
  pub few : n ≤ 2 ^ 63 - 1

pub counted : (core : Core) (files : List FileContents) (now : Machine) (n : ℕ)
    → record { core = core; files = files } ≡ now
    → ((h : History) × Fits (record { core = core; files = files }) h)
    → ((h : History) → FitsApart core h → n ≡ outstanding_in (world core.setup h).requests)
    → IsCounted now n
counted core files now n is some counts = grind arith
