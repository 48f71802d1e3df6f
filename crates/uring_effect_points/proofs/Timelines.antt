-- A search's moves are a timeline of the history, and a timeline whose effects wait is moves of the search.
use Rattle.std.proofs.Common.{◌≡◌, ◌==◌, ℕ, ℤ, Bool, true, false, List, [], ◌∷◌, ◌++◌, Option, Some, None, if◌then◌else◌, refl, sym, ap, subst, ◌∙◌, append-nil, arith}
use Rattle.uring_effect_points.proofs.Common.{Answer, EffectsWait, End, EndsAsTaken, EndsLast, Event, Fate, FileContents, FitsEnd, Goes, History, IsFated, IsFound, IsLawfulApart, IsLawfulEarly, IsLawfulLate, IsOutcome, IsTimely, IsWalk, Makes, Mark, MarkStanding, MayTake, Move, Op, Outcome, Pass, Passes, Setup, Step, Take, Takes, TakesEffect, Timeline, at_first, awaits, effect_of, end_in, ends_in_effect, eq-eqb, false≢true, files_at, found_by, history_of, history_of_cons, is_end_of, made_in, mark_by, marks_after, operation_at, operation_running, passed, requests_in, reverse, reverse-reverse, start_mark, took}
use Rattle.uring_core.specs.declared.step.Step.TheVariants as step
use Rattle.uring_core.specs.declared.answer.Answer.TheVariants as answer
use Rattle.uring_core.proofs.Running.{running_asks}
use Rattle.uring_effect_points.proofs.Waiting.{early_effects_can_wait}
use Rattle.uring_effect_points.proofs.Plain.{outcome_plain, plain_new}
use Rattle.uring_effect_points.specs.declared.search.Fate.TheVariants as fate
use Rattle.uring_effect_points.proofs.Standings.{Stands, ends_so, passes_so, stands_makes, stands_takes, takes_effect}

-- these events, the oldest first, after a history
abbrev pub onto : History → List Event → History
onto before [] = before
onto before (e ∷ later) = onto (e ∷ before) later

pub onto_is : (later : List Event) (before : History) → onto before later ≡ history_of later ++ before
onto_is [] before = refl
onto_is (e ∷ later) before = onto_is later (e ∷ before) ∙ sym (history_of_cons e later before)

pub lawful_below : (g : Setup) (later : List Event) (before : History) → IsLawfulApart g (onto before later)
    → IsLawfulApart g before
lawful_below g [] before lawful = lawful
lawful_below g ((s, a) ∷ later) before lawful = (lawful_below g later ((s, a) ∷ before) lawful).1

pub first_stands : (g : Setup) → Stands g [] (at_first g.files)
first_stands g = record { files = sym (plain_new g.files); running = λ n. refl }

-- ---- moves are a timeline

record HasTimeline (g : Setup) (h : History) : Type 0 where
  timeline : Timeline
  made : made_in timeline ≡ h
  timely : IsTimely g timeline

by_moves : (g : Setup) (moves : List Move) (later : List Event) (t : Timeline) (st : MarkStanding)
    → IsWalk st (marks_after g (made_in t) later) moves → Stands g t st → IsTimely g t
    → IsLawfulApart g (onto (made_in t) later) → HasTimeline g (onto (made_in t) later)
by_moves g [] [] t st walk stands timely lawful = record { timeline = t; made = refl; timely = timely }
by_moves g [] (e ∷ later) t st walk stands timely lawful = grind arith
by_moves g (Pass ∷ moves) [] t st walk stands timely lawful = absurd walk
by_moves g (Pass ∷ moves) ((s, a) ∷ later) t st walk stands timely lawful =
    by_moves g moves later (Makes (s, a) ∷ t) (passed st (mark_by (requests_in g (Makes (s, a) ∷ t)) (s, a))) walk.1 (stands_makes g t st s a timely stands (lawful_below g later ((s, a) ∷ made_in t) lawful)) (ends_so g t st s a stands walk.0, timely) lawful
by_moves g (Take n o ∷ moves) [] t st walk stands timely lawful = grind arith
by_moves g (Take n o ∷ moves) (e ∷ later) t st walk stands timely lawful =
    let taken : TakesEffect g t n o = takes_effect g t st (marks_after g (made_in t) (e ∷ later)) n o stands walk.0 in
    by_moves g moves (e ∷ later) (Takes n o ∷ t) (took st n o) walk.1 (stands_takes g t st n o stands taken.runs) (taken, timely) lawful

pub lawful_by : (g : Setup) (events : List Event) → IsLawfulApart g (history_of events)
    → Goes (at_first g.files) (marks_after g [] events) → IsLawfulEarly g (history_of events)
lawful_by g events lawful goes =
    let all : onto [] events ≡ history_of events = onto_is events [] ∙ append-nil (history_of events) in
    let t : HasTimeline g (onto [] events) = by_moves g goes.moves events [] (at_first g.files) goes.walk (first_stands g) tt (subst (IsLawfulApart g) (sym all) lawful) in
    record { lawful = lawful; timeline = t.timeline; made = t.made ∙ all; timely = t.timely }

-- ---- a timeline is moves

-- the standing of a search after a timeline
abbrev standing_of : Setup → Timeline → MarkStanding
standing_of g [] = at_first g.files
standing_of g (Makes e ∷ t) = passed (standing_of g t) (mark_by (requests_in g (Makes e ∷ t)) e)
standing_of g (Takes n o ∷ t) = took (standing_of g t) n o

stands_of : (g : Setup) (t : Timeline) → IsTimely g t → IsLawfulApart g (made_in t) → Stands g t (standing_of g t)
stands_of g [] timely lawful = first_stands g
stands_of g (Makes (s, a) ∷ t) timely lawful = grind (arith, stands_makes, (stands_of g t timely.1 lawful.1))
stands_of g (Takes n o ∷ t) timely lawful =
    stands_takes g t (standing_of g t) n o (stands_of g t timely.1 lawful) timely.0.runs

-- the next event is the end of a request that has taken no effect
record EndsNext (t : Timeline) (later : List Event) : Type 0 where
  number : ℕ
  res : ℤ
  bytes : List ℕ
  rest : List Event
  is : later ≡ ((step.Finish number, answer.Ended res bytes) ∷ rest)
  free : effect_of t number ≡ None

-- after an effect the next event is the end of one that had taken none before it
abbrev IsNext : Timeline → List Event → Type 0
IsNext [] later = Unit {0}
IsNext (Makes e ∷ t) later = Unit {0}
IsNext (Takes n o ∷ t) later = EndsNext t later

-- what was taken is what the request ends with later, if it ends
abbrev EndsSo : Setup → Timeline → List Event → Type 0
EndsSo g t later = (n : ℕ) (o : Outcome) → effect_of t n ≡ Some o
    → FitsEnd (end_in (marks_after g (made_in t) later) n) o

waits_by : (g : Setup) (t : Timeline) (st : MarkStanding) (later : List Event) → Stands g t st → EndsNext t later
    → awaits st.running (marks_after g (made_in t) later) ≡ true
waits_by g t st later stands next = grind arith

-- an effect of the timeline is one that a search has
may_take : (g : Setup) (t : Timeline) (st : MarkStanding) (later : List Event) (n : ℕ) (o : Outcome) → Stands g t st
    → IsLawfulApart g (made_in t) → TakesEffect g t n o → EndsNext t later
    → FitsEnd (end_in (marks_after g (made_in t) later) n) o
    → MayTake st (marks_after g (made_in t) later) n o
may_take g t st later n o stands lawful taken next fits = record {
  op = operation_at g t n;
  runs = grind arith;
  asks = running_asks g (made_in t) n lawful taken.runs;
  gives = subst (λ (fs : List FileContents). IsOutcome fs (operation_at g t n) o) (sym stands.files) (outcome_plain (files_at g t) (operation_at g t n) o taken.gives);
  ends = fits;
  waits = waits_by g t st later stands next;
}

next_before : (t : Timeline) (later : List Event) → EndsNext t later → IsNext t later
next_before t later next = grind arith

ends_before_effect : (g : Setup) (m : ℕ) (p : Outcome) (t : Timeline) (later : List Event) → effect_of t m ≡ None
    → EndsSo g (Takes m p ∷ t) later → EndsSo g t later
ends_before_effect g m p t later first so n o taken = so n o (grind (arith, first, taken))

-- going back over an event
next_by_end : (e : Event) (m : ℕ) (t : Timeline) (later : List Event) → is_end_of m e ≡ true
    → effect_of t m ≡ None → EndsNext t (e ∷ later)
next_by_end (step.Finish k, answer.Ended res bytes) m t later ends free = grind arith
next_by_end _ m t later ends free = absurd (false≢true ends)

next_by : (g : Setup) (e : Event) (t : Timeline) (later : List Event) → IsTimely g t → EndsLast t e
    → IsNext t (e ∷ later)
next_by g e t later timely last = grind (arith, next_by_end)

pub start_ends : (n k : ℕ) (o : Option Op) (marks : List Mark) → end_in (start_mark n o ∷ marks) k ≡ end_in marks k
start_ends n k o marks = grind arith

ends_before : (g : Setup) (s : Step) (a : Answer) (t : Timeline) (later : List Event) → EndsAsTaken t (s, a)
    → EndsSo g (Makes (s, a) ∷ t) later → EndsSo g t ((s, a) ∷ later)
ends_before g (step.Finish k) (answer.Ended res bytes) t later ends so n o taken = by (k == n) refl where
  rest : List Mark
  rest = marks_after g ((step.Finish k, answer.Ended res bytes) ∷ made_in t) later

  by : (b : Bool) → (k == n) ≡ b → FitsEnd (if b then Some (record { res = res; bytes = Some bytes }) else end_in rest n) o
  by b same = grind arith
ends_before g (step.Issue k) answer.Run t later ends so n o taken =
    subst (λ (x : Option End). FitsEnd x o) (sym (start_ends k n (operation_running (requests_in g (Makes (step.Issue k, answer.Run) ∷ t)) k) (marks_after g ((step.Issue k, answer.Run) ∷ made_in t) later))) (so n o taken)
ends_before g _ a t later ends so n o taken = so n o taken

goes_pass : (st : MarkStanding) (m : Mark) (marks : List Mark) → Passes st.running m → Goes (passed st m) marks
    → Goes st (m ∷ marks)
goes_pass st m marks passes later = record { moves = Pass ∷ later.moves; walk = (passes, later.walk) }

goes_take : (st : MarkStanding) (marks : List Mark) (n : ℕ) (o : Outcome) → MayTake st marks n o
    → Goes (took st n o) marks → Goes st marks
goes_take st [] n o may later = record { moves = Take n o ∷ later.moves; walk = (may, later.walk) }
goes_take st (m ∷ marks) n o may later = record { moves = Take n o ∷ later.moves; walk = (may, later.walk) }

back : (g : Setup) (t : Timeline) (later : List Event) → IsTimely g t → IsLawfulApart g (made_in t) → EffectsWait t
    → IsNext t later → EndsSo g t later → Goes (standing_of g t) (marks_after g (made_in t) later)
    → Goes (at_first g.files) (marks_after g [] (reverse (made_in t) ++ later))
back g [] later timely lawful waits next so goes = goes
back g (Makes (s, a) ∷ t) later timely lawful waits next so goes =
    subst (λ (l : List Event). Goes (at_first g.files) (marks_after g [] l)) (sym (history_of_cons (s, a) (made_in t) later))
    (back g t ((s, a) ∷ later) timely.1 lawful.1 waits.1 (next_by g (s, a) t later timely.1 waits.0) (ends_before g s a t later timely.0 so) (goes_pass (standing_of g t) (mark_by (requests_in g (Makes (s, a) ∷ t)) (s, a)) (marks_after g ((s, a) ∷ made_in t) later) (passes_so g t (standing_of g t) s a (stands_of g t timely.1 lawful.1) lawful.0 timely.0) goes))
back g (Takes n o ∷ t) later timely lawful waits next so goes =
    back g t later timely.1 lawful waits (next_before t later next) (ends_before_effect g n o t later timely.0.first so) (goes_take (standing_of g t) (marks_after g (made_in t) later) n o (may_take g t (standing_of g t) later n o (stands_of g t timely.1 lawful) lawful timely.0 next (so n o (ap (λ (b : Bool). if b then Some o else effect_of t n) (eq-eqb n n refl)))) goes)

-- nothing that is left ends, and nothing is left
none_next : (t : Timeline) → ends_in_effect t ≡ false → IsNext t []
none_next t none = grind arith

pub goes_by : (g : Setup) (events : List Event) → IsLawfulEarly g (history_of events)
    → Goes (at_first g.files) (marks_after g [] events)
goes_by g events early =
    let late : IsLawfulLate g (history_of events) = early_effects_can_wait g (history_of events) early in
    let t : Timeline = late.timeline in
    subst (λ (l : List Event). Goes (at_first g.files) (marks_after g [] l)) (append-nil (reverse (made_in t)) ∙ ap reverse late.made ∙ reverse-reverse events) (back g t [] late.timely (subst (IsLawfulApart g) (sym late.made) early.lawful) late.waits (none_next t late.ends) (λ n o taken. tt) (record { moves = []; walk = refl }))

-- ---- what a search comes to

pub decided : (g : Setup) (events : List Event) (come_to : Fate) → IsLawfulApart g (history_of events)
    → IsFated g.files (marks_after g [] events) come_to → IsFound g (history_of events) (found_by come_to)
decided g events fate.Explained lawful goes = lawful_by g events lawful goes
decided g events fate.Over lawful none = (lawful, λ early. none (goes_by g events early))
decided g events fate.Open lawful left = lawful
