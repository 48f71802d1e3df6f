-- How operations stand along a timeline: as a search has it, after each event and each effect.
use Rattle.std.proofs.Common.{◌≡◌, ◌==◌, ◌||◌, ◌&&◌, ℕ, ℤ, Bool, true, false, not, List, [], ◌∷◌, ◌++◌, map, Option, Some, None, if◌then◌else◌, refl, sym, ap, subst, ◌∙◌, arith}
use Rattle.uring_effect_points.proofs.Common.{Answer, CalledForApart, Change, Ends, EndsAsTaken, EndsBy, FileContents, History, Idle, IsLawfulApart, IsOutcome, IsTimely, Makes, Mark, MarkStanding, MayTake, Op, Outcome, Passes, Requests, Running, Setup, Starts, Step, Takes, TakesEffect, Timeline, World, and_from, both_ways, change_of, effect_of, entry_of, eqb-true, event_grows, false_from_ne_true, files_at, has_ended, has_started, is_running, look, made_in, mark_by, operation_at, operation_of, operation_running, option_map, passed, plain, requests_in, requests_of, sound_of, start_mark, taken_by, taken_of, taking, took, with_issued_end, with_taken, without, world}
use Rattle.std.proofs.Math.Bool.{and-false}
use Rattle.uring_files.proofs.DoneLemmas.{left_snoc}
use Rattle.uring_core.specs.declared.step.Step.TheVariants as step
use Rattle.uring_core.specs.declared.answer.Answer.TheVariants as answer
use Rattle.uring_linux.specs.LinuxRequests.{LinuxRequests}
use Rattle.uring_core.proofs.ListCounts.{any_kept}
use Rattle.uring_core.proofs.Moves.{Move, move_of}
use Rattle.uring_effect_points.proofs.Plain.{after_plain, outcome_back}
use Rattle.uring_effect_points.proofs.RunningAfter.{runs_after, runs_by}

-- ---- the list of what runs

abbrev or_else : Option Running → Option Running → Option Running
or_else (Some x) y = Some x
or_else None y = y

look_push : (rs : List Running) (new : Running) (n : ℕ)
    → look (rs ++ new ∷ []) n ≡ or_else (look rs n) (if new.number == n then Some new else None)
look_push [] new n = refl
look_push (r ∷ rs) new n = grind (arith, look_push rs new n)

look_without : (rs : List Running) (m n : ℕ) → look (without rs m) n ≡ (if m == n then None else look rs n)
look_without [] m n = grind arith
look_without (r ∷ rs) m n = grind (arith, look_without rs m n)

look_taken : (rs : List Running) (m n : ℕ) (o : Outcome)
    → look (with_taken rs m o) n ≡ option_map (λ r. taking m o r) (look rs n)
look_taken [] m n o = refl
look_taken (r ∷ rs) m n o = grind (arith, (look_taken rs m n o))

-- ---- how a request stands

-- one that runs, with what it asks for and its effect
abbrev pub one_of : Bool → ℕ → Op → Option Outcome → Option Running
one_of true n op taken = Some (record { number = n; op = op; taken = taken })
one_of false n op taken = None

abbrev pub standing_at : Requests → Option Outcome → ℕ → Option Running
standing_at r taken n = one_of (is_running r n) n (operation_of (entry_of r n)) taken

-- The search's standing is that after a timeline.
pub record Stands (g : Setup) (t : Timeline) (s : MarkStanding) : Type 0 where
  pub files : s.files ≡ map plain (files_at g t)
  pub running : (n : ℕ) → look s.running n ≡ standing_at (requests_in g t) (effect_of t n) n

runs_one : (b : Bool) (n : ℕ) (op op2 : Op) (taken : Option Outcome) (r : Running)
    → one_of b n op taken ≡ Some r → (b ≡ true) × ((op ≡ r.op) × (taken ≡ r.taken))
runs_one b n op op2 taken r is = grind arith

-- ---- effects

-- an end at an issue starts none
issued_starts : (linux : Bool) (r : Requests) (m n : ℕ) (res : ℤ)
    → has_started (with_issued_end linux r m res) n ≡ has_started r n
issued_starts linux r m n res = grind arith

-- an effect that was taken was by what had started
starts_stay : (linux : Bool) (l : LinuxRequests) (s : Step) (a : Answer) (q : Requests) (n : ℕ) → Move linux l s a q
    → has_started l.requests n ≡ true → has_started q n ≡ true
starts_stay linux l s a q n h started = grind (arith, any_kept, issued_starts)

effect_started : (g : Setup) (t : Timeline) (n : ℕ) (o : Outcome) → IsTimely g t → IsLawfulApart g (made_in t)
    → effect_of t n ≡ Some o → has_started (requests_in g t) n ≡ true
effect_started g [] n o timely lawful is = absurd cc
effect_started g (Makes (s, a) ∷ t) n o timely lawful is =
    starts_stay g.linux (requests_of (world g (made_in t))) s a _ n (move_of g s a (made_in t) lawful) (effect_started g t n o timely.1 lawful.1 is)
effect_started g (Takes m p ∷ t) n o timely lawful is = grind (arith, (effect_started g t n o timely.1 lawful))

-- what hasn't started has taken none
pub unstarted_free : (g : Setup) (t : Timeline) (n : ℕ) → IsTimely g t → IsLawfulApart g (made_in t)
    → has_started (requests_in g t) n ≡ false → effect_of t n ≡ None
unstarted_free g t n timely lawful idle = by (effect_of t n) refl where
  by : (o : Option Outcome) → effect_of t n ≡ o → o ≡ None
  by None is = refl
  by (Some o) is = absurd (both_ways _ idle (effect_started g t n o timely lawful is))

-- ---- after an event

passed_files : (s : MarkStanding) (m : Mark) → (passed s m).files ≡ s.files
passed_files s m = grind arith

-- a request of the same entry stands as before, if it runs as before
stands_so : (r later : Requests) (n : ℕ) (taken : Option Outcome) → is_running later n ≡ is_running r n
    → (is_running r n ≡ true → entry_of later n ≡ entry_of r n)
    → standing_at r taken n ≡ standing_at later taken n
stands_so r later n taken same entry = grind arith

entry_same : (g : Setup) (s : Step) (a : Answer) (h : History) (n : ℕ) → IsLawfulApart g ((s, a) ∷ h)
    → is_running (world g h).requests n ≡ true
    → entry_of (world g ((s, a) ∷ h)).requests n ≡ entry_of (world g h).requests n
entry_same g s a h n lawful running = grind (arith, event_grows, sound_of)

-- of a start what stood before it
abbrev StartFacts : Requests → Step → Answer → Type 0
StartFacts r (step.Issue k) answer.Run = (is_running r k ≡ false) × (has_ended r k ≡ false)
StartFacts r s a = Unit {0}

start_facts : (g : Setup) (w : World) (s : Step) (a : Answer) → Change g w s a → StartFacts w.requests s a
start_facts g w s a h = grind arith

-- what a mark of a start tells
record IsStart (r : Requests) (s : Step) (a : Answer) (k : ℕ) (op : Op) : Type 0 where
  step_is : s ≡ step.Issue k
  answer_is : a ≡ answer.Run
  asks : operation_running r k ≡ Some op

start_by : (r : Requests) (n k : ℕ) (op : Op) (o : Option Op) → operation_running r n ≡ o
    → start_mark n o ≡ Starts k op → IsStart r (step.Issue n) answer.Run k op
start_by r n k op o is mark = grind arith

start_from : (r : Requests) (s : Step) (a : Answer) (k : ℕ) (op : Op) → mark_by r (s, a) ≡ Starts k op
    → IsStart r s a k op
start_from r (step.Issue n) answer.Run k op mark = start_by r n k op (operation_running r n) refl mark
start_from r (step.Finish n) (answer.Ended res bytes) k op mark = absurd cc
start_from r _ a k op mark = absurd cc

-- ---- after a mark

module _ (g : Setup) (t : Timeline) (st : MarkStanding) (s : Step) (a : Answer) where
  after_idle : Stands g t st → IsLawfulApart g ((s, a) ∷ made_in t)
      → ((n : ℕ) → is_running (requests_in g (Makes (s, a) ∷ t)) n ≡ is_running (requests_in g t) n)
      → (n : ℕ) → look st.running n ≡ standing_at (requests_in g (Makes (s, a) ∷ t)) (effect_of t n) n
  after_idle stands lawful same n =
      stands.running n ∙ stands_so (requests_in g t) (requests_in g (Makes (s, a) ∷ t)) n (effect_of t n) (same n) (entry_same g s a (made_in t) n lawful)

  after_end : (k : ℕ) → Stands g t st → IsLawfulApart g ((s, a) ∷ made_in t)
      → ((n : ℕ) → is_running (requests_in g (Makes (s, a) ∷ t)) n ≡ (is_running (requests_in g t) n && not (k == n)))
      → (n : ℕ) → look (without st.running k) n ≡ standing_at (requests_in g (Makes (s, a) ∷ t)) (effect_of t n) n
  after_end k stands lawful runs_so n = look_without st.running k n ∙ by (k == n) refl where
    later : Requests
    later = requests_in g (Makes (s, a) ∷ t)

    by : (b : Bool) → (k == n) ≡ b → (if b then None else look st.running n) ≡ standing_at later (effect_of t n) n
    by b same = grind (arith, runs_so, and-false, entry_same)

  after_start : (k : ℕ) (op : Op) → Stands g t st → IsLawfulApart g ((s, a) ∷ made_in t)
      → is_running (requests_in g t) k ≡ false → effect_of t k ≡ None
      → operation_running (requests_in g (Makes (s, a) ∷ t)) k ≡ Some op
      → ((n : ℕ) → is_running (requests_in g (Makes (s, a) ∷ t)) n ≡ (is_running (requests_in g t) n || (k == n)))
      → (n : ℕ) → look (st.running ++ record { number = k; op = op; taken = None } ∷ []) n ≡ standing_at (requests_in g (Makes (s, a) ∷ t)) (effect_of t n) n
  after_start k op stands lawful idle free asks runs_so n = look_push st.running (record { number = k; op = op; taken = None }) n ∙ by (k == n) refl where
    later : Requests
    later = requests_in g (Makes (s, a) ∷ t)

    new : Running
    new = record { number = k; op = op; taken = None }

    here : or_else (look st.running k) (Some new) ≡ standing_at later (effect_of t k) k
    here = grind arith

    by : (b : Bool) → (k == n) ≡ b → or_else (look st.running n) (if b then Some new else None) ≡ standing_at later (effect_of t n) n
    by b same = grind (arith, eqb-true, here)

  runs_so : IsLawfulApart g ((s, a) ∷ made_in t) → {m : Mark} → mark_by (requests_in g (Makes (s, a) ∷ t)) (s, a) ≡ m → (k : ℕ) → is_running (requests_in g (Makes (s, a) ∷ t)) k ≡ runs_after m (is_running (requests_in g t) k) k
  runs_so lawful is k = runs_by g (world g (made_in t)) s a k (change_of g (world g (made_in t)) s a lawful.0) ∙ ap (λ (x : Mark). runs_after x (is_running (requests_in g t) k) k) is

  after_mark : (m : Mark) → mark_by (requests_in g (Makes (s, a) ∷ t)) (s, a) ≡ m → IsTimely g t → Stands g t st
      → IsLawfulApart g ((s, a) ∷ made_in t)
      → (n : ℕ) → look (passed st m).running n ≡ standing_at (requests_in g (Makes (s, a) ∷ t)) (effect_of t n) n
  after_mark Idle is timely stands lawful n = grind (arith, (after_idle stands lawful (runs_so lawful is) n))
  after_mark (Ends m e) is timely stands lawful n =
      after_end m stands lawful (runs_so lawful is) n
  after_mark (Starts m op) is timely stands lawful n =
      let start : IsStart (requests_in g (Makes (s, a) ∷ t)) s a m op = start_from (requests_in g (Makes (s, a) ∷ t)) s a m op is in
      let facts : (is_running (requests_in g t) m ≡ false) × (has_ended (requests_in g t) m ≡ false) = subst (λ (x : Answer). StartFacts (requests_in g t) (step.Issue m) x) start.answer_is (subst (λ (x : Step). StartFacts (requests_in g t) x a) start.step_is (start_facts g (world g (made_in t)) s a (change_of g (world g (made_in t)) s a lawful.0))) in
      after_start m op stands lawful facts.0 (unstarted_free g t m timely lawful.1 (false_from_ne_true _ (λ started. both_ways _ facts.0 (and_from _ _ started (ap not facts.1))))) start.asks (runs_so lawful is) n

pub stands_makes : (g : Setup) (t : Timeline) (st : MarkStanding) (s : Step) (a : Answer) → IsTimely g t → Stands g t st
    → IsLawfulApart g ((s, a) ∷ made_in t)
    → Stands g (Makes (s, a) ∷ t) (passed st (mark_by (requests_in g (Makes (s, a) ∷ t)) (s, a)))
stands_makes g t st s a timely stands lawful = record {
  files = passed_files st (mark_by (requests_in g (Makes (s, a) ∷ t)) (s, a)) ∙ stands.files;
  running = after_mark g t st s a (mark_by (requests_in g (Makes (s, a) ∷ t)) (s, a)) refl timely stands lawful;
}

-- ---- after an effect

taken_one : (b : Bool) (n m : ℕ) (op : Op) (o : Outcome) (taken : Option Outcome)
    → option_map (λ r. taking m o r) (one_of b n op taken) ≡ one_of b n op (if m == n then Some o else taken)
taken_one b n m op o taken = grind arith

pub stands_takes : (g : Setup) (t : Timeline) (st : MarkStanding) (n : ℕ) (o : Outcome) → Stands g t st
    → is_running (requests_in g t) n ≡ true → Stands g (Takes n o ∷ t) (took st n o)
stands_takes g t st n o stands ran = grind (arith, after_plain, left_snoc, look_taken, taken_one)

-- an effect that a search has is one of the timeline
pub takes_effect : (g : Setup) (t : Timeline) (st : MarkStanding) (marks : List Mark) (n : ℕ) (o : Outcome) → Stands g t st
    → MayTake st marks n o → TakesEffect g t n o
takes_effect g t st marks n o stands may =
    let r = runs_one (is_running (requests_in g t) n) n (operation_at g t n) may.op (effect_of t n) _ (sym (stands.running n) ∙ may.runs) in
    record {
      runs = r.0;
      first = r.1.1;
      gives = subst (λ (x : Op). IsOutcome (files_at g t) x o) (sym r.1.0) (outcome_back (files_at g t) may.op o (subst (λ (fs : List FileContents). IsOutcome fs may.op o) stands.files may.gives));
    }

-- ---- after an end

taken_one_of : (b : Bool) (n : ℕ) (op : Op) (taken : Option Outcome) (o : Outcome)
    → taken_of (one_of b n op taken) ≡ Some o → taken ≡ Some o
taken_one_of b n op taken o is = grind arith

ended_by : (taken : Option Outcome) (res : ℤ) (bytes : List ℕ)
    → EndsBy taken (record { res = res; bytes = Some bytes }) → taken ≡ Some (record { res = res; bytes = bytes })
ended_by taken res bytes ends = grind arith

-- what passes the mark of an end ends as it was taken
pub ends_so : (g : Setup) (t : Timeline) (st : MarkStanding) (s : Step) (a : Answer) → Stands g t st
    → Passes st.running (mark_by (requests_in g (Makes (s, a) ∷ t)) (s, a)) → EndsAsTaken t (s, a)
ends_so g t st (step.Finish n) (answer.Ended res bytes) stands passes =
    taken_one_of (is_running (requests_in g t) n) n (operation_at g t n) (effect_of t n) (record { res = res; bytes = bytes }) (ap taken_of (sym (stands.running n)) ∙ ended_by (taken_by st.running n) res bytes passes)
ends_so g t st _ a stands passes = tt

pub passes_so : (g : Setup) (t : Timeline) (st : MarkStanding) (s : Step) (a : Answer) → Stands g t st
    → CalledForApart g (world g (made_in t)) s a
    → EndsAsTaken t (s, a) → Passes st.running (mark_by (requests_in g (Makes (s, a) ∷ t)) (s, a))
passes_so g t st s a stands called ends = grind arith
