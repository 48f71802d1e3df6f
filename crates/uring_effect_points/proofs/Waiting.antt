-- Effects can wait: a step changes places with the effects right before it, up to that of the request that it finishes, since their requests still run after it, and those that happened last are left out.
use Rattle.std.proofs.Common.{◌≡◌, ◌≢◌, ◌==◌, ◌++◌, ◌||◌, ◌<◌, ℕ, ℤ, Bool, true, false, List, [], ◌∷◌, length, Option, Some, if◌then◌else◌, refl, sym, ap, subst, ◌∙◌}
use Rattle.uring_effect_points.proofs.Common.{Answer, Change, EffectsWait, EndsAsTaken, History, IsLawfulApart, IsLawfulEarly, IsLawfulLate, IsOutcome, IsTimely, Makes, Op, Outcome, Requests, Setup, Step, Takes, TakesEffect, Timeline, World, and_from, and_parts, both_ways, cancels, change_of, chosen_by, closes, dooms, drops, effect_of, effects_in, empty_files, ending_of, ends_in_effect, entry_of, eq-eqb, event_grows, files_at, finishes, happens, is_end_of, is_running, is_running_ended_other, list_any_push, made_in, no_bytes, operation_at, operation_of, refuses, requests_in, runs, sound_of, takes, taking_entry_of, taking_of, with_cancelled, with_issued_end, with_started, world}
use Rattle.uring_files.specs.Done.{Done, files_left}
use Rattle.uring_core.specs.declared.step.Step.TheVariants as step
use Rattle.uring_core.specs.declared.answer.Answer.TheVariants as answer

-- ---- what runs goes on

-- another starts
start_runs : (r : Requests) (m n : ℕ) → is_running r n ≡ true → is_running (with_started r m) n ≡ true
start_runs r m n running =
    let parts = and_parts _ _ running in
    and_from _ _ (list_any_push (λ k. k == n) r.started m ∙ ap (λ (b : Bool). b || (m == n)) parts.0) parts.1

-- another ends as it is issued, by either's rules: what doesn't run is another than what does
issued_runs : (linux : Bool) (r : Requests) (m n : ℕ) (res : ℤ) → is_running r m ≡ false
    → is_running r n ≡ true → is_running (with_issued_end linux r m res) n ≡ true
issued_runs linux r m n res idle running = by linux where
  differ : n ≢ m
  differ same = both_ways (is_running r m) idle (subst (λ k. is_running r k ≡ true) same running)

  by : (linux : Bool) → is_running (with_issued_end linux r m res) n ≡ true
  by true = is_running_ended_other r m res no_bytes n differ ∙ running
  by false = is_running_ended_other (with_cancelled r (chosen_by r m res)) m res no_bytes n differ ∙ running

change_runs : (g : Setup) (w : World) (s : Step) (a : Answer) (n : ℕ) → Change g w s a
    → is_end_of n (s, a) ≡ false → is_running w.requests n ≡ true
    → is_running (happens g w s a).requests n ≡ true
change_runs g w s a n (refuses _ _ same silent) other running =
    subst (λ (v : World). is_running v.requests n ≡ true) (sym (same w)) running
change_runs g w s a n (takes entry call place opened left at valid) other running =
    subst (λ o. is_running (taking_entry_of g w entry o).requests n ≡ true) (sym opened) running
change_runs g w s a n (drops call place opened left at invalid) other running =
    subst (λ o. is_running (taking_of g w o).requests n ≡ true) (sym opened) running
change_runs g w s a n (closes accepted missed head call opened all told) other running =
    subst (λ o. is_running (ending_of g w o).requests n ≡ true) (sym opened) running
change_runs g w s a n (runs m outstanding idle spared ready no_cancel) other running =
    start_runs w.requests m n running
change_runs g w s a n (dooms m outstanding idle doomed) other running =
    issued_runs g.linux w.requests m n _ idle running
change_runs g w s a n (cancels m outstanding idle spared ready cancel) other running =
    issued_runs g.linux w.requests m n _ idle running
change_runs g w s a n (finishes m res bytes ran) other running =
    is_running_ended_other w.requests m res bytes n (λ same. both_ways (n == m) other (eq-eqb n m same)) ∙ running
change_runs g w s a n _ other running = running

step_runs : (g : Setup) (s : Step) (a : Answer) (h : History) (n : ℕ) → IsLawfulApart g ((s, a) ∷ h)
    → is_end_of n (s, a) ≡ false → is_running (world g h).requests n ≡ true
    → is_running (world g ((s, a) ∷ h)).requests n ≡ true
step_runs g s a h n lawful other running =
    change_runs g (world g h) s a n (change_of g (world g h) s a lawful.0) other running

-- with the same entry
step_entry : (g : Setup) (s : Step) (a : Answer) (h : History) (n : ℕ) → IsLawfulApart g ((s, a) ∷ h)
    → is_running (world g h).requests n ≡ true
    → entry_of (world g ((s, a) ∷ h)).requests n ≡ entry_of (world g h).requests n
step_entry g s a h n lawful running =
    let low : n < length (world g h).requests.accepted = (sound_of g h lawful.1).requests.started_accepted n (and_parts _ _ running).0 in
    (event_grows g s a h lawful).same_entry n low

-- ---- a step before the effects that happened last, up to that which it ends

-- after this effect, or before it
abbrev stand : Bool → Step → Answer → ℕ → Outcome → Timeline → Timeline → Timeline
stand true s a n o t waited = Makes (s, a) ∷ Takes n o ∷ t
stand false s a n o t waited = Takes n o ∷ waited

abbrev wait : Step → Answer → Timeline → Timeline
wait s a [] = Makes (s, a) ∷ []
wait s a (Makes event ∷ t) = Makes (s, a) ∷ Makes event ∷ t
wait s a (Takes n o ∷ t) = stand (is_end_of n (s, a)) s a n o t (wait s a t)

made_stand : (b : Bool) (s : Step) (a : Answer) (n : ℕ) (o : Outcome) (t waited : Timeline)
    → made_in waited ≡ ((s, a) ∷ made_in t) → made_in (stand b s a n o t waited) ≡ ((s, a) ∷ made_in t)
made_stand true s a n o t waited same = refl
made_stand false s a n o t waited same = same

made_wait : (s : Step) (a : Answer) (t : Timeline) → made_in (wait s a t) ≡ ((s, a) ∷ made_in t)
made_wait s a [] = refl
made_wait s a (Makes event ∷ t) = refl
made_wait s a (Takes n o ∷ t) = made_stand (is_end_of n (s, a)) s a n o t (wait s a t) (made_wait s a t)

effect_stand : (b : Bool) (s : Step) (a : Answer) (m : ℕ) (o : Outcome) (t waited : Timeline) (n : ℕ)
    → effect_of waited n ≡ effect_of t n
    → effect_of (stand b s a m o t waited) n ≡ effect_of (Takes m o ∷ t) n
effect_stand true s a m o t waited n same = refl
effect_stand false s a m o t waited n same =
    ap (λ (e : Option Outcome). if m == n then Some o else e) same

effect_wait : (s : Step) (a : Answer) (t : Timeline) (n : ℕ) → effect_of (wait s a t) n ≡ effect_of t n
effect_wait s a [] n = refl
effect_wait s a (Makes event ∷ t) n = refl
effect_wait s a (Takes m o ∷ t) n =
    effect_stand (is_end_of m (s, a)) s a m o t (wait s a t) n (effect_wait s a t n)

operation_wait : (g : Setup) (s : Step) (a : Answer) (t : Timeline) (n : ℕ)
    → IsLawfulApart g ((s, a) ∷ made_in t) → is_running (requests_in g t) n ≡ true
    → operation_at g (wait s a t) n ≡ operation_at g t n
operation_wait g s a t n lawful running =
    ap (λ (h : History). operation_of (entry_of (world g h).requests n)) (made_wait s a t)
    ∙ ap operation_of (step_entry g s a (made_in t) n lawful running)

effects_stand : (g : Setup) (b : Bool) (s : Step) (a : Answer) (n : ℕ) (o : Outcome) (t waited : Timeline)
    → effects_in g waited ≡ effects_in g t → operation_at g waited n ≡ operation_at g t n
    → effects_in g (stand b s a n o t waited) ≡ effects_in g (Takes n o ∷ t)
effects_stand g true s a n o t waited same asks = refl
effects_stand g false s a n o t waited same asks =
    ap (λ (l : List Done). l ++ record { number = n; op = operation_at g waited n; outcome = o } ∷ []) same
    ∙ ap (λ (x : Op). effects_in g t ++ record { number = n; op = x; outcome = o } ∷ []) asks

effects_wait : (g : Setup) (s : Step) (a : Answer) (t : Timeline) → IsTimely g t
    → IsLawfulApart g ((s, a) ∷ made_in t) → effects_in g (wait s a t) ≡ effects_in g t
effects_wait g s a [] timely lawful = refl
effects_wait g s a (Makes event ∷ t) timely lawful = refl
effects_wait g s a (Takes n o ∷ t) timely lawful =
    effects_stand g (is_end_of n (s, a)) s a n o t (wait s a t) (effects_wait g s a t timely.1 lawful) (operation_wait g s a t n lawful timely.0.runs)

-- an effect goes on to be timely if what is before it stays the same in all that it asks
effect_stays : (g : Setup) (old new : Timeline) (n : ℕ) (o : Outcome)
    → is_running (requests_in g new) n ≡ true → effect_of new n ≡ effect_of old n
    → effects_in g new ≡ effects_in g old → operation_at g new n ≡ operation_at g old n
    → TakesEffect g old n o → TakesEffect g new n o
effect_stays g old new n o running same effects asks taken = record {
  runs = running;
  first = same ∙ taken.first;
  gives = subst (λ (l : List Done). IsOutcome (files_left (empty_files g.files) l) (operation_at g new n) o) (sym effects) (subst (λ (x : Op). IsOutcome (files_at g old) x o) (sym asks) taken.gives);
}

-- a step that isn't the end of this effect ends before it as after it
ends_past : (s : Step) (a : Answer) (n : ℕ) (o : Outcome) (t : Timeline) → is_end_of n (s, a) ≡ false
    → EndsAsTaken (Takes n o ∷ t) (s, a) → EndsAsTaken t (s, a)
ends_past (step.Finish m) (answer.Ended res bytes) n o t other ends =
    sym (ap (λ (b : Bool). if b then Some o else effect_of t m) other) ∙ ends
ends_past _ a n o t other ends = tt

timely_stand : (g : Setup) (b : Bool) (s : Step) (a : Answer) (n : ℕ) (o : Outcome) (t : Timeline)
    → is_end_of n (s, a) ≡ b → EndsAsTaken (Takes n o ∷ t) (s, a) → IsTimely g (Takes n o ∷ t)
    → IsLawfulApart g ((s, a) ∷ made_in t)
    → (EndsAsTaken t (s, a) → IsTimely g (wait s a t)) → IsTimely g (stand b s a n o t (wait s a t))
timely_stand g true s a n o t same ends timely lawful later = (ends, timely)
timely_stand g false s a n o t other ends timely lawful later = (
  effect_stays g t (wait s a t) n o (subst (λ (h : History). is_running (world g h).requests n ≡ true) (sym (made_wait s a t)) (step_runs g s a (made_in t) n lawful other timely.0.runs)) (effect_wait s a t n) (effects_wait g s a t timely.1 lawful) (operation_wait g s a t n lawful timely.0.runs) timely.0,
  later (ends_past s a n o t other ends),
)

timely_wait : (g : Setup) (s : Step) (a : Answer) (t : Timeline) → EndsAsTaken t (s, a)
    → IsTimely g t → IsLawfulApart g ((s, a) ∷ made_in t) → IsTimely g (wait s a t)
timely_wait g s a [] ends timely lawful = (ends, tt)
timely_wait g s a (Makes event ∷ t) ends timely lawful = (ends, timely)
timely_wait g s a (Takes n o ∷ t) ends timely lawful =
    timely_stand g (is_end_of n (s, a)) s a n o t refl ends timely lawful (λ before. timely_wait g s a t before timely.1 lawful)

stand_waits : (b : Bool) (s : Step) (a : Answer) (n : ℕ) (o : Outcome) (t waited : Timeline)
    → is_end_of n (s, a) ≡ b → EffectsWait t → EffectsWait waited → EffectsWait (stand b s a n o t waited)
stand_waits true s a n o t waited same waits later = (same, waits)
stand_waits false s a n o t waited other waits later = later

wait_waits : (s : Step) (a : Answer) (t : Timeline) → EffectsWait t → EffectsWait (wait s a t)
wait_waits s a [] waits = (tt, tt)
wait_waits s a (Makes event ∷ t) waits = (tt, waits)
wait_waits s a (Takes n o ∷ t) waits =
    stand_waits (is_end_of n (s, a)) s a n o t (wait s a t) refl waits (wait_waits s a t waits)

-- ---- all steps

abbrev late : Timeline → Timeline
late [] = []
late (Makes (s, a) ∷ t) = wait s a (late t)
late (Takes n o ∷ t) = Takes n o ∷ late t

made_late : (t : Timeline) → made_in (late t) ≡ made_in t
made_late [] = refl
made_late (Makes (s, a) ∷ t) =
    made_wait s a (late t) ∙ ap (λ (h : History). (s, a) ∷ h) (made_late t)
made_late (Takes n o ∷ t) = made_late t

effect_late : (t : Timeline) (n : ℕ) → effect_of (late t) n ≡ effect_of t n
effect_late [] n = refl
effect_late (Makes (s, a) ∷ t) n = effect_wait s a (late t) n ∙ effect_late t n
effect_late (Takes m o ∷ t) n =
    ap (λ (e : Option Outcome). if m == n then Some o else e) (effect_late t n)

lawful_late : (g : Setup) (s : Step) (a : Answer) (t : Timeline) → IsLawfulApart g ((s, a) ∷ made_in t)
    → IsLawfulApart g ((s, a) ∷ made_in (late t))
lawful_late g s a t lawful =
    subst (λ (h : History). IsLawfulApart g ((s, a) ∷ h)) (sym (made_late t)) lawful

ends_late : (s : Step) (a : Answer) (t : Timeline) → EndsAsTaken t (s, a) → EndsAsTaken (late t) (s, a)
ends_late (step.Finish n) (answer.Ended res bytes) t ends = effect_late t n ∙ ends
ends_late _ a t ends = tt

-- it is timely, with the same effects
record IsSame (g : Setup) (t : Timeline) : Type 0 where
  timely : IsTimely g (late t)
  effects : effects_in g (late t) ≡ effects_in g t

late_same : (g : Setup) (t : Timeline) → IsTimely g t → IsLawfulApart g (made_in t) → IsSame g t
late_same g [] timely lawful = record { timely = tt; effects = refl }
late_same g (Makes (s, a) ∷ t) timely lawful =
    let before : IsSame g t = late_same g t timely.1 lawful.1 in
    let later = lawful_late g s a t lawful in
    record {
      timely = timely_wait g s a (late t) (ends_late s a t timely.0) before.timely later;
      effects = effects_wait g s a (late t) before.timely later ∙ before.effects;
    }
late_same g (Takes n o ∷ t) timely lawful =
    let before : IsSame g t = late_same g t timely.1 lawful in
    let asks : operation_at g (late t) n ≡ operation_at g t n = ap (λ (h : History). operation_of (entry_of (world g h).requests n)) (made_late t) in
    record {
      timely = (effect_stays g t (late t) n o (subst (λ (h : History). is_running (world g h).requests n ≡ true) (sym (made_late t)) timely.0.runs) (effect_late t n) before.effects asks timely.0, before.timely);
      effects =
          ap (λ (l : List Done). l ++ record { number = n; op = operation_at g (late t) n; outcome = o } ∷ []) before.effects
          ∙ ap (λ (x : Op). effects_in g t ++ record { number = n; op = x; outcome = o } ∷ []) asks;
    }

late_waits : (t : Timeline) → EffectsWait (late t)
late_waits [] = tt
late_waits (Makes (s, a) ∷ t) = wait_waits s a (late t) (late_waits t)
late_waits (Takes n o ∷ t) = late_waits t

-- ---- without the effects that happened last

abbrev needed : Timeline → Timeline
needed [] = []
needed (Makes event ∷ t) = Makes event ∷ t
needed (Takes n o ∷ t) = needed t

made_needed : (t : Timeline) → made_in (needed t) ≡ made_in t
made_needed [] = refl
made_needed (Makes event ∷ t) = refl
made_needed (Takes n o ∷ t) = made_needed t

timely_needed : (g : Setup) (t : Timeline) → IsTimely g t → IsTimely g (needed t)
timely_needed g [] timely = tt
timely_needed g (Makes event ∷ t) timely = timely
timely_needed g (Takes n o ∷ t) timely = timely_needed g t timely.1

waits_needed : (t : Timeline) → EffectsWait t → EffectsWait (needed t)
waits_needed [] waits = tt
waits_needed (Makes event ∷ t) waits = waits
waits_needed (Takes n o ∷ t) waits = waits_needed t waits

ends_needed : (t : Timeline) → ends_in_effect (needed t) ≡ false
ends_needed [] = refl
ends_needed (Makes event ∷ t) = refl
ends_needed (Takes n o ∷ t) = ends_needed t

pub early_effects_can_wait : (g : Setup) (h : History) → IsLawfulEarly g h → IsLawfulLate g h
early_effects_can_wait g h early =
    let t : Timeline = early.timeline in
    let same : IsSame g t = late_same g t early.timely (subst (IsLawfulApart g) (sym early.made) early.lawful) in
    record {
      timeline = needed (late t);
      made = made_needed (late t) ∙ made_late t ∙ early.made;
      timely = timely_needed g (late t) same.timely;
      waits = waits_needed (late t) (late_waits t);
      ends = ends_needed (late t);
    }
