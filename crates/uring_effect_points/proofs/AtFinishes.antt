-- The timeline in which each operation takes effect just before its finish: its effects are the operations that the history carried out.
use Rattle.std.proofs.Common.{◌≡◌, ◌==◌, ◌++◌, ℕ, Bool, true, false, List, [], ◌∷◌, Option, Some, None, refl, sym, ap, subst, ◌∙◌}
use Rattle.uring_effect_points.proofs.Common.{Ending, EndsAsTaken, Event, FileContents, History, IsLawfulApart, IsLawfulEarly, IsOutcome, IsTimely, Makes, Outcome, Requests, Setup, Takes, Timeline, and_parts, effect_of, effects_in, end_told_by, entry_of, eq-eqb, has_ended, if◌then◌else◌, is_running, list_any_push, made_in, not-true, operation_of, or_parts, world}
use Rattle.std.specs.List.{list_any}
use Rattle.uring_files.specs.Done.{Done, files_left}
use Rattle.uring_core.specs.CalledFor.{CalledFor, EndsOn, IsLawful, files_of}
use Rattle.uring_core.specs.declared.step.Step.TheVariants as step
use Rattle.uring_core.specs.declared.answer.Answer.TheVariants as answer
use Rattle.uring_laws.specs.Direct.{told, with_told}
use Rattle.uring_laws.specs.Finishes.{done_by, done_in, first_files}
use Rattle.uring_laws.proofs.FileLaws.{files_by_operations}
use Rattle.uring_laws.proofs.ReadOff.{own_requests}
use Rattle.uring_laws.proofs.WholeLaws.{lawful_apart}

-- the effect after this timeline that the event then ends
abbrev with_taken : Event → Timeline → Timeline
with_taken (step.Finish n, answer.Ended res bytes) t = Takes n (record { res = res; bytes = bytes }) ∷ t
with_taken event t = t

abbrev at_finishes : History → Timeline
at_finishes [] = []
at_finishes (event ∷ before) = Makes event ∷ with_taken event (at_finishes before)

made_same : (e : Event) (t : Timeline) → made_in (with_taken e t) ≡ made_in t
made_same (step.Finish n, answer.Ended res bytes) t = refl
made_same _ t = refl

made : (h : History) → made_in (at_finishes h) ≡ h
made [] = refl
made (e ∷ before) = ap (λ (l : History). e ∷ l) (made_same e (at_finishes before) ∙ made before)

-- its effects are the operations that the history carried out

one_more : (g : Setup) (e : Event) (t : Timeline) (before : History) → made_in t ≡ before
    → effects_in g t ≡ done_in g before
    → effects_in g (with_taken e t) ≡ with_told (done_in g before) (done_by (world g before) e)
one_more g (step.Finish n, answer.Ended res bytes) t before is same =
    ap (λ (l : List Done). l ++ record { number = n; op = operation_of (entry_of (world g (made_in t)).requests n); outcome = record { res = res; bytes = bytes } } ∷ []) same
    ∙ ap (λ (h : History). done_in g before ++ record { number = n; op = operation_of (entry_of (world g h).requests n); outcome = record { res = res; bytes = bytes } } ∷ []) is
one_more g _ t before is same = same

effects : (g : Setup) (h : History) → effects_in g (at_finishes h) ≡ done_in g h
effects g [] = refl
effects g (e ∷ before) = one_more g e (at_finishes before) before (made before) (effects g before)

-- what hasn't ended has taken no effect there

abbrev is_of : ℕ → Ending → Bool
is_of n e = e.number == n

left_false : (n : ℕ) (xs : List Ending) (x : Option Ending) → list_any (is_of n) (with_told xs x) ≡ false
    → list_any (is_of n) xs ≡ false
left_false n xs None e = e
left_false n xs (Some x) e = (or_parts _ _ (sym (list_any_push (is_of n) xs x) ∙ e)).0

last_false : (n : ℕ) (xs : List Ending) (x : Ending) → list_any (is_of n) (xs ++ x ∷ []) ≡ false
    → (x.number == n) ≡ false
last_false n xs x e =
    (or_parts _ _ (sym (list_any_push (is_of n) xs x) ∙ e)).1

not_taken : (n : ℕ) (e : Event) (t : Timeline) (before : History)
    → list_any (is_of n) (with_told (told end_told_by before) (end_told_by e)) ≡ false
    → effect_of t n ≡ None → effect_of (with_taken e t) n ≡ None
not_taken n (step.Finish m, answer.Ended res bytes) t before none prior =
    ap (λ (b : Bool). if b then Some (record { res = res; bytes = bytes }) else effect_of t n) (last_false n (told end_told_by before) (record { number = m; res = res; bytes = bytes }) none) ∙ prior
not_taken n _ t before none prior = prior

none_taken : (n : ℕ) (h : History) → list_any (is_of n) (told end_told_by h) ≡ false
    → effect_of (at_finishes h) n ≡ None
none_taken n [] none = refl
none_taken n (e ∷ before) none =
    not_taken n e (at_finishes before) before none (none_taken n before (left_false n (told end_told_by before) (end_told_by e) none))

running_free : (g : Setup) (h : History) (n : ℕ) → IsLawfulApart g h
    → is_running (world g h).requests n ≡ true → effect_of (at_finishes h) n ≡ None
running_free g h n lawful running =
    let idle : has_ended (world g h).requests n ≡ false = not-true _ (and_parts _ _ running).1 in
    none_taken n h (ap (λ (l : List Ending). list_any (is_of n) l) (sym (own_requests g h lawful).ended) ∙ idle)

-- ---- the timeline is timely

ended_running : (files : List FileContents) (r : Requests) (n : ℕ) (running : Bool) (o : Outcome)
    → EndsOn files r n running (answer.Ended o.res o.bytes)
    → (running ≡ true) × IsOutcome files (operation_of (entry_of r n)) o
ended_running files r n true o called = (refl, called)
ended_running files r n false o called = absurd cc

timely_more : (g : Setup) (e : Event) (before : History) → IsLawfulApart g before
    → CalledFor g (world g before) e.0 e.1 → IsTimely g (at_finishes before)
    → EndsAsTaken (with_taken e (at_finishes before)) e × IsTimely g (with_taken e (at_finishes before))
timely_more g (step.Finish n, answer.Ended res bytes) before apart called prior =
    let o : Outcome = record { res = res; bytes = bytes } in
    let t : Timeline = at_finishes before in
    let called_so = ended_running (files_of g (world g before)) (world g before).requests n (is_running (world g before).requests n) o called in
    let files : files_of g (world g before) ≡ files_left (first_files g) (effects_in g t) = files_by_operations g before apart ∙ ap (λ (l : List Done). files_left (first_files g) l) (sym (effects g before)) in (
      ap (λ (b : Bool). if b then Some o else effect_of t n) (eq-eqb n n refl),
      (
        record {
          runs = subst (λ (h : History). is_running (world g h).requests n ≡ true) (sym (made before)) called_so.0;
          first = running_free g before n apart called_so.0;
          gives = subst (λ (h : History). IsOutcome (files_left (first_files g) (effects_in g t)) (operation_of (entry_of (world g h).requests n)) o) (sym (made before)) (subst (λ (fs : List FileContents). IsOutcome fs (operation_of (entry_of (world g before).requests n)) o) files called_so.1);
        },
        prior,
      ),
    )
timely_more g _ before apart called prior = (tt, prior)

timely : (g : Setup) (h : History) → IsLawful g h → IsTimely g (at_finishes h)
timely g [] lawful = tt
timely g ((s, a) ∷ before) lawful =
    timely_more g (s, a) before (lawful_apart g before lawful.1) lawful.0 (timely g before lawful.1)

pub early_effects_allow_more : (g : Setup) (h : History) → IsLawful g h → IsLawfulEarly g h
early_effects_allow_more g h lawful = record {
  lawful = lawful_apart g h lawful;
  timeline = at_finishes h;
  made = made h;
  timely = timely g h lawful;
}
