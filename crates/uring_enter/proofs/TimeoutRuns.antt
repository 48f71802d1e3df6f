-- The laws of timeouts.
use Rattle.std.proofs.Common.{◌≡◌, ℕ, ◌≤◌, ◌<◌, ◌-◌, ◌^◌, max, Bool, true, false, eqb, cond, length, get_or, List, [], ◌∷◌, ◌++◌, inl, inr, map, filter, refl, sym, ap, arith, ◌∙◌, if◌then◌else◌}
use Rattle.uring_enter.proofs.Common.{All, All-cons, All-contains, All-contains_itself, All-filter, All-map, All-nil, All-push, All-weaker, AreApart, Changed, Clock, Contains, Contains-append_right, Contains-get_or, Contains-push_cases, Ended, Event, Passed, Posted, Slept, Started, Stopped, Timeout, ends_before, eqb-false, false≢true, filter_passes, get_or-map, is_other, later, length-map, ne_eqb, not_from_false, or_parts, running, started, time, with_expiry}
use Rattle.uring_operations.specs.declared.entries.timeout.Start.{Start}
use Rattle.uring_enter.specs.Time.TimeLaws.{IsRun, WasGiven, EndsInTime, starts, EndsOnce, EndsAlone, RunsApart, is_virtual, PassesNoneOver}

-- what a change of one time makes of what all were given
given_by : (earlier : List Event) (number more : ℕ) (t : Timeout) (b : Bool) → eqb t.number number ≡ b
    → WasGiven earlier t
    → WasGiven (Changed number more ∷ earlier) (if b then record t { expiry = later (time earlier) more; enough = 0 } else t)
given_by earlier number more t b same given = grind arith

given_changed : (earlier : List Event) (number more : ℕ) (t : Timeout) → WasGiven earlier t
    → WasGiven (Changed number more ∷ earlier) (with_expiry number (later (time earlier) more) t)
given_changed earlier number more t given = given_by earlier number more t (eqb t.number number) refl given

all_given : (log : List Event) → All (WasGiven log) (running log)
all_given [] = All-nil (WasGiven [])
all_given (Started s ∷ earlier) =
    All-push (WasGiven (Started s ∷ earlier)) (running earlier) (started earlier s)
    (All-weaker (WasGiven earlier) (WasGiven (Started s ∷ earlier)) (λ t given. inr given) (running earlier) (all_given earlier))
    (inl (refl, refl, refl))
all_given (Changed number more ∷ earlier) =
    All-map (WasGiven (Changed number more ∷ earlier)) (with_expiry number (later (time earlier) more)) (running earlier)
    (All-weaker (WasGiven earlier) (λ t. WasGiven (Changed number more ∷ earlier) (with_expiry number (later (time earlier) more) t)) (λ t given. given_changed earlier number more t given) (running earlier) (all_given earlier))
all_given (Stopped number ∷ earlier) = All-filter (is_other number) (WasGiven earlier) (running earlier) (all_given earlier)
all_given (Ended t ∷ earlier) = All-filter (is_other t.number) (WasGiven earlier) (running earlier) (all_given earlier)
all_given (Posted count ∷ earlier) = all_given earlier
all_given (Clock now ∷ earlier) = all_given earlier
all_given (Slept start stop ∷ earlier) = all_given earlier
all_given (Passed t ∷ earlier) = all_given earlier

pub ends_in_time : EndsInTime
ends_in_time log t run = grind (arith, All-contains, all_given)

-- none of a number runs, nor after events that don't start it
abbrev IsNot : ℕ → Timeout → Type 0
IsNot number t = t.number ≡ number → ⊥

none_after_filter : (number : ℕ) (rows : List Timeout) → All (IsNot number) (filter (is_other number) rows)
none_after_filter number rows = grind (arith, filter_passes)

is_not_by : (number expiry : ℕ) (t : Timeout) (b : Bool) → IsNot number t
    → IsNot number (if b then record t { expiry = expiry; enough = 0 } else t)
is_not_by number expiry t b other = grind arith

changed_is_not : (number changed expiry : ℕ) (t : Timeout) → IsNot number t → IsNot number (with_expiry changed expiry t)
changed_is_not number changed expiry t other = is_not_by number expiry t (eqb t.number changed) other

started_is_not : (log : List Event) (s : Start) (number : ℕ) → eqb s.number number ≡ false → IsNot number (started log s)
started_is_not log s number other = eqb-false s.number number other

none_after : (number : ℕ) (newer earlier : List Event) → starts number newer ≡ false
    → All (IsNot number) (running earlier) → All (IsNot number) (running (newer ++ earlier))
none_after number [] earlier quiet none = none
none_after number (Started s ∷ newer) earlier quiet none =
    let parts = or_parts (eqb s.number number) (starts number newer) quiet in
    All-push (IsNot number) (running (newer ++ earlier)) (started (newer ++ earlier) s)
    (none_after number newer earlier parts.1 none) (started_is_not (newer ++ earlier) s number parts.0)
none_after number (Changed changed more ∷ newer) earlier quiet none =
    let f : Timeout → Timeout = with_expiry changed (later (time (newer ++ earlier)) more) in
    All-map (IsNot number) f (running (newer ++ earlier))
    (All-weaker (IsNot number) (λ t. IsNot number (f t)) (λ t other. changed_is_not number changed (later (time (newer ++ earlier)) more) t other)
    (running (newer ++ earlier)) (none_after number newer earlier quiet none))
none_after number (Stopped stopped ∷ newer) earlier quiet none =
    All-filter (is_other stopped) (IsNot number) (running (newer ++ earlier)) (none_after number newer earlier quiet none)
none_after number (Ended t ∷ newer) earlier quiet none =
    All-filter (is_other t.number) (IsNot number) (running (newer ++ earlier)) (none_after number newer earlier quiet none)
none_after number (Posted count ∷ newer) earlier quiet none = none_after number newer earlier quiet none
none_after number (Clock now ∷ newer) earlier quiet none = none_after number newer earlier quiet none
none_after number (Slept start stop ∷ newer) earlier quiet none = none_after number newer earlier quiet none
none_after number (Passed t ∷ newer) earlier quiet none = none_after number newer earlier quiet none

pub ends_once : EndsOnce
ends_once newer earlier t u quiet runs same = grind (arith, All-contains, none_after, none_after_filter)

-- whoever passes a test is among those that a filter keeps
abbrev Among : (Timeout → Bool) → List Timeout → Timeout → Type 0
Among p kept u = p u ≡ true → Contains kept u

among_more : (p : Timeout → Bool) (x : Timeout) (kept : List Timeout) (b : Bool) (u : Timeout)
    → Among p kept u → Among p (cond b (x ∷ kept) kept) u
among_more p x kept true u among passes = Contains-append_right (x ∷ []) kept u (among passes)
among_more p x kept false u among passes = among passes

among_itself : (p : Timeout → Bool) (x : Timeout) (kept : List Timeout)
    → Among p (cond (p x) (x ∷ kept) kept) x
among_itself p x kept passes = grind arith

all_among : (p : Timeout → Bool) (rows : List Timeout) → All (Among p (filter p rows)) rows
all_among p [] = All-nil (Among p [])
all_among p (x ∷ rows) =
    All-cons (Among p (filter p (x ∷ rows))) x rows (among_itself p x (filter p rows))
    (All-weaker (Among p (filter p rows)) (Among p (filter p (x ∷ rows))) (λ u among. among_more p x (filter p rows) (p x) u among) rows (all_among p rows))

of_filter : (p : Timeout → Bool) (rows : List Timeout) (t : Timeout) → Contains (filter p rows) t → Contains rows t
of_filter p rows t among =
    All-contains (Contains rows) (filter p rows) t (All-filter p (Contains rows) rows (All-contains_itself rows)) among

pub ends_alone : EndsAlone
ends_alone log t u runs other =
    All-contains (Among (is_other t.number) (filter (is_other t.number) (running log))) (running log) u
    (all_among (is_other t.number) (running log)) runs (not_from_false (eqb u.number t.number) (ne_eqb u.number t.number other))

-- what is among those whose time was changed
of_map : (f : Timeout → Timeout) (rows : List Timeout) (t : Timeout) → Contains (map f rows) t
    → (x : Timeout) × Contains rows x × (f x ≡ t)
of_map f rows t among =
    let below : among.0 < length rows = omega (arith, among.1, length-map rows f) in (
      get_or rows among.0 t,
      Contains-get_or rows among.0 t below,
      sym (get_or-map f rows among.0 t t below) ∙ among.2,
    )

kept_by : (expiry : ℕ) (t : Timeout) (b : Bool)
    → (if b then record t { expiry = expiry; enough = 0 } else t).number ≡ t.number
kept_by expiry t b = grind arith

number_kept : (number expiry : ℕ) (t : Timeout) → (with_expiry number expiry t).number ≡ t.number
number_kept number expiry t = kept_by expiry t (eqb t.number number)

apart_filter : (p : Timeout → Bool) (rows : List Timeout) → AreApart rows → AreApart (filter p rows)
apart_filter p rows apart t u first second same = grind (arith, (of_filter p rows t first), (of_filter p rows u second))

apart_changed : (number expiry : ℕ) (rows : List Timeout) → AreApart rows
    → AreApart (map (with_expiry number expiry) rows)
apart_changed number expiry rows apart t u first second same =
    let f : Timeout → Timeout = with_expiry number expiry in
    let from = of_map f rows t first in
    let to = of_map f rows u second in
    let numbers : from.0.number ≡ to.0.number =
    sym (number_kept number expiry from.0) ∙ ap (λ (v : Timeout). v.number) from.2 ∙ same
    ∙ sym (ap (λ (v : Timeout). v.number) to.2) ∙ number_kept number expiry to.0 in
    sym from.2 ∙ ap f (apart from.0 to.0 from.1 to.1 numbers) ∙ to.2

apart_push : (rows : List Timeout) (s : Timeout) → AreApart rows
    → ((t : Timeout) → Contains rows t → t.number ≡ s.number → ⊥) → AreApart (rows ++ s ∷ [])
apart_push rows s apart new t u first second same =
    elim (Contains-push_cases rows s t first) [
      | inl old ↦ elim (Contains-push_cases rows s u second) [
        | inl both ↦ apart t u old both same
        | inr is ↦ absurd (new t old (same ∙ sym (ap (λ (v : Timeout). v.number) is)))
      ]
      | inr is ↦ elim (Contains-push_cases rows s u second) [
        | inl old ↦ absurd (new u old (sym same ∙ sym (ap (λ (v : Timeout). v.number) is)))
        | inr too ↦ sym is ∙ too
      ]
    ]

pub runs_apart : RunsApart
runs_apart [] run = λ t u first second same. absurd (omega (arith, first.1))
runs_apart (Started s ∷ earlier) run =
    apart_push (running earlier) (started earlier s) (runs_apart earlier run.0) run.1
runs_apart (Changed number more ∷ earlier) run =
    apart_changed number (later (time earlier) more) (running earlier) (runs_apart earlier run)
runs_apart (Stopped number ∷ earlier) run = apart_filter (is_other number) (running earlier) (runs_apart earlier run)
runs_apart (Ended t ∷ earlier) run = apart_filter (is_other t.number) (running earlier) (runs_apart earlier run.0)
runs_apart (Posted count ∷ earlier) run = runs_apart earlier run
runs_apart (Clock now ∷ earlier) run = runs_apart earlier run
runs_apart (Slept start stop ∷ earlier) run = runs_apart earlier run
runs_apart (Passed t ∷ earlier) run = runs_apart earlier run.0

-- over at the earliest then, and at the largest time at the latest
record Within (now : ℕ) (t : Timeout) : Type 0 where
  pub low : now ≤ t.expiry
  pub high : t.expiry ≤ 2 ^ 63 - 1

record IsWithin (log : List Event) : Type 0 where
  pub now : time log ≤ 2 ^ 63 - 1
  pub all : All (Within (time log)) (running log)

within_later : (now more : ℕ) → now ≤ 2 ^ 63 - 1 → (t : Timeout) → t.expiry ≡ later now more → Within now t
within_later now more small t is = record { low = omega (arith, is); high = omega (arith, is) }

within_by : (now more : ℕ) → now ≤ 2 ^ 63 - 1 → (t : Timeout) (b : Bool) → Within now t
    → Within now (if b then record t { expiry = later now more; enough = 0 } else t)
within_by now more small t b within = grind arith

within_changed : (now number more : ℕ) → now ≤ 2 ^ 63 - 1 → (t : Timeout) → Within now t
    → Within now (with_expiry number (later now more) t)
within_changed now number more small t within = within_by now more small t (eqb t.number number) within

within_passed : (now : ℕ) (t u : Timeout) → Within now u → ends_before u t ≡ false → Within (max t.expiry now) u
within_passed now t u within after = grind arith

all_within : (log : List Event) → IsRun log → is_virtual log ≡ true → IsWithin log
all_within [] run only = record { now = omega arith; all = All-nil (Within 0) }
all_within (Started s ∷ earlier) run only =
    let before = all_within earlier run.0 only in
    record {
      now = before.now;
      all = All-push (Within (time earlier)) (running earlier) (started earlier s) before.all
          (within_later (time earlier) s.more before.now (started earlier s) refl);
    }
all_within (Changed number more ∷ earlier) run only =
    let before = all_within earlier run only in
    let f : Timeout → Timeout = with_expiry number (later (time earlier) more) in
    record {
      now = before.now;
      all = All-map (Within (time earlier)) f (running earlier)
          (All-weaker (Within (time earlier)) (λ t. Within (time earlier) (f t)) (λ t within. within_changed (time earlier) number more before.now t within) (running earlier) before.all);
    }
all_within (Stopped number ∷ earlier) run only =
    let before = all_within earlier run only in
    record { now = before.now; all = All-filter (is_other number) (Within (time earlier)) (running earlier) before.all }
all_within (Ended t ∷ earlier) run only =
    let before = all_within earlier run.0 only in
    record { now = before.now; all = All-filter (is_other t.number) (Within (time earlier)) (running earlier) before.all }
all_within (Posted count ∷ earlier) run only = grind (arith, (all_within earlier run only))
all_within (Clock now ∷ earlier) run only = absurd (false≢true only)
all_within (Slept start stop ∷ earlier) run only = absurd (false≢true only)
all_within (Passed t ∷ earlier) run only =
    let before = all_within earlier run.0 only in
    let rows = running earlier in
    let first = All-contains (Within (time earlier)) rows t before.all run.1.0 in
    record {
      now = omega (arith, first.high, before.now);
      all = All-weaker (Contains rows) (Within (time (Passed t ∷ earlier)))
          (λ u among. within_passed (time earlier) t u (All-contains (Within (time earlier)) rows u before.all among) (run.1.1 u among))
          rows (All-contains_itself rows);
    }

pub passes_none_over : PassesNoneOver
passes_none_over log run only t runs = grind (arith, all_within)
