-- What is kept of the timeouts of a ring, and what is told of it.
use Rattle.std.proofs.Common.{◌≡◌, ℕ, ◌≤◌, ◌<◌, ◌+◌, min, ℤ, Bool, true, false, ltb, length, take, set, List, [], ◌∷◌, ◌++◌, inl, inr, Option, Some, None, map, filter, refl, sym, ap, subst, arith, ◌∙◌, if◌then◌else◌}
use Rattle.uring_enter.proofs.Common.{AreApart, Changed, EndsNone, Event, HasCounted, HasNone, IsDueOf, IsEarliest, IsNext, IsNextOf, IsRow, MatchOption, Timeout, cases_order, counted_found, due_of, earliest_of, ends_before, has_counted, is_other, is_over, later, leb-false, leb-true, outcome, outcome_at, posted, running, take_more_set, time, with_expiry}
use Rattle.uring_enter.specs.declared.call.wait.WakeSources.{WakeSources}
use Rattle.uring_enter.specs.Call.Waits.{has_any, IsPassing, IsPassingBy, passing_of}

-- whoever doesn't end before another is over no sooner
pub no_sooner : (u t : Timeout) → ends_before u t ≡ false → t.expiry ≤ u.expiry
no_sooner u t after = grind arith

-- the rows, once one more has started
pub started_rows : (rows : List Timeout) (count : ℕ) (x y : Timeout) (kept : List Timeout) → count < length rows
    → take count rows ≡ kept → x ≡ y → take (count + 1) (set rows count x) ≡ kept ++ y ∷ []
started_rows rows count x y kept below is same = grind (arith, take_more_set)

-- the rows, once the time of some was changed
pub changed_rows : (log : List Event) (number more count held expiry now : ℕ) (old new : List Timeout) → count ≡ held
    → take count new ≡ map (with_expiry number expiry) (take count old) → expiry ≡ later now more → now ≡ time log
    → take held old ≡ running log → take held new ≡ running (Changed number more ∷ log)
changed_rows log number more count held expiry now old new same made sum at is = grind arith

-- the rows, once some were taken out
pub taken_rows : (log : List Event) (number count held kept : ℕ) (old new : List Timeout) → count ≡ held
    → take kept new ≡ filter (is_other number) (take count old) → take held old ≡ running log
    → take kept new ≡ filter (is_other number) (running log)
taken_rows log number count held kept old new same made is = grind arith

-- a fact on the first rows, of those that run
pub at_running : (P : List Timeout → Type 0) (log : List Event) (rows : List Timeout) (count held : ℕ)
    → count ≡ held → take held rows ≡ running log → P (take count rows) → P (running log)
at_running P log rows count held same is holds = grind arith

due_by : (log : List Event) (t : Timeout) (b : Bool) → is_over log t ≡ b → IsNext (running log) t
    → IsDueOf log (if b then Some t else None)
due_by log t true is next = (next, is)
due_by log t false is next = λ u among over.
    let late : t.expiry ≤ u.expiry = no_sooner u t (next.1 u among) in
    let not_yet : time log < t.expiry = leb-false t.expiry (time log) is in
    let now : u.expiry ≤ time log = leb-true u.expiry (time log) over in
    omega arith

due_at : (log : List Event) (next : Option Timeout) → IsNextOf (running log) next
    → IsDueOf log (due_of (time log) next)
due_at log next none = grind (arith, due_by)

pub due_is : (log : List Event) (now : ℕ) (next result : Option Timeout) → now ≡ time log
    → IsNextOf (running log) next → result ≡ due_of now next → IsDueOf log result
due_is log now next result same is made = grind (arith, due_at)

earliest_at : (rows : List Timeout) (next : Option Timeout) (limit : Option ℕ) → IsNextOf rows next
    → IsEarliest rows limit (earliest_of next limit)
earliest_at rows None None none = (refl, none)
earliest_at rows None (Some limit) none = grind arith
earliest_at rows (Some t) None next = (
  tt,
  λ u among. no_sooner u t (next.1 u among),
  inr (t, next.0, refl),
)
earliest_at rows (Some t) (Some limit) next = (
  omega arith,
  λ u among. let late : t.expiry ≤ u.expiry = no_sooner u t (next.1 u among) in omega arith,
  elim (cases_order limit t.expiry) [
    | inl same ↦ let is : limit ≡ min limit t.expiry = omega arith in inl (ap (λ (n : ℕ). Some n) is)
    | inr rest ↦ elim rest [
      | inl less ↦ let is : limit ≡ min limit t.expiry = omega arith in inl (ap (λ (n : ℕ). Some n) is)
      | inr more ↦ inr (t, next.0, omega arith)
    ]
  ],
)

pub earliest_is : (rows : List Timeout) (next : Option Timeout) (limit result : Option ℕ) → IsNextOf rows next
    → result ≡ earliest_of next limit → IsEarliest rows limit result
earliest_is rows next limit result is made = grind (arith, earliest_at)

-- the rest that have its number are it
pub none_ends : (log : List Event) (number : ℕ) (t : Timeout) → AreApart (running log) → IsRow number (running log) t
    → outcome log t ≡ None → EndsNone log number
none_ends log number t apart row none u other =
    let same : t ≡ u = apart t u row.0 other.0 (row.1 ∙ sym other.1) in
    let P : Timeout → Type 0 = λ v. outcome log v ≡ None in subst P same none

-- whether one ends by its count
counts_by : (log : List Event) (number : ℕ) (t : Timeout) (counts : Bool) → has_counted log t ≡ counts
    → AreApart (running log) → IsRow number (running log) t → HasCounted log number counts
counts_by log number t counts is apart row = grind arith

counts_among : (log : List Event) (number : ℕ) (found : Option Timeout) → AreApart (running log)
    → MatchOption found (HasNone number (running log)) (IsRow number (running log))
    → HasCounted log number (counted_found (posted log) found)
counts_among log number None apart none = λ u other. absurd (none u other.0 other.1)
counts_among log number (Some t) apart row = counts_by log number t (has_counted log t) refl apart row

pub counts_is : (log : List Event) (number sent : ℕ) (found : Option Timeout) (result : Bool)
    → sent ≡ posted log → AreApart (running log)
    → MatchOption found (HasNone number (running log)) (IsRow number (running log))
    → result ≡ counted_found sent found → HasCounted log number result
counts_is log number sent found result one apart row made = grind (arith, counts_among)

-- a row that was found, and how it ends
pub row_is : (number : ℕ) (rows : List Timeout) (found : Option Timeout) (t : Timeout)
    → MatchOption found (HasNone number rows) (IsRow number rows) → found ≡ Some t → IsRow number rows t
row_is number rows found t row is = grind arith

pub row_is_none : (number : ℕ) (rows : List Timeout) (found : Option Timeout)
    → MatchOption found (HasNone number rows) (IsRow number rows) → found ≡ None → HasNone number rows
row_is_none number rows found row is = grind arith

pub outcome_told : (log : List Event) (t : Timeout) (sent now : ℕ) (told given : Option ℤ) → sent ≡ posted log → now ≡ time log
    → told ≡ outcome_at sent now t → told ≡ given → outcome log t ≡ given
outcome_told log t sent now told given one two made is = grind arith

pub none_runs : (log : List Event) (number : ℕ) → HasNone number (running log) → EndsNone log number
none_runs log number none u other = absurd (none u other.0 other.1)

-- waits
any_of : (count : ℕ) (rows : List Timeout) → count ≤ length rows → has_any (take count rows) ≡ ltb 0 count
any_of count rows within = grind arith

pub any_is : (log : List Event) (count : ℕ) (rows : List Timeout) → count ≤ length rows → take count rows ≡ running log
    → ltb 0 count ≡ has_any (running log)
any_is log count rows within is = sym (any_of count rows within) ∙ ap has_any is

passing_by : (log : List Event) (next : Option Timeout) (real streams : Bool) → IsNextOf (running log) next
    → IsPassingBy real streams log (if real then due_of (time log) next else (if streams then None else next))
passing_by log next real streams is = grind (arith, due_at)

pub passing_is : (log : List Event) (sources : WakeSources) (next : Option Timeout) (now : ℕ) (result : Option Timeout)
    → IsNextOf (running log) next → now ≡ time log → result ≡ passing_of sources now next → IsPassing log sources result
passing_is log sources next now result is same made = grind (arith, passing_by)
