-- What holds of the course of every request, whatever happens. io_uring(7), but where our own rule is named.
use Rattle.std.specs.Prelude.{◌≡◌, ℕ, ℤ, ◌+◌, ◌≤◌, true, false, Some, None, ◌⊎◌, List, [], ◌∷◌, ◌++◌}
use Rattle.uring_operations.specs.declared.requests.act.Fact.{Fact}
use Rattle.uring_operations.specs.declared.requests.act.Fact.TheVariants.{Tried, Waits, WentOn, Done}
use Rattle.uring_operations.specs.declared.requests.act.Act.TheVariants.{Nothing, CarryOut, End}
use Rattle.uring_operations.specs.Requests.Courses.{has_started, has_ended, is_cancelled, result, moved, by_cancel, act, fits, is_run}

-- an operation is to be carried out only if the core let its request start, which hasn't ended, and which no cancel has found
abbrev pub CarriesOutWhatRuns : Type 0
CarriesOutWhatRuns = (log : List Fact) → act log ≡ CarryOut
    → (has_started log ≡ true) × (has_ended log ≡ false) × (is_cancelled log ≡ false)

-- once it is done, it is never to be carried out again, whatever happens
abbrev pub CarriesOutOnce : Type 0
CarriesOutOnce = (newer earlier : List Fact) (res : ℤ) → act (newer ++ Done res ∷ earlier) ≡ CarryOut → ⊥

-- how often it was tried
abbrev pub tries : List Fact → ℕ
tries [] = 0
tries (Tried ∷ earlier) = tries earlier + 1
tries (_ ∷ earlier) = tries earlier

-- how often that did nothing, or left it going on
abbrev pub returns : List Fact → ℕ
returns [] = 0
returns (Waits _ ∷ earlier) = returns earlier + 1
returns (WentOn ∷ earlier) = returns earlier + 1
returns (_ ∷ earlier) = returns earlier

-- it is tried once, but where a try did nothing or left it going on
abbrev pub TriesOnce : Type 0
TriesOnce = (log : List Fact) → is_run log ≡ true → tries log ≤ returns log + 1

-- after its end nothing is to be done, and nothing happens
abbrev pub EndsForGood : Type 0
EndsForGood = (log : List Fact) → has_ended log ≡ true
    → (act log ≡ Nothing) × ((fact : Fact) → fits log fact ≡ false)

-- it ends with its result; or, if a cancel found it before that was known, with the bytes that it had moved, or -125
abbrev pub EndsWithItsResult : Type 0
EndsWithItsResult = (log : List Fact) (res : ℤ) → act log ≡ End res
    → (result log ≡ Some res) ⊎ ((result log ≡ None) × (is_cancelled log ≡ true) × (res ≡ by_cancel (moved log)))
