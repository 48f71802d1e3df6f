-- The laws of courses.
use Rattle.std.proofs.Common.{◌≡◌, ℕ, ℤ, ◌+◌, ◌≤◌, Bool, true, false, Option, Some, None, List, [], ◌∷◌, ◌++◌, ◌⊎◌, refl, arith}
use Rattle.std.proofs.lemmas.Bool.{and_parts}
use Rattle.uring_operations.specs.declared.requests.act.Fact.{Fact}
use Rattle.uring_operations.specs.declared.requests.act.Fact.TheVariants.{Started, Dropped, Cancelled, Tried, Waits, WentOn, Done, Notified, Ended}
use Rattle.uring_operations.specs.declared.requests.act.Act.TheVariants.{CarryOut, End}
use Rattle.uring_operations.specs.Requests.Courses.{is_cancelled, is_tried, result, moved, by_cancel, end_by, may_go_on, act_by, is_known, fits, is_run}
use Rattle.uring_operations.specs.Requests.CourseLaws.{CarriesOutWhatRuns, CarriesOutOnce, tries, returns, TriesOnce, EndsForGood, EndsWithItsResult}

pub carries_out_what_runs : CarriesOutWhatRuns
carries_out_what_runs log is = grind arith

rests_by : (goes cancelled : Bool) (found : Option ℤ) (so_far : ℤ) → is_known found ≡ true
    → act_by goes (end_by found cancelled so_far) ≡ CarryOut → ⊥
rests_by goes cancelled found so_far known is = grind arith

stays_known : (newer earlier : List Fact) (res : ℤ) → is_known (result (newer ++ Done res ∷ earlier)) ≡ true
stays_known [] earlier res = refl
stays_known (Started ∷ newer) earlier res = stays_known newer earlier res
stays_known (Dropped other ∷ newer) earlier res = refl
stays_known (Cancelled ∷ newer) earlier res = stays_known newer earlier res
stays_known (Tried ∷ newer) earlier res = stays_known newer earlier res
stays_known (Waits so_far ∷ newer) earlier res = stays_known newer earlier res
stays_known (WentOn ∷ newer) earlier res = stays_known newer earlier res
stays_known (Done other ∷ newer) earlier res = refl
stays_known (Notified other ∷ newer) earlier res = refl
stays_known (Ended ∷ newer) earlier res = stays_known newer earlier res

pub carries_out_once : CarriesOutOnce
carries_out_once newer earlier res is = grind (arith, rests_by, stays_known)

pub ends_for_good : EndsForGood
ends_for_good log is = grind arith

ends_by : (goes cancelled : Bool) (found : Option ℤ) (so_far res : ℤ)
    → act_by goes (end_by found cancelled so_far) ≡ End res
    → (found ≡ Some res) ⊎ ((found ≡ None) × (cancelled ≡ true) × (res ≡ by_cancel so_far))
ends_by goes cancelled found so_far res is = grind arith

pub ends_with_its_result : EndsWithItsResult
ends_with_its_result log res is = ends_by (may_go_on log) (is_cancelled log) (result log) (moved log) res is

-- how often it was tried is how often that came to something, and once more while it is being carried out, or is done
record IsCounted (tried known : Bool) (tries returns : ℕ) : Type 0 where
  pub busy : tried ≡ true → tries ≡ returns + 1
  pub idle : tried ≡ false → known ≡ false → tries ≡ returns
  pub most : tries ≤ returns + 1

tried_once_more : (tried known : Bool) (n m : ℕ) → tried ≡ false → known ≡ false → IsCounted tried known n m
    → IsCounted true known (n + 1) m
tried_once_more tried known n m one two before = grind arith

its_result_is_set : (tried known : Bool) (n m : ℕ) → IsCounted tried known n m → IsCounted tried true n m
its_result_is_set tried known n m before = grind arith

counted_of : (log : List Fact) → is_run log ≡ true
    → IsCounted (is_tried log) (is_known (result log)) (tries log) (returns log)
counted_of [] run = grind arith
counted_of (Started ∷ earlier) run = counted_of earlier (and_parts (fits earlier Started) (is_run earlier) run).1
counted_of (Cancelled ∷ earlier) run = counted_of earlier (and_parts (fits earlier Cancelled) (is_run earlier) run).1
counted_of (Ended ∷ earlier) run = counted_of earlier (and_parts (fits earlier Ended) (is_run earlier) run).1
counted_of (Tried ∷ earlier) run =
    grind (arith, tried_once_more, (counted_of earlier (and_parts (fits earlier Tried) (is_run earlier) run).1))
counted_of (Waits so_far ∷ earlier) run =
    grind (arith, (counted_of earlier (and_parts (fits earlier (Waits so_far)) (is_run earlier) run).1))
counted_of (WentOn ∷ earlier) run = grind (arith, (counted_of earlier (and_parts (fits earlier WentOn) (is_run earlier) run).1))
counted_of (Done res ∷ earlier) run =
    grind (arith, (counted_of earlier (and_parts (fits earlier (Done res)) (is_run earlier) run).1))
counted_of (Dropped res ∷ earlier) run =
    grind (arith, its_result_is_set, (counted_of earlier (and_parts (fits earlier (Dropped res)) (is_run earlier) run).1))
counted_of (Notified res ∷ earlier) run =
    grind (arith, (counted_of earlier (and_parts (fits earlier (Notified res)) (is_run earlier) run).1))

pub tries_once : TriesOnce
tries_once log run = (counted_of log run).most
