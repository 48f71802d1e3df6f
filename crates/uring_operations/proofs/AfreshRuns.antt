-- The laws of what a cancel by io_uring_register(2) waits for, and of what an update does with a poll.
use Rattle.std.proofs.Common.{◌≡◌, ℤ, Bool, true, false, not, ◌&&◌, Option, Some, None, refl, ap, if◌then◌else◌}
use Rattle.std.proofs.lemmas.Bool.{false≢true, true≢false}
use Rattle.uring_operations.specs.declared.requests.afresh.Awaited.{Awaited}
use Rattle.uring_operations.specs.declared.requests.afresh.Awaited.TheVariants.{NotAwaited, Runs, Waits}
use Rattle.uring_operations.specs.Requests.Courses.{has_started, has_ended, is_cancelled, is_tried, result, moved, end_by, act_by, is_ending}
use Rattle.uring_operations.specs.Requests.Afresh.{EndsAtOnce, AsksWhatWasChanged}

abbrev is_running : Awaited → Bool
is_running Runs = true
is_running _ = false

abbrev is_waiting : Awaited → Bool
is_waiting Waits = true
is_waiting _ = false

abbrev awaited_by : (ended cancelled started may_start : Bool) → Awaited
awaited_by ended cancelled started may_start =
    if ended then NotAwaited else
    if not cancelled then NotAwaited else
    if started then Runs else
    if may_start then Waits else NotAwaited

ends_by : (found : Option ℤ) (so_far : ℤ) → is_ending (act_by true (end_by found true so_far)) ≡ true
ends_by (Some res) so_far = refl
ends_by None so_far = refl

runs_by : (ended cancelled started may_start tried : Bool) (found : Option ℤ) (so_far : ℤ) → tried ≡ false
    → awaited_by ended cancelled started may_start ≡ Runs
    → is_ending (act_by (started && not ended && not tried) (end_by found cancelled so_far)) ≡ true
runs_by false true true may_start false found so_far one is = ends_by found so_far
runs_by false true true may_start true found so_far one is = absurd (true≢false one)
runs_by false true false true tried found so_far one is = absurd (false≢true (ap is_running is))
runs_by false true false false tried found so_far one is = absurd (false≢true (ap is_running is))
runs_by false false started may_start tried found so_far one is = absurd (false≢true (ap is_running is))
runs_by true cancelled started may_start tried found so_far one is = absurd (false≢true (ap is_running is))

waits_by : (ended cancelled started may_start tried : Bool) (found : Option ℤ) (so_far : ℤ) → tried ≡ false
    → awaited_by ended cancelled started may_start ≡ Waits
    → is_ending (act_by (true && not ended && not tried) (end_by found cancelled so_far)) ≡ true
waits_by false true false true false found so_far one is = ends_by found so_far
waits_by false true false true true found so_far one is = absurd (true≢false one)
waits_by false true false false tried found so_far one is = absurd (false≢true (ap is_waiting is))
waits_by false true true may_start tried found so_far one is = absurd (false≢true (ap is_waiting is))
waits_by false false started may_start tried found so_far one is = absurd (false≢true (ap is_waiting is))
waits_by true cancelled started may_start tried found so_far one is = absurd (false≢true (ap is_waiting is))

pub ends_at_once : EndsAtOnce
ends_at_once log may_start one = (
  runs_by (has_ended log) (is_cancelled log) (has_started log) may_start (is_tried log) (result log) (moved log) one,
  waits_by (has_ended log) (is_cancelled log) (has_started log) may_start (is_tried log) (result log) (moved log) one,
)

pub asks_what_was_changed : AsksWhatWasChanged
asks_what_was_changed true is = (refl, refl, refl, refl)
asks_what_was_changed false is = absurd (false≢true is)
