use Rattle.std.proofs.Common.{◌≡◌, ℤ, Bool, true, false, not, ◌&&◌, ◌||◌, refl}
use Rattle.uring_dispatch.proofs.Common.{Ended, NotReady, Op, Run, Running, Unknown, if◌then◌else◌}
use Rattle.uring_dispatch.specs.Laws.{is_refusal}

refused : (outstanding running doomed ready cancel : Bool) (doom result : ℤ) (op : Op)
    → (outstanding && not running && (doomed || ready))
    ≡ not (is_refusal (if not outstanding then Unknown else if running then Running else if doomed then Ended doom else if not ready then NotReady else if cancel then Ended result else Run op))
refused false running doomed ready cancel doom result op = refl
refused true true doomed ready cancel doom result op = refl
refused true false true ready cancel doom result op = refl
refused true false false false cancel doom result op = refl
refused true false false true true doom result op = refl
refused true false false true false doom result op = refl
