-- When the time of a timeout begins and ends, by what has happened to requests, the newest first. io_uring_enter(2), IORING_OP_TIMEOUT and IORING_OP_LINK_TIMEOUT.
use Rattle.std.specs.Prelude.{Bool, true, false, not, ◌&&◌, ◌||◌, ◌==◌, List, [], ◌∷◌, if◌then◌else◌}
use Rattle.uring_operations.specs.declared.chains.member.Member.{Member}
use Rattle.uring_operations.specs.declared.chains.timing.Timing.{Timing}
use Rattle.uring_operations.specs.declared.chains.timing.Timing.TheVariants.{Stays, Begins, Stops}
use Rattle.uring_operations.specs.Chains.Chains.{limits}

pub data Happened : Type 0 where
  -- the core let this request start
  Starts : Member → Happened
  -- a cancel has found it
  IsFound : Member → Happened
  -- it has ended
  Ends : Member → Happened

-- by the start and the end of which request a timeout is timed: its own, or, of a linked one, that of the request which it limits
abbrev pub is_timed_by : Member → Member → Bool
is_timed_by timeout request =
    if timeout.entry.is_linked_timeout then limits timeout request else request.number == timeout.number

-- a cancel has found the timeout
abbrev pub was_found : Member → List Happened → Bool
was_found timeout [] = false
was_found timeout (IsFound request ∷ earlier) = request.number == timeout.number || was_found timeout earlier
was_found timeout (_ ∷ earlier) = was_found timeout earlier

-- whether its time runs: from the start of that request on, but not of a timeout that a cancel has found by then; until that request ends, or the timeout does, or a cancel finds one that isn't linked
abbrev pub runs : Member → List Happened → Bool
runs timeout [] = false
runs timeout (Starts request ∷ earlier) =
    is_timed_by timeout request && (timeout.entry.is_linked_timeout || not (was_found timeout earlier))
    || runs timeout earlier
runs timeout (IsFound request ∷ earlier) =
    runs timeout earlier && (timeout.entry.is_linked_timeout || not (request.number == timeout.number))
runs timeout (Ends request ∷ earlier) =
    runs timeout earlier && not (is_timed_by timeout request || request.number == timeout.number)

-- whether it runs after what is to be done
abbrev pub runs_after : Timing → Bool → Bool
runs_after Stays runs = runs
runs_after Begins _ = true
runs_after Stops _ = false
