-- What is kept of a request that runs says what has happened to it.
use Rattle.std.proofs.Common.{◌≡◌, ◌≤◌, true, false, not, ◌==◌, List, [], ◌∷◌, refl, arith}
use Rattle.uring_enter.proofs.Common.{Around, Encounter, FoundWaiting, HeardWrite, MissedWrite, RingKnows, Took, WasCancelled, WasSeen, WasUpdated, WouldWait, and_parts, around, eq-eqb, false≢true, found_in, has_to_wait, is_known, is_seen, not-true, seen_in, waited_in}
use Rattle.uring_enter.specs.Waiting.Lookouts.{Happening, have_to_wait, lets_go, makes_ready, moments, releases, renews, rounds}
use Rattle.uring_enter.proofs.Counts.{grows, stays, apart, never}

rounds_begin : (log : List Happening) → 1 ≤ rounds log
rounds_begin [] = omega arith
rounds_begin (h ∷ log) = grows 1 (rounds log) (renews log h) (rounds_begin log)

found_no_later : (log : List Encounter) → found_in log ≤ rounds (around log)
found_no_later [] = omega arith
found_no_later (Around h ∷ log) = grows (found_in log) (rounds (around log)) (renews (around log) h) (found_no_later log)
found_no_later (FoundWaiting ∷ log) = omega arith
found_no_later (WouldWait ∷ log) = found_no_later log
found_no_later (WasCancelled ∷ log) = omega arith
found_no_later (WasUpdated ∷ log) = omega arith
found_no_later (WasSeen _ ∷ log) = found_no_later log
found_no_later (HeardWrite _ _ ∷ log) = omega (arith, found_no_later log)
found_no_later (MissedWrite _ _ ∷ log) = found_no_later log
found_no_later (Took ∷ log) = found_no_later log

pub known : (log : List Encounter) → (found_in log == rounds (around log)) ≡ is_known log
known [] = refl
known (Around h ∷ log) = stays (found_in log) (rounds (around log)) (renews (around log) h) (is_known log) (found_no_later log) (known log)
known (FoundWaiting ∷ log) = eq-eqb (rounds (around log)) (rounds (around log)) refl
known (WouldWait ∷ log) = known log
known (WasCancelled ∷ log) = never (rounds (around log)) (rounds_begin (around log))
known (WasUpdated ∷ log) = never (rounds (around log)) (rounds_begin (around log))
known (WasSeen _ ∷ log) = known log
known (HeardWrite _ _ ∷ log) = apart (found_in log) (rounds (around log)) (found_no_later log)
known (MissedWrite _ _ ∷ log) = known log
known (Took ∷ log) = known log

releases_begin : (log : List Happening) → 1 ≤ releases log
releases_begin [] = omega arith
releases_begin (h ∷ log) = grows 1 (releases log) (lets_go h) (releases_begin log)

waited_no_later : (log : List Encounter) → waited_in log ≤ releases (around log)
waited_no_later [] = omega arith
waited_no_later (Around h ∷ log) = grows (waited_in log) (releases (around log)) (lets_go h) (waited_no_later log)
waited_no_later (FoundWaiting ∷ log) = waited_no_later log
waited_no_later (WouldWait ∷ log) = omega arith
waited_no_later (WasCancelled ∷ log) = waited_no_later log
waited_no_later (WasUpdated ∷ log) = omega arith
waited_no_later (WasSeen _ ∷ log) = waited_no_later log
waited_no_later (HeardWrite _ _ ∷ log) = omega arith
waited_no_later (MissedWrite _ _ ∷ log) = waited_no_later log
waited_no_later (Took ∷ log) = waited_no_later log

pub waits : (log : List Encounter) → (waited_in log == releases (around log)) ≡ has_to_wait log
waits [] = refl
waits (Around h ∷ log) = stays (waited_in log) (releases (around log)) (lets_go h) (has_to_wait log) (waited_no_later log) (waits log)
waits (FoundWaiting ∷ log) = waits log
waits (WouldWait ∷ log) = eq-eqb (releases (around log)) (releases (around log)) refl
waits (WasCancelled ∷ log) = waits log
waits (WasUpdated ∷ log) = never (releases (around log)) (releases_begin (around log))
waits (WasSeen _ ∷ log) = waits log
waits (HeardWrite _ _ ∷ log) = never (releases (around log)) (releases_begin (around log))
waits (MissedWrite _ _ ∷ log) = waits log
waits (Took ∷ log) = waits log

seen_no_later : (log : List Encounter) → seen_in log ≤ moments (around log)
seen_no_later [] = omega arith
seen_no_later (Around h ∷ log) = grows (seen_in log) (moments (around log)) (makes_ready h) (seen_no_later log)
seen_no_later (FoundWaiting ∷ log) = seen_no_later log
seen_no_later (WouldWait ∷ log) = seen_no_later log
seen_no_later (WasCancelled ∷ log) = seen_no_later log
seen_no_later (WasUpdated ∷ log) = seen_no_later log
seen_no_later (WasSeen _ ∷ log) = omega arith
seen_no_later (HeardWrite _ _ ∷ log) = omega (arith, seen_no_later log)
seen_no_later (MissedWrite _ _ ∷ log) = seen_no_later log
seen_no_later (Took ∷ log) = omega arith

pub seen : (log : List Encounter) → (seen_in log == moments (around log)) ≡ is_seen log
seen [] = refl
seen (Around h ∷ log) = stays (seen_in log) (moments (around log)) (makes_ready h) (is_seen log) (seen_no_later log) (seen log)
seen (FoundWaiting ∷ log) = seen log
seen (WouldWait ∷ log) = seen log
seen (WasCancelled ∷ log) = seen log
seen (WasUpdated ∷ log) = seen log
seen (WasSeen _ ∷ log) = eq-eqb (moments (around log)) (moments (around log)) refl
seen (HeardWrite _ _ ∷ log) = apart (seen_in log) (moments (around log)) (seen_no_later log)
seen (MissedWrite _ _ ∷ log) = seen log
seen (Took ∷ log) = eq-eqb (moments (around log)) (moments (around log)) refl

-- what lets none of those go that had to wait leaves the ring knowing of them
through : (h : Happening) (earlier : List Happening) → lets_go h ≡ false → have_to_wait earlier ≡ true → have_to_wait (h ∷ earlier) ≡ true
through h earlier stays is = grind arith

pub ring_knows : RingKnows
ring_knows [] is = absurd (false≢true is)
ring_knows (Around h ∷ log) is =
    let parts = and_parts (not (lets_go h)) (has_to_wait log) is in
    through h (around log) (not-true (lets_go h) parts.0) (ring_knows log parts.1)
ring_knows (FoundWaiting ∷ log) is = ring_knows log is
ring_knows (WouldWait ∷ log) is = refl
ring_knows (WasCancelled ∷ log) is = ring_knows log is
ring_knows (WasUpdated ∷ log) is = absurd (false≢true is)
ring_knows (WasSeen _ ∷ log) is = ring_knows log is
ring_knows (HeardWrite _ _ ∷ log) is = absurd (false≢true is)
ring_knows (MissedWrite _ _ ∷ log) is = ring_knows log is
ring_knows (Took ∷ log) is = ring_knows log is
