-- A start changes places with each step that is on the rings, by either's rules: `start_then_rings` and `rings_then_start`.
-- Such a step asks nobody who runs; of the requests it changes at most which are accepted, after all that there are.
use Rattle.std.proofs.Common.{◌≡◌, ℕ, ◌<◌, true, ◌∷◌, length, sym, arith}
use Rattle.uring_laws.proofs.Common.{Answer, CalledFor, Change, IsBetween, IsLawful, IsLawfulApart, IsOnRings, RingsThenStart, Setup, StartThenRings, Step, World, change_of, entries_from, happens, refuses, requests_of, sound_of, world, outstanding_tells, ◌↔◌}
use Rattle.uring_core.proofs.Changes.{takes, drops, closes}
use Rattle.uring_laws.proofs.Growth.{IsCut}
use Rattle.uring_laws.proofs.StartedRequests.{CanStart, can_start, start_called, drains_called_started}
use Rattle.uring_laws.proofs.CalledRequests.{start_kept}
use Rattle.uring_laws.proofs.Turns.{between}
use Rattle.uring_laws.proofs.Swapping.{begun, alike_same}
use Rattle.uring_laws.proofs.WholeLaws.{lawful_apart}

-- called for exactly if it is without the start
called_either : (g : Setup) (w : World) (n : ℕ) (s : Step) (a : Answer) → IsOnRings s
    → (CalledFor g (begun w n) s a → CalledFor g w s a) × (CalledFor g w s a → CalledFor g (begun w n) s a)
called_either g w n s a on = grind arith

-- Both orders make the same.

made_either : (g : Setup) (w : World) (n : ℕ) (s : Step) (a : Answer) → Change g w s a → IsOnRings s
    → happens g (begun w n) s a ≡ begun (happens g w s a) n
made_either g w n s a (refuses _ _ same silent) on = rw (same (begun w n), same w)
made_either g w n s a (takes entry call place opened left at valid) on = rw opened
made_either g w n s a (drops call place opened left at invalid) on = rw opened
made_either g w n s a (closes accepted missed head call opened all told) on =
    rw (opened, drains_called_started g.linux (requests_of w) n (entries_from w.submission call.count))
made_either g w n s a _ on = search

-- Who could start before such a step can start after it, and the other way round.

module _ (g : Setup) (w : World) (n : ℕ) (cut : IsCut w.requests) (so : g.linux ≡ true → IsBetween (requests_of w)) (within : n < length w.requests.accepted) where
  start_either : (s : Step) (a : Answer) → Change g w s a → IsOnRings s
      → CanStart g.linux (requests_of w) n ↔ CanStart g.linux (requests_of (happens g w s a)) n
  start_either s a (refuses _ _ same silent) on = rw (same w) (search)
  start_either s a (takes entry call place opened left at valid) on = rw opened (search)
  start_either s a (drops call place opened left at invalid) on = rw opened (search)
  start_either s a (closes accepted missed head call opened all told) on =
      rw opened (start_kept (requests_of w) _ cut n within g.linux so)
  start_either s a _ on = search

pub start_then_rings : (g : Setup) → StartThenRings g
start_then_rings g h n s a on lawful =
    let w : World = world g h in
    let first : IsLawful g ((s, a) ∷ h) = ((called_either g w n s a on).0 lawful.0, lawful.1.1) in
    let apart : IsLawfulApart g ((s, a) ∷ h) = lawful_apart g ((s, a) ∷ h) first in
    let c : CanStart g.linux (requests_of w) n = can_start g w n lawful.1.0 in
    let later : CanStart g.linux (requests_of (happens g w s a)) n = (start_either g w n (sound_of g h apart.1).requests.cut_at_end (between g h apart.1) (outstanding_tells w.requests n c.outstanding).0 s a (change_of g w s a apart.0) on).0 c in
    record {
      lawful = (start_called g (happens g w s a) n later, first);
      alike = alike_same g _ _ (made_either g w n s a (change_of g w s a apart.0) on);
    }

pub rings_then_start : (g : Setup) → RingsThenStart g
rings_then_start g h n s a on within lawful =
    let w : World = world g h in
    let apart : IsLawfulApart g ((s, a) ∷ h) = lawful_apart g ((s, a) ∷ h) lawful.1 in
    let change = change_of g w s a apart.0 in
    let c : CanStart g.linux (requests_of w) n = (start_either g w n (sound_of g h apart.1).requests.cut_at_end (between g h apart.1) within s a change on).1 (can_start g (happens g w s a) n lawful.0) in
    record {
      lawful = ((called_either g w n s a on).1 lawful.1.0, (start_called g w n c, lawful.1.1));
      alike = alike_same g _ _ (sym (made_either g w n s a change on));
    }
