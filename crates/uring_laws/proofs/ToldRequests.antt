-- The starts and the ends are those that a history tells.
use Rattle.std.proofs.Common.{◌≡◌, Bool, [], ◌∷◌, refl, arith}
use Rattle.uring_laws.proofs.Common.{Answer, History, IsLawfulApart, cases_Bool, LinuxRequests, Move, Requests, Setup, Step, move_of, requests_of, world}
use Rattle.uring_core.proofs.Moves.{stays, ends_doomed}
use Rattle.uring_laws.specs.Direct.{starts as starts_of, ends}

pub record TellsRequests (h : History) (r : Requests) : Type 0 where
  pub started : starts_of h ≡ r.started
  pub ended : ends h ≡ r.ended

told_kept : (linux : Bool) (h : History) (l : LinuxRequests) (s : Step) (a : Answer) (later : Requests)
    → Move linux l s a later → TellsRequests h l.requests → TellsRequests ((s, a) ∷ h) later
told_kept linux h l s a later (stays _ _ no_start no_end) i = grind arith
told_kept linux h l s a later (ends_doomed n outstanding) i = grind (arith, (cases_Bool linux))
told_kept linux h l s a later _ i = grind arith

pub tells_requests : (g : Setup) (h : History) → IsLawfulApart g h
    → TellsRequests h (world g h).requests
tells_requests g [] lawful = record { started = refl; ended = refl }
tells_requests g ((s, a) ∷ before) lawful =
    told_kept g.linux before (requests_of (world g before)) s a _ (move_of g s a before lawful) (tells_requests g before lawful.1)
