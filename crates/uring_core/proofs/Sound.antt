-- What holds of everything that a lawful history has made.
use Rattle.std.proofs.Common.{◌≡◌, Bool, false, [], ◌∷◌, subst, arith}
use Rattle.uring_core.proofs.Common.{Answer, History, IsLawfulApart, LinuxRequests, Requests, Setup, Step, World, requests_of, world}
use Rattle.uring_core.proofs.Moves.{Move, stays, accepts, starts, ends_doomed, ends_cancel, ends_run, move_of}
use Rattle.uring_core.proofs.SubmissionMoves.{SubmissionMove, stages, takes, drops, closes, submission_move}
use Rattle.uring_core.proofs.CompletionMoves.{CompletionMove, completion_move}
use Rattle.uring_core.proofs.SoundRings.{IsSoundCompletions, IsSoundSubmission, end_sound, reap_sound, stage_sound, store_sound, take_sound, close_sound}
use Rattle.uring_core.proofs.SoundRequests.{IsSoundRequests, IsSoundManual, start_sound, start_manual, outstanding_tells}
use Rattle.uring_core.proofs.ByRules.{starts_right}
use Rattle.uring_core.proofs.RequestEnds.{finish_sound, issued_end_sound, finish_manual, doom_manual, cancel_manual}
use Rattle.uring_core.proofs.Groups.{call_sound, call_manual}

pub record IsSound (g : Setup) (w : World) : Type 0 where
  pub submission : IsSoundSubmission g.sq w.submission
  pub completions : IsSoundCompletions g.cq w.completions
  pub requests : IsSoundRequests w.requests
  pub manual : g.linux ≡ false → IsSoundManual w.requests

-- a change keeps the submission ring sound
submission_kept : (g : Setup) (w : World) (s : Step) (a : Answer) (v : World)
    → SubmissionMove g w s a v → IsSoundSubmission g.sq w.submission
    → IsSoundSubmission g.sq v.submission
submission_kept g w s a v (stages word room) i = stage_sound g.sq w.submission word room i
submission_kept g w s a v (takes entry call place opened left at valid) i = take_sound g.sq w.submission call _ opened left i
submission_kept g w s a v (drops call place opened left at invalid) i = grind arith
submission_kept g w s a v (closes accepted missed head call opened all counted) i =
    close_sound g.sq w.submission call opened i
submission_kept g w s a v _ i = grind (arith, store_sound)

-- a change keeps the completion ring sound
completions_kept : (g : Setup) (w : World) (s : Step) (a : Answer) (v : World)
    → CompletionMove g w s a v → IsSoundCompletions g.cq w.completions
    → IsSoundCompletions g.cq v.completions
completions_kept g w s a v move i = grind (arith, (end_sound g.cq w.completions), (reap_sound g.cq w.completions))

-- a change keeps the requests sound
requests_kept : (linux : Bool) (l : LinuxRequests) (s : Step) (a : Answer) (later : Requests)
    → Move linux l s a later → IsSoundRequests l.requests → IsSoundRequests later
requests_kept linux l s a later (stays _ _ no_start no_end) i = i
requests_kept linux l s a later (accepts accepted missed head entries) i = grind (arith, call_sound)
requests_kept linux l s a later (starts n outstanding idle spared ready no_cancel) i =
    start_sound l.requests n outstanding idle (starts_right linux l n (outstanding_tells l.requests n outstanding).0 spared ready) i
requests_kept linux l s a later (ends_doomed n outstanding) i =
    issued_end_sound linux l.requests n _ outstanding i
requests_kept linux l s a later (ends_cancel n outstanding spared ready cancel) i =
    issued_end_sound linux l.requests n _ outstanding i
requests_kept linux l s a later (ends_run n res bytes running) i = grind (arith, (finish_sound l.requests n res bytes running i))

-- by the manual pages' rules
manual_kept : (l : LinuxRequests) (s : Step) (a : Answer) (later : Requests)
    → Move false l s a later → IsSoundRequests l.requests → IsSoundManual l.requests
    → IsSoundManual later
manual_kept l s a later (stays _ _ no_start no_end) i m = m
manual_kept l s a later (accepts accepted missed head entries) i m = grind (arith, call_manual)
manual_kept l s a later (starts n outstanding idle spared ready no_cancel) i m = grind (arith, start_manual)
manual_kept l s a later (ends_doomed n outstanding) i m = doom_manual l.requests n outstanding m
manual_kept l s a later (ends_cancel n outstanding spared ready cancel) i m = grind (arith, cancel_manual)
manual_kept l s a later (ends_run n res bytes running) i m = grind (arith, finish_manual)

pub sound_of : (g : Setup) (h : History) → IsLawfulApart g h → IsSound g (world g h)
sound_of g [] lawful = grind arith
sound_of g ((s, a) ∷ before) lawful =
    let i = sound_of g before lawful.1 in
    let move = move_of g s a before lawful in
    record {
      submission = submission_kept g (world g before) s a _ (submission_move g s a before lawful) i.submission;
      completions = completions_kept g (world g before) s a _ (completion_move g s a before lawful) i.completions;
      requests = requests_kept g.linux (requests_of (world g before)) s a _ move i.requests;
      manual = λ is. manual_kept (requests_of (world g before)) s a _ (subst (λ linux. Move linux (requests_of (world g before)) s a (world g ((s, a) ∷ before)).requests) is move) i.requests (i.manual is);
    }
