-- The laws of `linux.rt`: doomed requests, links, drains and cancels by Linux's rules.
use Rattle.std.proofs.Common.{◌≡◌, ℕ, ◌<◌, ◌==◌, true, [], ◌∷◌, ◌++◌, length, refl, ◌∙◌, arith, false}
use Rattle.uring_laws.proofs.Common.{Answer, CancelledWereDoomed, CancelsDoomNobody, Change, DeferredDontStart, DoomedNeverRun, DoomedStayDoomed, DrainsHold, History, IsLawfulApart, IsStart, LeastFreeGoesOn, LinuxRequests, MembersGoInOrder, Move, Requests, Setup, Step, World, by_linux, change_of, count_none, history_happens, is_deferred, is_in_turn, is_outstanding, least_below_out, move_of, outstanding_tells, refuses, requests_of, sound_of, world}
use Rattle.uring_linux.specs.LinuxRequests.{is_doomed, doomed_result}
use Rattle.uring_core.specs.declared.step.Step.TheVariants as step
use Rattle.uring_linux.proofs.GoingOn.{goes_on_from}
use Rattle.uring_laws.proofs.ToldRequests.{tells_requests}
use Rattle.uring_laws.proofs.Growth.{grows, event_grows, then_grows, lawful_before, IsCut}
use Rattle.uring_laws.proofs.OrderLaws.{result_told, end_there, ended_once, cancelled_doomed, started_so}
use Rattle.uring_laws.proofs.LinuxDrains.{waits_for_none}
use Rattle.uring_laws.proofs.LinuxSound.{turn_first, doom_started, doom_stays, doom_called, linux_sound}

-- The doomed.

pub never_run : (g : Setup) (h : History) → IsLawfulApart (by_linux g) h
    → DoomedNeverRun (by_linux g) h
never_run g h lawful =
    let r : Requests = (world (by_linux g) h).requests in
    let s = linux_sound g h lawful in
    let t = tells_requests (by_linux g) h lawful in
    record {
      never_run = λ n doomed. rw t.started (count_none (λ m. m == n) r.started (grind (arith, s.started_spared, doomed)));
      ends_so = λ k e at doomed. result_told r.ended k e (doomed_result r e.number) (rw t.ended at at) (s.ended_how e.number (end_there r k e (rw t.ended at at)) doomed);
    }

-- who is doomed stays so, event by event
stays_by : (l : LinuxRequests) (s : Step) (a : Answer) (q : Requests) → Move true l s a q → (n : ℕ)
    → n < length l.requests.accepted → IsCut l.requests → is_doomed l.requests n ≡ true
    → is_doomed q n ≡ true
stays_by l s a q h n below cut doomed = grind (arith, doom_called, doom_started, doom_stays)

pub stay_doomed : (g : Setup) → DoomedStayDoomed (by_linux g)
stay_doomed g [] before n lawful within doomed = doomed
stay_doomed g ((s, a) ∷ after) before n lawful within doomed =
    grind (arith, (grows (by_linux g) after before lawful.1), stays_by, (move_of (by_linux g) s a (after ++ before) lawful), sound_of, (stay_doomed g after before n lawful.1 within doomed))

pub were_doomed : (g : Setup) → CancelledWereDoomed (by_linux g)
were_doomed g after before n bytes lawful = grind (arith, lawful_before, cancelled_doomed)

-- Links.

pub in_order : (g : Setup) → MembersGoInOrder (by_linux g)
in_order g after before m n a lawful issued lt joined =
    let l = lawful_before (by_linux g) after ((step.Issue n, a) ∷ before) lawful in
    let more = then_grows _ _ _ (event_grows (by_linux g) (step.Issue n) a before l) (grows (by_linux g) after ((step.Issue n, a) ∷ before) lawful) in
    let change = change_of (by_linux g) (world (by_linux g) before) (step.Issue n) a l.0 in
    ended_once (by_linux g) before m l.1 (grind (arith, change, refuses, outstanding_tells, turn_first, more))

-- Drains.

-- of a request that starts: it was accepted, is spared, in its turn and not deferred
starting : (g : Setup) (w : World) (n : ℕ) (a : Answer) → Change (by_linux g) w (step.Issue n) a
    → IsStart w.requests n a
    → (n < length w.requests.accepted) × (is_in_turn w.requests n ≡ true) × (is_doomed w.requests n ≡ false) × (is_deferred (requests_of w) n ≡ false)
starting g w n a change start = grind (arith, started_so)

pub not_deferred : (g : Setup) → DeferredDontStart (by_linux g)
not_deferred g after before n a lawful start = grind (arith, lawful_before, starting)

pub drains_hold : (g : Setup) → DrainsHold (by_linux g)
drains_hold g after before m n a lawful start lt waits =
    let l = lawful_before (by_linux g) after ((step.Issue n, a) ∷ before) lawful in
    let at = starting g (world (by_linux g) before) n a (change_of (by_linux g) (world (by_linux g) before) (step.Issue n) a l.0) start in
    let first = turn_first (world (by_linux g) before).requests n at.1 in
    let so = history_happens g before l.1 in
    ended_once (by_linux g) before m l.1 (grind (arith, at, first, so, (waits_for_none so.happened so.may n m)))

-- Nothing waits for ever.

pub free_goes : (g : Setup) → LeastFreeGoesOn (by_linux g)
free_goes g h n lawful outstanding =
    let so = history_happens g h lawful in
    grind (arith, (least_below_out (is_outstanding (world (by_linux g) h).requests)), so, (λ (m : ℕ). goes_on_from so.happened m so.may))

-- Cancels.

none_by : (l : LinuxRequests) (s : Step) (a : Answer) (q : Requests) → Move true l s a q
    → q.cancelled ≡ l.requests.cancelled
none_by l s a q h = grind arith

pub none_cancelled : (g : Setup) → CancelsDoomNobody (by_linux g)
none_cancelled g [] lawful = refl
none_cancelled g ((s, a) ∷ before) lawful =
    none_by (requests_of (world (by_linux g) before)) s a _ (move_of (by_linux g) s a before lawful) ∙ none_cancelled g before lawful.1
