-- The laws of doomed requests, links and drains, by the manual pages' rules; and what these and those of Linux share.
use Rattle.std.proofs.Common.{◌≡◌, ℕ, ◌<◌, ◌==◌, ℤ, neg_ℤ, Bool, true, false, not, ◌&&◌, List, ◌∷◌, ◌++◌, Some, length, slice_get, refl, ◌⊎◌, arith}
use Rattle.uring_laws.proofs.Common.{Answer, Change, ECANCELED, Ending, History, IsEnded, IsLawfulApart, LinuxRequests, Requests, Setup, World, both_ways, by_manual, change_of, count_none, count_some, doomed_result, dooms, eq-eqb, has_ended, has_started, int_eq, is_doomed, list_any, refuses, requests_of, sound_of, times_ended, waited, waits_for, world}
use Rattle.uring_laws.specs.Laws.{DoomedNeverRun, IsStart}
use Rattle.std.proofs.lemmas.Map.Keys.{any_passes_from_place}
use Rattle.uring_rules.specs.Rules as by_rules
use Rattle.uring_core.specs.declared.step.Step.TheVariants as step
use Rattle.uring_core.specs.declared.answer.Answer.TheVariants as answer
use Rattle.uring_laws.proofs.ToldRequests.{tells_requests}
use Rattle.uring_laws.proofs.Growth.{grows, event_grows, then_grows, lawful_before}

-- By either's rules.

-- an end has this result, if none of its request has another
pub result_told : (ended : List Ending) (k : ℕ) (e : Ending) (res : ℤ) → slice_get ended k ≡ Some e
    → list_any (λ x. (x.number == e.number) && not (int_eq x.res res)) ended ≡ false → e.res ≡ res
result_told ended k e res at none = grind (arith, both_ways, any_passes_from_place)

pub end_there : (r : Requests) (k : ℕ) (e : Ending) → slice_get r.ended k ≡ Some e → has_ended r e.number ≡ true
end_there r k e at = any_passes_from_place (λ x. x.number == e.number) r.ended k e at (eq-eqb _ _ refl)

pub ended_once : (g : Setup) (before : History) (m : ℕ) → IsLawfulApart g before
    → has_ended (world g before).requests m ≡ true → times_ended before m ≡ 1
ended_once g before m lawful ended =
    rw (tells_requests g before lawful).ended
    (omega (arith, (sound_of g before lawful).requests.ends_once m, count_some (λ e. e.number == m) (world g before).requests.ended ended))

-- what ends with ECANCELED as it is issued is doomed, since no cancel ends so
pub cancelled_doomed : (g : Setup) (w : World) (n : ℕ) (a : Answer) (bytes : List ℕ)
    → int_eq (by_rules.cancel_result g.linux w.requests n) (neg_ℤ ECANCELED) ≡ false
    → Change g w (step.Issue n) a → a ≡ answer.Ended (neg_ℤ ECANCELED) bytes
    → by_rules.ends_doomed g.linux w.requests n ≡ true
cancelled_doomed g w n a bytes unlike (refuses _ _ same silent) is = grind arith
cancelled_doomed g w n a bytes unlike (dooms _ outstanding idle doomed) is = doomed
cancelled_doomed g w n a bytes unlike _ is = grind arith

-- what is known where an Issue starts its request
pub record Started (linux : Bool) (l : LinuxRequests) (n : ℕ) : Type 0 where
  pub accepted : n < length l.requests.accepted
  pub spared : by_rules.ends_doomed linux l.requests n ≡ false
  pub ready : by_rules.may_start linux l n ≡ true

pub started_so : (g : Setup) (w : World) (n : ℕ) (a : Answer) → Change g w (step.Issue n) a
    → (a ≡ answer.Run) ⊎ (IsEnded a × (by_rules.ends_doomed g.linux w.requests n ≡ false))
    → Started g.linux (requests_of w) n
started_so g w n a change start = grind arith

-- By the manual pages'.

pub never_run : (g : Setup) (h : History) → IsLawfulApart (by_manual g) h → DoomedNeverRun (by_manual g) h
never_run g h lawful =
    let s = (sound_of (by_manual g) h lawful).manual refl in
    let t = tells_requests (by_manual g) h lawful in
    record {
      never_run = λ n doomed. rw t.started (count_none (λ m. m == n) (world (by_manual g) h).requests.started (let e : has_started (world (by_manual g) h).requests n ≡ false = grind arith in e));
      ends_so = λ k e at doomed.
          let there : slice_get (world (by_manual g) h).requests.ended k ≡ Some e = rw t.ended at at in
          grind (arith, (s.ended_how e.number (end_there (world (by_manual g) h).requests k e there)), (result_told (world (by_manual g) h).requests.ended k e (doomed_result (world (by_manual g) h).requests e.number) there));
    }

pub were_doomed : (g : Setup) (after before : History) (n : ℕ) (bytes : List ℕ)
    → IsLawfulApart (by_manual g) (after ++ (step.Issue n, answer.Ended (neg_ℤ ECANCELED) bytes) ∷ before)
    → is_doomed (world (by_manual g) before).requests n ≡ true
were_doomed g after before n bytes lawful = grind (arith, lawful_before, cancelled_doomed)

pub stay_doomed : (g : Setup) (after before : History) (n : ℕ) → IsLawfulApart (by_manual g) (after ++ before)
    → n < length (world (by_manual g) before).requests.accepted → is_doomed (world (by_manual g) before).requests n ≡ true
    → is_doomed (world (by_manual g) (after ++ before)).requests n ≡ true
stay_doomed g after before n lawful within doomed =
    (grows (by_manual g) after before lawful).stays_doomed n within doomed

-- Links and drains.

pub waits : (g : Setup) (after before : History) (m n : ℕ) (a : Answer)
    → IsLawfulApart (by_manual g) (after ++ (step.Issue n, a) ∷ before) → IsStart (world (by_manual g) before).requests n a
    → m < n
    → waits_for (world (by_manual g) (after ++ (step.Issue n, a) ∷ before)).requests n m ≡ true
    → times_ended before m ≡ 1
waits g after before m n a lawful start lt waiting =
    let l = lawful_before (by_manual g) after ((step.Issue n, a) ∷ before) lawful in
    let at = started_so (by_manual g) (world (by_manual g) before) n a (change_of (by_manual g) (world (by_manual g) before) (step.Issue n) a l.0) start in
    let more = then_grows _ _ _ (event_grows (by_manual g) (step.Issue n) a before l) (grows (by_manual g) after ((step.Issue n, a) ∷ before) lawful) in
    ended_once (by_manual g) before m l.1 (waited (world (by_manual g) before).requests n m at.ready lt (grind (arith, at, more)))
