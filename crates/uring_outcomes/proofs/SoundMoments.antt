-- What is so of the requests of each moment that moves lead to: they are sound, and no cancel was started, so that what runs can be asked of files.
-- By cases on the move, from what each event keeps of requests.
use Rattle.std.proofs.Common.{◌≡◌, ℕ, ◌==◌, Bool, true, false, not, ◌&&◌, ◌||◌, nat_lt, List, [], ◌∷◌, length, Option, Some, None, if◌then◌else◌, refl, subst, ap, ◌∙◌, inl, inr}
use Rattle.uring_outcomes.proofs.Common.{IsForFiles, Moment, Move, Requests, Setup, Sqe, accepted, after_moves, and_from, and_parts, both_ways, call_manual, call_sound, cancel_result, doomed_result, ended_at_once, entry_of, eqb-true, false_from_ne_true, fault_of, finished, has_started, is_cancel, is_doomed, is_doomed_own_fault, is_finishable, is_issuable, is_outstanding, is_ready, is_running, issued, moved, no_request, operation_of, option_and_then, result_of, started, starting, unwrap_or, with_call, with_started}
use Rattle.uring_files.proofs.Prepared.{prepared}
use Rattle.uring_core.proofs.Changes.{not_some}
use Rattle.uring_core.proofs.ListCounts.{any_new}
use Rattle.uring_core.proofs.Running.{entry_stays}
use Rattle.uring_core.proofs.SoundRequests.{IsSoundRequests, IsSoundManual, first_requests, first_manual, start_sound, start_manual, outstanding_tells}
use Rattle.uring_core.proofs.RequestEnds.{finish_sound, finish_manual, issued_end_sound, doom_manual, cancel_manual}
use Rattle.uring_outcomes.proofs.MovesLead.{can_of}
use Rattle.uring_outcomes.specs.declared.move_of_calls.Move.TheVariants as move

pub record IsSoundMoment (r : Requests) : Type 0 where
  pub sound : IsSoundRequests r
  pub manual : IsSoundManual r
  pub no_cancel : (n : ℕ) → has_started r n ≡ true → is_cancel (entry_of r n) ≡ false

pub first_moment : IsSoundMoment no_request
first_moment = record {
  sound = first_requests;
  manual = first_manual;
  no_cancel = λ n e. absurd (let f : false ≡ true = e in cc);
}

call_stays_sound : (r : Requests) (entries : List Sqe) → IsSoundMoment r
    → IsSoundMoment (with_call r entries)
call_stays_sound r entries i = record {
  sound = call_sound r entries i.sound.cut_at_end i.sound;
  manual = call_manual r entries i.sound.cut_at_end i.sound i.manual;
  no_cancel = λ n e. ap is_cancel (entry_stays r entries n (i.sound.started_accepted n e)) ∙ i.no_cancel n e;
}

start_stays_sound : (r : Requests) (n : ℕ) → is_outstanding r n ≡ true → is_running r n ≡ false
    → is_doomed r n ≡ false → is_ready r n ≡ true → is_cancel (entry_of r n) ≡ false
    → IsSoundMoment r → IsSoundMoment (with_started r n)
start_stays_sound r n outstanding idle spared ready other i = record {
  sound = start_sound r n outstanding idle (false_from_ne_true _ (λ faulty. both_ways _ spared (is_doomed_own_fault r n (outstanding_tells r n outstanding).0 faulty))) i.sound;
  manual = start_manual r n spared ready i.manual;
  no_cancel = λ m e. elim (any_new (λ k. k == m) r.started n e) [ inl old ↦ i.no_cancel m old | inr new ↦ subst (λ k. is_cancel (entry_of r k) ≡ false) (eqb-true n m new) other ];
}

issued_sound : (m : Moment) (n : ℕ) (running doomed ready cancel : Bool)
    → is_outstanding m.requests n ≡ true
    → is_running m.requests n ≡ running → is_doomed m.requests n ≡ doomed
    → is_ready m.requests n ≡ ready → is_cancel (entry_of m.requests n) ≡ cancel
    → (not running && (doomed || ready)) ≡ true → IsSoundMoment m.requests
    → IsSoundMoment (if doomed then ended_at_once m n (doomed_result m.requests n) else (if cancel then ended_at_once m n (cancel_result m.requests n) else started m n)).requests
issued_sound m n false true ready cancel outstanding idle doomed e f can i =
    record { sound = issued_end_sound false m.requests n (doomed_result m.requests n) outstanding i.sound; manual = doom_manual m.requests n outstanding i.manual; no_cancel = i.no_cancel }
issued_sound m n false false true true outstanding idle spared ready f can i = record {
  sound = issued_end_sound false m.requests n (cancel_result m.requests n) outstanding i.sound;
  manual = cancel_manual m.requests n outstanding spared ready i.manual;
  no_cancel = i.no_cancel;
}
issued_sound m n false false true false outstanding idle spared ready other can i =
    start_stays_sound m.requests n outstanding idle spared ready other i
issued_sound m n false false false cancel outstanding idle spared e f can i = absurd cc
issued_sound m n true doomed ready cancel outstanding running e f h can i = absurd cc

pub one_sound : (m : Moment) (x : Move) (next : Moment) → moved m x ≡ Some next
    → IsSoundMoment m.requests → IsSoundMoment next.requests
one_sound m move.Accept next e i = by_left m.left e where
  by_left : (left : List (List Sqe)) → accepted m left ≡ Some next → IsSoundMoment next.requests
  by_left [] e = absurd cc
  by_left (call ∷ later) e = subst (λ (x : Moment). IsSoundMoment x.requests) (ap (λ o. unwrap_or o next) e) (call_stays_sound m.requests call i)
one_sound m (move.Issue n) next e i =
    let r : Requests = m.requests in
    let c = can_of (is_issuable r n) (issued m n) next e in
    let p = and_parts (is_outstanding r n && not (is_running r n)) (is_doomed r n || is_ready r n) c.0 in
    let q = and_parts (is_outstanding r n) (not (is_running r n)) p.0 in
    subst (λ (x : Moment). IsSoundMoment x.requests) c.1
    (issued_sound m n (is_running r n) (is_doomed r n) (is_ready r n) (is_cancel (entry_of r n)) q.0 refl refl refl refl (and_from (not (is_running r n)) (is_doomed r n || is_ready r n) q.1 p.1) i)
one_sound m (move.Finish n) next e i =
    let r : Requests = m.requests in
    let c = can_of (is_finishable r n) (finished m n) next e in
    let running : is_running r n ≡ true = (and_parts (nat_lt n (length r.accepted)) (is_running r n) c.0).1 in
    let o = result_of m.files (operation_of (entry_of r n)) in
    subst (λ (x : Moment). IsSoundMoment x.requests) c.1
    (record { sound = finish_sound r n o.res o.bytes running i.sound; manual = finish_manual r n o.res o.bytes running i.sound i.manual; no_cancel = i.no_cancel })

-- what each move keeps holds after all of them
pub kept_on : (P : Moment → Type 0) → ((m next : Moment) (x : Move) → P m → moved m x ≡ Some next → P next)
    → (moves : List Move) (m last : Moment) → P m → after_moves m moves ≡ Some last → P last
kept_on P keeps [] m last holds e = subst P (ap (λ o. unwrap_or o last) e) holds
kept_on P keeps (first ∷ later) m last holds e =
    by_first (moved m first) refl e (λ next. kept_on P keeps later next last) where
      by_first : (next : Option Moment) → moved m first ≡ next → option_and_then (λ n. after_moves n later) next ≡ Some last → ((n : Moment) → P n → after_moves n later ≡ Some last → P last) → P last
      by_first None is none go_on = absurd cc
      by_first (Some next) is some go_on = go_on next (keeps m next first holds is) some

pub moment_sound : (g : Setup) (calls : List (List Sqe)) (moves : List Move) (m : Moment)
    → after_moves (starting g calls) moves ≡ Some m → IsSoundMoment m.requests
moment_sound g calls moves m e =
    kept_on (λ (x : Moment). IsSoundMoment x.requests) (λ m next x i is. one_sound m x next is i) moves (starting g calls) m first_moment e

-- what runs can be asked of files
pub asks_files : (r : Requests) (n : ℕ) → IsSoundMoment r → is_running r n ≡ true
    → IsForFiles (operation_of (entry_of r n))
asks_files r n i running =
    let started : has_started r n ≡ true = (and_parts (has_started r n) _ running).0 in
    prepared (entry_of r n) (not_some (fault_of (entry_of r n)) (i.sound.started_right n started)) (i.no_cancel n started)
