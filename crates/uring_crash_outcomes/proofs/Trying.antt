-- What a trial has made after a move: the run stands as the moves lead, and each log is what they make of it.
use Rattle.std.proofs.Common.{◌≡◌, ℕ, ◌+◌, ◌<◌, ℤ, Bool, true, false, not, ◌&&◌, ◌||◌, ◌==◌, List, [], ◌∷◌, ◌++◌, length, take, drop, get_or, map, Option, Some, None, Result, Ok, Err, if◌then◌else◌, refl, sym, subst, ap, ap₂, ◌∙◌}
use Rattle.uring_crash_outcomes.proofs.Common.{HasMade, HasTried, IfOk, IfSome, IsForFiles, Log, MadeAs, Moment, Move, Op, Requests, Setup, Sqe, StandsAt, after_moves, begun, begun_of, called_in, cancel_result, doomed_result, ended_at_once, entry_of, finished_of, first_files, has_ended, has_started, is_cancel, is_doomed, is_issuable, is_outstanding, is_ready, is_running, issued, log_along, log_moved, logs_after, logs_on, map_alike, map_same, map_twice, moved, operation_of, operation_running, option_and_then, started, starting, take-append-drop, take_more, with_issued_end}
use Rattle.std.proofs.lemmas.Bool.{and_parts, or_left, or_right, eq-eqb}
use Rattle.std.proofs.lemmas.List.Folds.{list_any-append}
use Rattle.uring_outcomes.specs.declared.move_of_calls.Move.TheVariants as move
use Rattle.uring_outcomes.proofs.MovesLead.{one_move_more}
use Rattle.uring_outcomes.proofs.Moving.{issue_can, finish_can, finishable_tells}
use Rattle.uring_outcomes.specs.declared.run.Run.{Run}
use Rattle.uring_outcomes.proofs.Replaying.{IsMade, made_tells, not_made_tells}
use Rattle.uring_outcomes.proofs.RunSteps.{running_asks}
use Rattle.uring_outcomes.proofs.Covering.{moves_after}
use Rattle.uring_crash_outcomes.proofs.LogMoves.{log_more, runs_now, running_op_is}

-- What an issue makes of a log.

no_more : (b : Bool) → b && false ≡ false
no_more true = refl
no_more false = refl

-- whoever ends as it is issued doesn't run
ended_idle : (r : Requests) (n : ℕ) (res : ℤ) → operation_running (with_issued_end r n res) n ≡ None
ended_idle r n res =
    let q : Requests = with_issued_end r n res in
    let ended : has_ended q n ≡ true = list_any-append (λ e. e.number == n) r.ended _ ∙ or_right (has_ended r n) ((n == n) || false) (or_left (n == n) false (eq-eqb n n refl)) in
    let idle : is_running q n ≡ false = ap (λ b. has_started q n && not b) ended ∙ no_more (has_started q n) in
    ap (λ b. if b then Some (operation_of (entry_of q n)) else None) idle

issue_by : (m : Moment) (n : ℕ) (log : Log) (doomed cancel : Bool) (as_doomed as_cancel : ℤ)
    → is_outstanding m.requests n ≡ true
    → begun_of n (operation_running (if doomed then ended_at_once m n as_doomed else if cancel then ended_at_once m n as_cancel else started m n).requests n) log
    ≡ (if doomed || cancel then log else begun n (operation_of (entry_of m.requests n)) log)
issue_by m n log true cancel as_doomed as_cancel outstanding =
    ap (λ o. begun_of n o log) (ended_idle m.requests n as_doomed)
issue_by m n log false true as_doomed as_cancel outstanding =
    ap (λ o. begun_of n o log) (ended_idle m.requests n as_cancel)
issue_by m n log false false as_doomed as_cancel outstanding =
    ap (λ o. begun_of n o log) (running_op_is (started m n).requests n (runs_now m.requests n outstanding))

-- whoever is issued begins on a log if it runs from then on
pub issue_logs : (m next : Moment) (n : ℕ) (log : Log) → moved m (move.Issue n) ≡ Some next
    → begun_of n (operation_running next.requests n) log ≡ log_moved m (move.Issue n) log
issue_logs m next n log is =
    let r : Requests = m.requests in
    let can : is_issuable r n ≡ true = issue_can m next n is in
    let p = and_parts (is_outstanding r n && not (is_running r n)) (is_doomed r n || is_ready r n) can in
    let q = and_parts (is_outstanding r n) (not (is_running r n)) p.0 in
    let made : Some (issued m n) ≡ Some next = sym (ap (λ b. if b then Some (issued m n) else None) can) ∙ is in
    let same : next ≡ issued m n = cc in
    ap (λ (x : Moment). begun_of n (operation_running x.requests n) log) same
    ∙ issue_by m n log (is_doomed r n) (is_cancel (entry_of r n)) (doomed_result r n) (cancel_result r n) q.0

-- whoever is finished ends there, with the result that its operation calls for
pub finish_logs : (m next : Moment) (n : ℕ) (op : Option Op) (res : ℤ) (log : Log)
    → moved m (move.Finish n) ≡ Some next → op ≡ operation_running m.requests n → res ≡ (called_in m n).res
    → finished_of n op res log ≡ log_moved m (move.Finish n) log
finish_logs m next n op res log is asked called =
    let runs : is_running m.requests n ≡ true = (finishable_tells m.requests n (finish_can m next n is)).1 in
    ap₂ (λ o x. finished_of n o x log) (asked ∙ running_op_is m.requests n runs) called

-- A move more.

-- all logs, after one move more
logs_on_by : (unit : ℕ) (g : Setup) (calls : List (List Sqe)) (moves : List Move) (m next : Moment) (x : Move) (f : Log → Log) (old new : List Log)
    → after_moves (starting g calls) moves ≡ Some m → moved m x ≡ Some next
    → old ≡ logs_after unit g calls moves → new ≡ map f old
    → ((log : Log) → f log ≡ log_moved m x log)
    → new ≡ logs_after unit g calls (moves ++ x ∷ [])
logs_on_by unit g calls moves m next x f old new leads is logs noted each =
    let first : List Log = logs_on unit 0 (first_files g.files []) in
    noted ∙ ap (map f) logs ∙ map_twice f (log_along moves (starting g calls)) first
    ∙ map_alike (λ log. f (log_along moves (starting g calls) log)) (log_along (moves ++ x ∷ []) (starting g calls)) first
    (λ log. each (log_along moves (starting g calls) log) ∙ sym (log_more moves (starting g calls) m next x log leads is))

-- a move that wasn't made
pub not_tried : (unit : ℕ) (g : Setup) (calls : List (List Sqe)) (moves : List Move) (x : Move) (old new : Run) (logs after : List Log) (h : HasMade unit g calls moves old logs)
    → MadeAs false (moved h.last x) (StandsAt calls new)
    → HasTried unit g calls (moves ++ x ∷ []) false new after
not_tried unit g calls moves x old new logs after h made = record {
  made = λ is. absurd cc;
  stopped = λ is. one_move_more moves (starting g calls) x ∙ (ap (option_and_then (λ z. moved z x)) h.leads ∙ not_made_tells (StandsAt calls new) (moved h.last x) made);
}

-- the trial, by what the run and the logs are
pub tried : (unit : ℕ) (g : Setup) (calls : List (List Sqe)) (moves : List Move) (x : Move) (f : Log → Log) (old new : Run) (logs after : List Log) (made : Bool) (h : HasMade unit g calls moves old logs)
    → MadeAs made (moved h.last x) (StandsAt calls new)
    → (made ≡ true → after ≡ map f logs)
    → ((next : Moment) → moved h.last x ≡ Some next → (log : Log) → f log ≡ log_moved h.last x log)
    → HasTried unit g calls (moves ++ x ∷ []) made new after
tried unit g calls moves x f old new logs after true h made noted each =
    let t = made_tells (StandsAt calls new) (moved h.last x) made in record {
      made = λ is. record {
        last = t.next;
        leads = one_move_more moves (starting g calls) x ∙ (ap (option_and_then (λ z. moved z x)) h.leads ∙ t.is);
        at = t.so;
        are = logs_on_by unit g calls moves h.last t.next x f logs after h.leads t.is h.are (noted is) (each t.next t.is);
      };
      stopped = λ is. absurd cc;
    }
tried unit g calls moves x f old new logs after false h made noted each =
    not_tried unit g calls moves x old new logs after h made

-- At the beginning, and along a path.

-- a new trial has made no move
pub has_made_none : (unit : ℕ) (g : Setup) (calls : List (List Sqe)) (run : Run) (logs : List Log)
    → StandsAt calls run (starting g calls) → logs ≡ logs_on unit 0 (first_files g.files [])
    → HasMade unit g calls [] run logs
has_made_none unit g calls run logs at are = record {
  last = starting g calls;
  leads = refl;
  at = at;
  are = are ∙ map_same (λ log. log) (logs_on unit 0 (first_files g.files [])) (λ log. refl);
}

-- one move of a path more
pub made_on : (unit : ℕ) (g : Setup) (calls : List (List Sqe)) (path : List Move) (k : ℕ) (d : Move) (run : Run) (logs : List Log) (made : Bool)
    → k < length path → made ≡ true → HasTried unit g calls (take k path ++ get_or path k d ∷ []) made run logs
    → HasMade unit g calls (take (k + 1) path) run logs
made_on unit g calls path k d run logs made low is tried =
    subst (λ ms. HasMade unit g calls ms run logs) (sym (take_more path k d low)) (tried.made is)

-- a path whose next move can't be made
pub stopped_on : (unit : ℕ) (g : Setup) (calls : List (List Sqe)) (path : List Move) (k : ℕ) (d : Move) (run : Run) (logs : List Log) (made : Bool)
    → k < length path → made ≡ false → HasTried unit g calls (take k path ++ get_or path k d ∷ []) made run logs
    → HasTried unit g calls path false run logs
stopped_on unit g calls path k d run logs made low is tried =
    let start : Moment = starting g calls in
    let none : after_moves start (take (k + 1) path) ≡ None = ap (after_moves start) (take_more path k d low) ∙ tried.stopped is in
    record {
      made = λ is. absurd cc;
      stopped = λ is. ap (after_moves start) (sym (take-append-drop (k + 1) path)) ∙ (moves_after (take (k + 1) path) (drop (k + 1) path) start ∙ ap (option_and_then (λ y. after_moves y (drop (k + 1) path))) none);
    }

-- a path that was made to its end
pub made_all : (unit : ℕ) (g : Setup) (calls : List (List Sqe)) (path : List Move) (run : Run) (logs : List Log)
    → HasMade unit g calls path run logs → HasTried unit g calls path true run logs
made_all unit g calls path run logs h = record { made = λ is. h; stopped = λ is. absurd cc }

-- What a trial is asked for.

-- what runs is asked of files
pub asks_all : (calls : List (List Sqe)) (run : Run) (n : ℕ) (op : Option Op) (m : Moment) → StandsAt calls run m
    → op ≡ operation_running m.requests n → IfSome op IsForFiles
asks_all calls run n None m at is = tt
asks_all calls run n (Some op) m at is = running_asks calls run n op m at is

-- the run once a move was made
pub stands_made : (calls : List (List Sqe)) (new : Run) (x : Move) (made : Bool) (s : Moment) → made ≡ true
    → MadeAs made (moved s x) (StandsAt calls new) → IsMade (StandsAt calls new) (moved s x)
stands_made calls new x made s is so =
    made_tells (StandsAt calls new) (moved s x) (subst (λ b. MadeAs b (moved s x) (StandsAt calls new)) is so)

pub if_ok_then : {T E : Type 0} (r : Result T E) (P Q : T → Type 0) → ((x : T) → P x → Q x) → IfOk r P → IfOk r Q
if_ok_then (Ok x) P Q f p = f x p
if_ok_then (Err e) P Q f p = tt
