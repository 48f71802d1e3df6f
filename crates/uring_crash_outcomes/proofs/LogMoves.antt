-- What a history of the manual pages' rules has made of the log of a file, its moves make of it.
-- By cases on `Change`: a request that starts begins on the log by both, one that is finished ends there, and no other event changes anything.
use Rattle.std.proofs.Common.{◌≡◌, ℕ, ℤ, Bool, true, false, not, ◌||◌, ◌==◌, List, [], ◌∷◌, ◌++◌, map, Option, Some, None, if◌then◌else◌, refl, sym, subst, ap, ap₂, ◌∙◌, append_assoc}
use Rattle.uring_crash_outcomes.proofs.Common.{Log, Moment, Move, Op, Requests, Setup, Sqe, after_moves, begun, begun_of, empty_log, entry_of, finished, finished_of, has_ended, has_started, is_cancel, is_doomed, is_outstanding, is_running, log_along, log_moved, log_of, log_past, logged, map-append, moved, operation_of, operation_running, option_and_then, result_of, starting, unwrap_or, with_started}
use Rattle.std.proofs.lemmas.Bool.{and_parts, and_from, or_left, or_right, eq-eqb}
use Rattle.std.proofs.lemmas.List.Folds.{list_any-append}
use Rattle.uring_entry.specs.declared.operation.Outcome.{Outcome}
use Rattle.uring_core.specs.World.{World, happens}
use Rattle.uring_core.specs.CalledFor.{IsLawful, files_of}
use Rattle.uring_core.specs.Histories.{History, world, by_manual}
use Rattle.uring_core.specs.declared.step.Step.{Step}
use Rattle.uring_core.specs.declared.step.Step.TheVariants as step
use Rattle.uring_core.specs.declared.answer.Answer.{Answer}
use Rattle.uring_core.specs.declared.answer.Answer.TheVariants as answer
use Rattle.uring_core.proofs.Changes.{Change, IsSilent, refuses, closes, runs, dooms, cancels, finishes, change_of}
use Rattle.uring_laws.proofs.WholeLaws.{lawful_apart}
use Rattle.uring_machine.specs.Machine.{IsUnrefused}
use Rattle.uring_outcomes.specs.CallOutcomes.{entries_in, RefusesNone}
use Rattle.uring_outcomes.specs.Recorded.{with_event, moves_in}
use Rattle.uring_outcomes.specs.declared.move_of_calls.Move.TheVariants as move
use Rattle.uring_outcomes.proofs.MovesMade.{moment_of}
use Rattle.uring_outcomes.proofs.MovesLead.{HasCome, come_at_first, comes_after, one_move_more, silent_makes_none}

-- One move more.

unwrapped : (a b : Moment) → Some a ≡ Some b → a ≡ b
unwrapped a b e = ap (λ o. unwrap_or o a) e

pub log_more : (moves : List Move) (m mid next : Moment) (x : Move) (log : Log)
    → after_moves m moves ≡ Some mid → moved mid x ≡ Some next
    → log_along (moves ++ x ∷ []) m log ≡ log_moved mid x (log_along moves m log)
log_more [] m mid next x log e can =
    let same : m ≡ mid = unwrapped m mid e in
    subst (λ n. log_along (x ∷ []) n log ≡ log_moved mid x log) (sym same) (ap (log_past (λ n. log_moved mid x log) log) can)
log_more (first ∷ later) m mid next x log e can =
    by_first (moved m first) (λ n f. log_more later n mid next x (log_moved m first log) f can) e where
      by_first : (o : Option Moment)
          → ((n : Moment) → after_moves n later ≡ Some mid → log_along (later ++ x ∷ []) n (log_moved m first log) ≡ log_moved mid x (log_along later n (log_moved m first log)))
          → option_and_then (λ n. after_moves n later) o ≡ Some mid
          → log_past (λ n. log_along (later ++ x ∷ []) n (log_moved m first log)) log o ≡ log_moved mid x (log_past (λ n. log_along later n (log_moved m first log)) log o)
      by_first None go f = absurd cc
      by_first (Some n) go f = go n f

-- Single events.

-- an event that tells nothing makes nothing of a log
silent_logs_none : (r q : Requests) (s : Step) (a : Answer) (log : Log) → IsSilent (s, a)
    → logged r q s a log ≡ log
silent_logs_none r q (step.Issue n) answer.Run log silent = let starts = silent.starts in absurd cc
silent_logs_none r q (step.Finish n) (answer.Ended res bytes) log silent =
    let ends = silent.ends in absurd cc
silent_logs_none r q s a log silent = refl

-- whoever starts runs
pub runs_now : (r : Requests) (n : ℕ) → is_outstanding r n ≡ true
    → is_running (with_started r n) n ≡ true
runs_now r n outstanding =
    let alive : not (has_ended r n) ≡ true = (and_parts _ (not (has_ended r n)) outstanding).1 in
    let there : has_started (with_started r n) n ≡ true = list_any-append (λ m. m == n) r.started (n ∷ []) ∙ or_right (has_started r n) ((n == n) || false) (or_left (n == n) false (eq-eqb n n refl)) in
    and_from (has_started (with_started r n) n) (not (has_ended r n)) there alive

pub running_op_is : (r : Requests) (n : ℕ) → is_running r n ≡ true
    → operation_running r n ≡ Some (operation_of (entry_of r n))
running_op_is r n is = ap (λ b. if b then Some (operation_of (entry_of r n)) else None) is

-- an issue makes nothing of the log of one that is doomed or a cancel
issue_logs_none : (doomed cancel : Bool) (old new : Log) → (doomed || cancel) ≡ true
    → (if doomed || cancel then old else new) ≡ old
issue_logs_none doomed cancel old new e = ap (λ b. if b then old else new) e

-- the finish answers as its operation calls for
abbrev res_of : Answer → ℤ → ℤ
res_of (answer.Ended res bytes) other = res
res_of a other = other

module _ (g : Setup) (w : World) (moves : List Move) (start : Moment) (rest : List (List Sqe)) (first : Log) (before : after_moves start moves ≡ Some (moment_of w (files_of g w) rest)) where
  -- a move more, which can be made since moves lead on
  by_move : (x : Move) (last : Moment) → after_moves start (moves ++ x ∷ []) ≡ Some last
      → log_along (moves ++ x ∷ []) start first ≡ log_moved (moment_of w (files_of g w) rest) x (log_along moves start first)
  by_move x last leads =
      log_more moves start (moment_of w (files_of g w) rest) last x first before (sym (ap (option_and_then (λ z. moved z x)) before) ∙ sym (one_move_more moves start x) ∙ leads)

  pub event_logs : (s : Step) (a : Answer) (last : Moment) → Change (by_manual g) w s a → IsUnrefused (by_manual g) w s a
      → after_moves start (with_event s a moves) ≡ Some last
      → log_along (with_event s a moves) start first ≡ logged w.requests (happens (by_manual g) w s a).requests s a (log_along moves start first)
  event_logs s a last (refuses _ _ same silent) unrefused leads =
      ap (λ ms. log_along ms start first) (silent_makes_none s a moves silent) ∙ sym (silent_logs_none w.requests (happens (by_manual g) w s a).requests s a (log_along moves start first) silent)
  event_logs s a last (closes accepted missed head call opened all counted) unrefused leads =
      by_move move.Accept last leads
  event_logs s a last (runs n outstanding idle spared ready no_cancel) unrefused leads =
      let r : Requests = w.requests in
      let log : Log = log_along moves start first in
      let op : Op = operation_of (entry_of r n) in
      by_move (move.Issue n) last leads
      ∙ ap₂ (λ (doomed cancel : Bool). if doomed || cancel then log else begun n op log) spared no_cancel
      ∙ sym (ap (λ o. begun_of n o log) (running_op_is (with_started r n) n (runs_now r n outstanding)))
  event_logs s a last (dooms n outstanding idle doomed) unrefused leads =
      let r : Requests = w.requests in
      by_move (move.Issue n) last leads ∙ issue_logs_none (is_doomed r n) (is_cancel (entry_of r n)) _ _ (or_left (is_doomed r n) (is_cancel (entry_of r n)) doomed)
  event_logs s a last (cancels n outstanding idle spared ready cancel) unrefused leads =
      let r : Requests = w.requests in
      by_move (move.Issue n) last leads ∙ issue_logs_none (is_doomed r n) (is_cancel (entry_of r n)) _ _ (or_right (is_doomed r n) (is_cancel (entry_of r n)) cancel)
  event_logs s a last (finishes n res bytes running) unrefused leads =
      let r : Requests = w.requests in
      let log : Log = log_along moves start first in
      let op : Op = operation_of (entry_of r n) in
      let o : Outcome = result_of (files_of g w) op in
      let called : res ≡ o.res = ap (λ x. res_of x res) (unrefused ∙ ap (λ b. if b then answer.Ended o.res o.bytes else answer.NotRunning) running) in
      by_move (move.Finish n) last leads
      ∙ ap (λ x. finished n op x log) (sym called)
      ∙ sym (ap (λ p. finished_of n p res log) (running_op_is r n running))
  event_logs s a last _ unrefused leads = refl

-- Histories.

-- A history is come to by moves, and they make of each log what it has made.
pub record IsTold (g : Setup) (h : History) : Type 0 where
  pub has : HasCome g h
  pub logs : (unit : ℕ) (fd : ℤ) (rest : List (List Sqe))
      → log_along (moves_in h) (starting g (map entries_in has.come.calls ++ rest)) (empty_log unit fd) ≡ log_of unit g fd h

pub told : (g : Setup) (h : History) → IsLawful (by_manual g) h → RefusesNone (by_manual g) h → IsTold (by_manual g) h
told g [] lawful unrefused = record { has = come_at_first (by_manual g); logs = λ unit fd rest. refl }
told g ((s, a) ∷ before) lawful unrefused =
    let t : IsTold (by_manual g) before = told g before lawful.1 unrefused.1 in
    let c = comes_after g s a before lawful unrefused t.has in
    let w : World = world (by_manual g) before in
    let change : Change (by_manual g) w s a = change_of (by_manual g) w s a (lawful_apart (by_manual g) ((s, a) ∷ before) lawful).0 in
    record {
      has = record { first = t.has.come.calls; come = c };
      logs = λ unit fd rest.
          let after : List (List Sqe) = map entries_in c.more ++ rest in
          let same : map entries_in c.calls ++ rest ≡ map entries_in t.has.come.calls ++ after = ap (λ cs. map entries_in cs ++ rest) c.grows ∙ ap (λ xs. xs ++ rest) (map-append entries_in t.has.come.calls c.more) ∙ append_assoc (map entries_in t.has.come.calls) (map entries_in c.more) rest in
          let start : Moment = starting (by_manual g) (map entries_in t.has.come.calls ++ after) in
          let leads : after_moves start (with_event s a (moves_in before)) ≡ Some (moment_of (world (by_manual g) ((s, a) ∷ before)) (files_of (by_manual g) (world (by_manual g) ((s, a) ∷ before))) rest) = subst (λ xs. after_moves (starting (by_manual g) xs) (with_event s a (moves_in before)) ≡ Some (moment_of (world (by_manual g) ((s, a) ∷ before)) (files_of (by_manual g) (world (by_manual g) ((s, a) ∷ before))) rest)) same (c.leads rest) in
          ap (λ xs. log_along (with_event s a (moves_in before)) (starting (by_manual g) xs) (empty_log unit fd)) same
          ∙ event_logs g w (moves_in before) start after (empty_log unit fd) (t.has.come.leads after) s a _ change unrefused.0 leads
          ∙ ap (logged w.requests (happens (by_manual g) w s a).requests s a) (t.logs unit fd after);
    }
