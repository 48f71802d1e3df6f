-- Each list of moves is made by some lawful history of the manual pages' rules: from a world that shows the moment, move by move.
use Rattle.std.proofs.Common.{◌≡◌, ℕ, ◌+◌, ◌-◌, ◌^◌, ◌≤◌, ℤ, Bool, true, false, not, ◌&&◌, ◌||◌, nat_lt, List, [], ◌∷◌, ◌++◌, length, map, Some, None, if◌then◌else◌, refl, sym, subst, ap, ◌∙◌, arith, append_assoc, append-nil}
use Rattle.uring_outcomes.proofs.Common.{All, All-head, All-tail, Answer, FileContents, Moment, Move, Outcome, Published, Requests, Setup, Sqe, Submission, World, after, after_moves, and_parts, bad_word, by_manual, cancel_result, doomed_result, ended_at_once, entries_from, entries_in, entry_of, finished, happens, is_cancel, is_doomed, is_finishable, is_issuable, is_outstanding, is_ready, is_running, issue_answer, issued, items_in, le-ltb, length-append, length-map, map-append, no_bytes, operation_of, option_and_then, posted_with, published_items, result_of, started, taken, with_call, with_entry, with_event}
use Rattle.uring_entry.specs.Completions.{Completions, with_end}
use Rattle.uring_core.specs.declared.step.Step.TheVariants as step
use Rattle.uring_core.specs.declared.answer.Answer.TheVariants as answer
use Rattle.uring_laws.specs.Standing.{Stands, with_item, with_items, after_call}
use Rattle.uring_laws.proofs.Standing.{items_published}
use Rattle.uring_outcomes.specs.MoveLaws.{GoesThrough}
use Rattle.uring_outcomes.specs.declared.move_of_calls.Move.TheVariants as move
use Rattle.uring_outcomes.proofs.ItemLists.{item, items_after, items_more, few_entries}
use Rattle.uring_outcomes.proofs.Reaching.{Reaches, step_on, finish_on, ends_as_called}
use Rattle.uring_outcomes.proofs.CallsTaken.{with_call_published, call_is_taken}

-- the moment that a world shows, with these files and with these calls left
abbrev pub moment_of : World → List FileContents → List (List Sqe) → Moment
moment_of w files left = record {
  requests = w.requests;
  posted = w.completions.posted;
  files = files;
  left = left;
}

-- what an end posts
pub posted_by_end : (size : ℕ) (l : Completions) (entry : Sqe) (res : ℤ) (bytes : List ℕ)
    → (with_end size l entry res bytes).posted ≡ posted_with l.posted entry res bytes
posted_by_end size l entry res bytes = grind arith

-- A world between calls, in which these calls were taken, by these moves: nothing was reaped.
pub record Between (g : Setup) (w : World) (files : List FileContents) (done : List (List Published)) (moves : List Move) : Type 0 where
  pub reaches : Reaches g w files moves
  pub stands : Stands w.submission [] 0
  pub is_open : w.is_closed ≡ false
  pub published : published_items w.submission ≡ items_in done
  pub cut : w.submission.calls ≡ map length done
  pub none_reaped : w.completions.reaped ≡ []
  pub none_stored : w.completions.head ≡ 0

-- A call.

call_made : {moves : List Move} (g : Setup) → g.stops ≡ false → g.linux ≡ false → (w : World) (files : List FileContents) (done : List (List Published)) (call : List Published)
    → Between g w files done moves → GoesThrough g.sq call
    → length w.requests.accepted + length call ≤ 2 ^ 63 - 1
    → Between g (after_call g (with_call_published g w call) (length call)) files (done ++ call ∷ []) (moves ++ move.Accept ∷ [])
    × (entries_from (with_call_published g w call).submission (length call) ≡ entries_in call)
call_made g goes manual w files done call b goes_in room =
    let t = call_is_taken g goes manual w files call b.reaches b.stands b.is_open (le-ltb (2 ^ 63 - 1) (length w.requests.accepted + length call) room) goes_in.few in
    let w2 : World = with_call_published g w call in
    let now : published_items w2.submission ≡ items_in done ++ call = items_published w.submission g.sq call b.stands.fresh goes_in.few goes_in.are_items ∙ ap (λ xs. xs ++ call) b.published in
    let same_calls : w2.submission.calls ≡ w.submission.calls = calls_keep w.submission 0 call in
    let reached : taken w2.submission ≡ length (items_in done) = omega (arith, t.waits.waiting, ap length now, length-append (items_in done) call, length-map w2.submission.published item) in (
      record {
        reaches = t.reaches;
        stands = t.stands;
        is_open = b.is_open;
        published = now ∙ sym (items_more done call);
        cut = ap (λ xs. xs ++ length call ∷ []) (same_calls ∙ b.cut) ∙ sym (map-append length done (call ∷ []));
        none_reaped = b.none_reaped;
        none_stored = b.none_stored;
      },
      items_after w2.submission (items_in done) call now reached,
    ) where
      calls_keep : (l : Submission) (slot : ℕ) (items : List Published) → (with_items l slot items).calls ≡ l.calls
      calls_keep l slot [] = refl
      calls_keep l slot (with_entry entry ∷ later) = calls_keep (with_item l slot (with_entry entry)) (slot + 1) later
      calls_keep l slot (bad_word word ∷ later) = calls_keep (with_item l slot (bad_word word)) (slot + 1) later

-- An issue and a finish: they leave the submission ring and what was reaped as it is.

record Aside (w v : World) : Type 0 where
  submission : v.submission ≡ w.submission
  closed : v.is_closed ≡ w.is_closed
  accepted : v.requests.accepted ≡ w.requests.accepted
  reaped : v.completions.reaped ≡ w.completions.reaped
  stored : v.completions.head ≡ w.completions.head

between_still : {moves moves' : List Move} (g : Setup) (w v : World) (files files' : List FileContents) (done : List (List Published))
    → Between g w files done moves → Aside w v → Reaches g v files' moves'
    → Between g v files' done moves'
between_still g w v files files' done b aside there = grind arith

-- an end reaps none, and stores no head
end_leaves : (size : ℕ) (l : Completions) (entry : Sqe) (res : ℤ) (bytes : List ℕ)
    → ((with_end size l entry res bytes).reaped ≡ l.reaped) × ((with_end size l entry res bytes).head ≡ l.head)
end_leaves size l entry res bytes = grind arith

record IssueMade (g : Setup) (w : World) (n : ℕ) (files : List FileContents) (left : List (List Sqe)) (a : Answer) (next : Moment) : Type 0 where
  not_again : a ≡ answer.Again → ⊥
  moves : (before : List Move) → with_event (step.Issue n) a before ≡ before ++ move.Issue n ∷ []
  shows : moment_of (happens g w (step.Issue n) a) files left ≡ next
  aside : Aside w (happens g w (step.Issue n) a)

ends_at_once : (g : Setup) (w : World) (n : ℕ) (files : List FileContents) (left : List (List Sqe)) (res : ℤ)
    → IssueMade (by_manual g) w n files left (answer.Ended res no_bytes) (ended_at_once (moment_of w files left) n res)
ends_at_once g w n files left res = grind arith

issue_made : (g : Setup) (w : World) (n : ℕ) (files : List FileContents) (left : List (List Sqe)) (outstanding running doomed ready cancel : Bool)
    → (outstanding && not running && (doomed || ready)) ≡ true
    → IssueMade (by_manual g) w n files left
    (if not outstanding then answer.Unknown else (if running then answer.Running else (if doomed then answer.Ended (doomed_result w.requests n) no_bytes else (if not ready then answer.NotReady else (if cancel then answer.Ended (cancel_result w.requests n) no_bytes else answer.Run)))))
    (if doomed then ended_at_once (moment_of w files left) n (doomed_result w.requests n) else (if cancel then ended_at_once (moment_of w files left) n (cancel_result w.requests n) else started (moment_of w files left) n))
issue_made g w n files left true false true ready cancel can =
    ends_at_once g w n files left (doomed_result w.requests n)
issue_made g w n files left true false false true true can = grind arith
issue_made g w n files left true false false true false can = grind arith
issue_made g w n files left _ _ _ _ _ can = absurd cc

-- All moves.

-- a history of these moves that shows the last moment, in which these calls were taken and those are left
pub record Made (g : Setup) (calls : List (List Published)) (last : Moment) (moves : List Move) : Type 0 where
  pub there : World
  pub files : List FileContents
  pub done : List (List Published)
  pub rest : List (List Published)
  pub between : Between g there files done moves
  pub shows : moment_of there files (map entries_in rest) ≡ last
  pub split : done ++ rest ≡ calls

-- these moves are made, wherever they lead from
abbrev AreMade : Setup → List (List Published) → Moment → List Move → Type 0
AreMade g calls last moves =
    (w : World) (files : List FileContents) (done rest : List (List Published)) (before : List Move)
    → done ++ rest ≡ calls → Between g w files done before → All (GoesThrough g.sq) rest
    → length w.requests.accepted + length (items_in rest) ≤ 2 ^ 63 - 1
    → after_moves (moment_of w files (map entries_in rest)) moves ≡ Some last → Made g calls last (before ++ moves)

accept_made : (g : Setup) → g.stops ≡ false → g.linux ≡ false → (calls : List (List Published)) (last : Moment) (later : List Move)
    → AreMade g calls last later → AreMade g calls last (move.Accept ∷ later)
accept_made g goes manual calls last later next w files done [] before split b fit room leads = absurd cc
accept_made g goes manual calls last later next w files done (call ∷ rest) before split b fit room leads =
    let many : length (items_in (call ∷ rest)) ≡ length call + length (items_in rest) = length-append call (items_in rest) in
    let made = call_made g goes manual w files done call b (All-head (GoesThrough g.sq) call rest fit) (omega (arith, room, many)) in
    let w2 : World = with_call_published g w call in
    let v : World = after_call g w2 (length call) in
    let same : length (entries_from w2.submission (length call)) ≡ length (entries_in call) = ap length made.1 in
    let longer : length v.requests.accepted ≡ length w.requests.accepted + length (entries_from w2.submission (length call)) = length-append w.requests.accepted (entries_from w2.submission (length call)) in
    subst (Made g calls last) (append_assoc before (move.Accept ∷ []) later) (next v files (done ++ call ∷ []) rest (before ++ move.Accept ∷ []) (append_assoc done (call ∷ []) rest ∙ split) made.0 (All-tail (GoesThrough g.sq) call rest fit) (omega (arith, room, many, same, longer, few_entries call))
    (subst (λ es. after_moves (record { requests = with_call w.requests es; posted = w.completions.posted; files = files; left = map entries_in rest }) later ≡ Some last) (sym made.1) leads))

issue_step : (g : Setup) (calls : List (List Published)) (last : Moment) (n : ℕ) (later : List Move)
    → AreMade (by_manual g) calls last later → AreMade (by_manual g) calls last (move.Issue n ∷ later)
issue_step g calls last n later next w files done rest before split b fit room leads = by_test (is_issuable w.requests n) refl leads where
  by_test : (can : Bool) → is_issuable w.requests n ≡ can → option_and_then (λ m. after_moves m later) (if can then Some (issued (moment_of w files (map entries_in rest)) n) else None) ≡ Some last → Made (by_manual g) calls last (before ++ move.Issue n ∷ later)
  by_test false is leads = absurd cc
  by_test true is leads =
      let r : Requests = w.requests in
      let a : Answer = issue_answer (by_manual g) w n in
      let v : World = happens (by_manual g) w (step.Issue n) a in
      let m = issue_made g w n files (map entries_in rest) (is_outstanding r n) (is_running r n) (is_doomed r n) (is_ready r n) (is_cancel (entry_of r n)) is in
      let there : Reaches (by_manual g) v files (before ++ move.Issue n ∷ []) = subst (Reaches (by_manual g) v files) (m.moves before) (step_on (by_manual g) w files (step.Issue n) a b.reaches tt refl m.not_again) in
      subst (Made (by_manual g) calls last) (append_assoc before (move.Issue n ∷ []) later) (next v files done rest (before ++ move.Issue n ∷ []) split (between_still (by_manual g) w v files files done b m.aside there) fit
      (subst (λ xs. length xs + length (items_in rest) ≤ 2 ^ 63 - 1) (sym m.aside.accepted) room)
      (subst (λ x. after_moves x later ≡ Some last) (sym m.shows) leads))

finish_step : (g : Setup) (calls : List (List Published)) (last : Moment) (n : ℕ) (later : List Move)
    → AreMade (by_manual g) calls last later → AreMade (by_manual g) calls last (move.Finish n ∷ later)
finish_step g calls last n later next w files done rest before split b fit room leads = by_test (is_finishable w.requests n) refl leads where
  by_test : (can : Bool) → is_finishable w.requests n ≡ can → option_and_then (λ m. after_moves m later) (if can then Some (finished (moment_of w files (map entries_in rest)) n) else None) ≡ Some last → Made (by_manual g) calls last (before ++ move.Finish n ∷ later)
  by_test false is leads = absurd cc
  by_test true is leads =
      let running : is_running w.requests n ≡ true = (and_parts (nat_lt n (length w.requests.accepted)) (is_running w.requests n) is).1 in
      let o : Outcome = result_of files (operation_of (entry_of w.requests n)) in
      let v : World = happens (by_manual g) w (step.Finish n) (ends_as_called files w n) in
      let files' : List FileContents = after files (operation_of (entry_of w.requests n)) o.res in
      let aside : Aside w v = record {
        submission = refl;
        closed = refl;
        accepted = refl;
        reaped = (end_leaves g.cq w.completions (entry_of w.requests n) o.res o.bytes).0;
        stored = (end_leaves g.cq w.completions (entry_of w.requests n) o.res o.bytes).1;
      } in
      let shows : moment_of v files' (map entries_in rest) ≡ finished (moment_of w files (map entries_in rest)) n =
      ap (λ posted. record { requests = v.requests; posted = posted; files = files'; left = map entries_in rest }) (posted_by_end g.cq w.completions (entry_of w.requests n) o.res o.bytes) in
      subst (Made (by_manual g) calls last) (append_assoc before (move.Finish n ∷ []) later) (next v files' done rest (before ++ move.Finish n ∷ []) split (between_still (by_manual g) w v files files' done b aside (finish_on (by_manual g) w files n b.reaches running)) fit room
      (subst (λ x. after_moves x later ≡ Some last) (sym shows) leads))

pub moves_made : (g : Setup) → g.stops ≡ false → (calls : List (List Published)) (last : Moment) (moves : List Move)
    → AreMade (by_manual g) calls last moves
moves_made g goes calls last [] = grind (arith, append-nil)
moves_made g goes calls last (move.Accept ∷ later) = accept_made (by_manual g) goes refl calls last later (moves_made g goes calls last later)
moves_made g goes calls last (move.Issue n ∷ later) = issue_step g calls last n later (moves_made g goes calls last later)
moves_made g goes calls last (move.Finish n ∷ later) = finish_step g calls last n later (moves_made g goes calls last later)
