-- A lawful history of the manual pages' rules that refuses no memory makes moves: each event is a move, or changes nothing of a moment.
-- By cases on `Change`: the close of a call is an accepting, an issue and a finish that isn't refused are moves, and all else is silent.
use Rattle.std.proofs.Common.{◌≡◌, ℕ, ◌+◌, ◌≤◌, ℤ, Bool, true, false, not, ◌&&◌, ◌||◌, nat_lt, List, [], ◌∷◌, ◌++◌, length, take, drop, map, Option, Some, None, if◌then◌else◌, refl, sym, subst, ap, ap₂, ◌∙◌, arith, append_assoc, append-nil}
use Rattle.uring_outcomes.proofs.Common.{Answer, Call, FileContents, History, IsLawful, Moment, Move, Outcome, Published, RefusesNone, Requests, Setup, Sqe, Submission, World, after, after_moves, and_from, and_parts, by_manual, cancel_result, cond-true, doomed_result, drop-map, empty_files, ended_at_once, entries_from, entries_in, entry_of, files_of, finished, happens, is_cancel, is_finishable, is_running, items_in, length-drop, length-map, length-take-le, lt-ltb, map-append, moved, moves_in, no_bytes, operation_of, option_and_then, place_of, places_from, published_items, result_of, starting, take-add, take-append-le, take-map, taken, taking_entry_of, taking_of, with_call, with_event, world}
use Rattle.uring_core.specs.World.{ending_of}
use Rattle.std.proofs.lemmas.List.Sums.{sum_by_push}
use Rattle.uring_core.specs.Core.{IsNoFinish}
use Rattle.uring_core.specs.declared.step.Step.{Step}
use Rattle.uring_core.specs.declared.step.Step.TheVariants as step
use Rattle.uring_core.specs.declared.answer.Answer.TheVariants as answer
use Rattle.uring_core.proofs.Changes.{Change, IsSilent, refuses, stores, takes, drops, closes, runs, dooms, cancels, finishes, change_of}
use Rattle.uring_core.proofs.FileHistory.{files_kept, files_ended}
use Rattle.uring_core.proofs.Sound.{IsSound, sound_of}
use Rattle.uring_core.proofs.SoundRings.{open_count}
use Rattle.uring_laws.proofs.WholeLaws.{lawful_apart}
use Rattle.uring_machine.specs.Machine.{IsUnrefused, finish_answer}
use Rattle.uring_outcomes.specs.declared.move_of_calls.Move.TheVariants as move
use Rattle.uring_outcomes.proofs.ItemLists.{item, entries_back, items_more}
use Rattle.uring_outcomes.proofs.MovesMade.{moment_of, posted_by_end}

-- A world is come to by these moves: some calls were taken, the first of them these, whatever calls are left.
pub record IsCome (g : Setup) (w : World) (files : List FileContents) (moves : List Move) (first : List (List Published)) : Type 0 where
  pub calls : List (List Published)
  pub more : List (List Published)
  pub grows : calls ≡ first ++ more
  pub cut : map length calls ≡ w.submission.calls
  pub items : items_in calls ≡ take (taken w.submission) (published_items w.submission)
  pub leads : (rest : List (List Sqe))
      → after_moves (starting g (map entries_in calls ++ rest)) moves ≡ Some (moment_of w files rest)

-- One move more.

then_moved : (first : Option Moment) (later : List Move) (m : Move)
    → ((y : Moment) → after_moves y (later ++ m ∷ []) ≡ option_and_then (λ z. moved z m) (after_moves y later))
    → option_and_then (λ y. after_moves y (later ++ m ∷ [])) first
    ≡ option_and_then (λ z. moved z m) (option_and_then (λ y. after_moves y later) first)
then_moved first later m next = grind arith

pub one_move_more : (moves : List Move) (x : Moment) (m : Move)
    → after_moves x (moves ++ m ∷ []) ≡ option_and_then (λ z. moved z m) (after_moves x moves)
one_move_more [] x m = grind arith
one_move_more (first ∷ later) x m =
    then_moved (moved x first) later m (λ y. one_move_more later y m)

comes_on : {moves : List Move} {first : List (List Published)} (g : Setup) (w v : World) (files files' : List FileContents) (m : Move) (c : IsCome g w files moves first)
    → v.submission ≡ w.submission
    → ((rest : List (List Sqe)) → moved (moment_of w files rest) m ≡ Some (moment_of v files' rest))
    → IsCome g v files' (moves ++ m ∷ []) c.calls
comes_on {moves} g w v files files' m c same leads = grind (arith, append-nil, one_move_more)

-- What changes nothing of a moment.

still : {moves : List Move} {first : List (List Published)} (g : Setup) (w v : World) (files : List FileContents) → v.requests ≡ w.requests
    → v.completions.posted ≡ w.completions.posted → v.submission.calls ≡ w.submission.calls
    → take (taken v.submission) (published_items v.submission)
    ≡ take (taken w.submission) (published_items w.submission)
    → (c : IsCome g w files moves first) → IsCome g v files moves c.calls
still {moves} g w v files requests posted calls items c = grind (arith, append-nil)

-- A call.

abbrev new_call : World → ℕ → List Published
new_call w count = map item (places_from w.submission count)

call_comes : {moves : List Move} {first : List (List Published)} (g : Setup) (w : World) (files : List FileContents) (call : Call)
    → taken w.submission + call.count ≤ length w.submission.published → (c : IsCome g w files moves first)
    → IsCome g (ending_of g w (Some call)) files (moves ++ move.Accept ∷ []) c.calls
call_comes {moves} g w files call within c =
    let l : Submission = w.submission in
    let new : List Published = new_call w call.count in
    let v : World = ending_of g w (Some call) in
    let many : length new ≡ call.count = length-map (places_from l call.count) item ∙ length-take-le call.count (drop (taken l) l.published) (omega (arith, length-drop (taken l) l.published)) in
    let these : new ≡ take call.count (drop (taken l) (published_items l)) = sym (take-map item call.count (drop (taken l) l.published)) ∙ ap (take call.count) (sym (drop-map item (taken l) l.published)) in
    let entries : entries_in new ≡ entries_from l call.count = entries_back (places_from l call.count) in
    record {
      calls = c.calls ++ new ∷ [];
      more = new ∷ [];
      grows = refl;
      cut = map-append length c.calls (new ∷ []) ∙ ap₂ (λ xs n. xs ++ n ∷ []) c.cut many;
      items =
          items_more c.calls new
          ∙ ap₂ (λ xs ys. xs ++ ys) c.items these
          ∙ sym (take-add (taken l) call.count (published_items l))
          ∙ ap (λ n. take n (published_items l)) (sym (sum_by_push (λ x. x) l.calls call.count));
      leads =
          λ rest.
          ap (λ xs. after_moves (starting g xs) (moves ++ move.Accept ∷ [])) (ap (λ xs. xs ++ rest) (map-append entries_in c.calls (new ∷ [])) ∙ append_assoc (map entries_in c.calls) (entries_in new ∷ []) rest)
          ∙ one_move_more moves (starting g (map entries_in c.calls ++ entries_in new ∷ rest)) move.Accept
          ∙ ap (option_and_then (λ z. moved z move.Accept)) (c.leads (entries_in new ∷ rest))
          ∙ ap (λ es. Some (record { requests = with_call w.requests es; posted = w.completions.posted; files = files; left = rest })) entries;
    }

-- An issue and a finish.

pub can_then : (can : Bool) (x y : Moment) → can ≡ true → x ≡ y → (if can then Some x else None) ≡ Some y
can_then can x y is same = grind arith

pub can_of : (can : Bool) (m next : Moment) → (if can then Some m else None) ≡ Some next
    → (can ≡ true) × (m ≡ next)
can_of can m next e = grind arith

pub issuable_so : (outstanding running doomed ready : Bool) → outstanding ≡ true → running ≡ false
    → (doomed || ready) ≡ true → (outstanding && not running && (doomed || ready)) ≡ true
issuable_so outstanding running doomed ready e f h = grind arith

-- the moment of a request that ended as it was issued
at_once : (g : Setup) (w : World) (n : ℕ) (res : ℤ) (files : List FileContents) (rest : List (List Sqe))
    → ended_at_once (moment_of w files rest) n res
    ≡ moment_of (happens (by_manual g) w (step.Issue n) (answer.Ended res no_bytes)) files rest
at_once g w n res files rest = grind arith

-- the world after a finish that refuses no memory
finish_comes : {moves : List Move} {first : List (List Published)} (g : Setup) (w : World) (n : ℕ) → is_running w.requests n ≡ true → IsSound (by_manual g) w
    → (c : IsCome (by_manual g) w (files_of (by_manual g) w) moves first)
    → IsCome (by_manual g) (happens (by_manual g) w (step.Finish n) (finish_answer (files_of (by_manual g) w) w.requests n)) (files_of (by_manual g) (happens (by_manual g) w (step.Finish n) (finish_answer (files_of (by_manual g) w) w.requests n))) (with_event (step.Finish n) (finish_answer (files_of (by_manual g) w) w.requests n) moves) c.calls
finish_comes {moves} g w n running sound c =
    let r : Requests = w.requests in
    let o : Outcome = result_of (files_of (by_manual g) w) (operation_of (entry_of r n)) in
    let a : Answer = answer.Ended o.res o.bytes in
    let v : World = happens (by_manual g) w (step.Finish n) a in
    let files : List FileContents = after (files_of (by_manual g) w) (operation_of (entry_of r n)) o.res in
    let left : files_of (by_manual g) v ≡ files = files_ended r n o.res o.bytes (empty_files g.files) in
    let accepted : nat_lt n (length r.accepted) ≡ true = lt-ltb n (length r.accepted) (sound.requests.started_accepted n (and_parts _ _ running).0) in
    let there : IsCome (by_manual g) v files (moves ++ move.Finish n ∷ []) c.calls = comes_on (by_manual g) w v (files_of (by_manual g) w) files (move.Finish n) c refl (λ rest. can_then (is_finishable r n) (finished (moment_of w (files_of (by_manual g) w) rest) n) (moment_of v files rest) (and_from _ _ accepted running)
    (ap (λ posted. record { requests = v.requests; posted = posted; files = files; left = rest }) (sym (posted_by_end g.cq w.completions (entry_of r n) o.res o.bytes)))) in
    subst (λ x. IsCome (by_manual g) (happens (by_manual g) w (step.Finish n) x) (files_of (by_manual g) (happens (by_manual g) w (step.Finish n) x)) (with_event (step.Finish n) x moves) c.calls) (ap (λ b. if b then a else answer.NotRunning) (sym running)) (subst (λ fs. IsCome (by_manual g) v fs (moves ++ move.Finish n ∷ []) c.calls) (sym left) there)

-- an event that tells nothing makes no move
pub silent_makes_none : (s : Step) (a : Answer) (moves : List Move) → IsSilent (s, a)
    → with_event s a moves ≡ moves
silent_makes_none s a moves q = grind arith

-- one event more
comes : {moves : List Move} {first : List (List Published)} (g : Setup) (w : World) (s : Step) (a : Answer) → Change (by_manual g) w s a → IsSound (by_manual g) w
    → IsUnrefused (by_manual g) w s a → (IsNoFinish s → files_of (by_manual g) (happens (by_manual g) w s a) ≡ files_of (by_manual g) w)
    → (c : IsCome (by_manual g) w (files_of (by_manual g) w) moves first)
    → IsCome (by_manual g) (happens (by_manual g) w s a) (files_of (by_manual g) (happens (by_manual g) w s a)) (with_event s a moves) c.calls
comes {moves} g w s a (refuses _ _ same silent) sound unrefused kept c =
    subst (λ ms. IsCome (by_manual g) (happens (by_manual g) w s a) (files_of (by_manual g) (happens (by_manual g) w s a)) ms c.calls) (sym (silent_makes_none s a moves silent)) (subst (λ v. IsCome (by_manual g) v (files_of (by_manual g) v) moves c.calls) (sym (same w)) (still (by_manual g) w w (files_of (by_manual g) w) refl refl refl refl c))
comes g w s a (stores tail) sound unrefused kept c =
    let l : Submission = w.submission in
    still (by_manual g) w (happens (by_manual g) w step.StoreTail (answer.Tail tail)) (files_of (by_manual g) w) refl refl refl
    (ap (take (taken l)) (map-append item l.published (map (place_of g.sq l.content) l.fresh)) ∙ take-append-le (taken l) (map item l.published) (map item (map (place_of g.sq l.content) l.fresh)) (omega (arith, sound.submission.call_published, length-map l.published item)))
    c
comes {moves} g w s a (takes entry call place opened left at valid) sound unrefused kept c =
    subst (λ o. IsCome (by_manual g) (taking_entry_of (by_manual g) w entry o) (files_of (by_manual g) (taking_entry_of (by_manual g) w entry o)) moves c.calls) (sym opened) (still (by_manual g) w (taking_entry_of (by_manual g) w entry (Some call)) (files_of (by_manual g) w) refl refl refl refl c)
comes {moves} g w s a (drops call place opened left at invalid) sound unrefused kept c =
    subst (λ o. IsCome (by_manual g) (taking_of (by_manual g) w o) (files_of (by_manual g) (taking_of (by_manual g) w o)) moves c.calls) (sym opened) (still (by_manual g) w (taking_of (by_manual g) w (Some call)) (files_of (by_manual g) w) refl refl refl refl c)
comes {moves} g w s a (closes accepted missed head call opened all counted) sound unrefused kept c =
    let within : taken w.submission + call.count ≤ length w.submission.published = omega (arith, sound.submission.call_published, ap open_count opened) in
    let there : IsCome (by_manual g) (ending_of (by_manual g) w w.submission.call) (files_of (by_manual g) w) (moves ++ move.Accept ∷ []) c.calls = subst (λ o. IsCome (by_manual g) (ending_of (by_manual g) w o) (files_of (by_manual g) w) (moves ++ move.Accept ∷ []) c.calls) (sym opened) (call_comes (by_manual g) w (files_of (by_manual g) w) call within c) in
    subst (λ fs. IsCome (by_manual g) (ending_of (by_manual g) w w.submission.call) fs (moves ++ move.Accept ∷ []) c.calls) (sym (kept tt)) there
comes {moves} g w s a (runs n outstanding idle spared ready no_cancel) sound unrefused kept c =
    let r : Requests = w.requests in
    let v : World = happens (by_manual g) w (step.Issue n) answer.Run in
    subst (λ fs. IsCome (by_manual g) v fs (moves ++ move.Issue n ∷ []) c.calls) (sym (kept tt)) (comes_on (by_manual g) w v (files_of (by_manual g) w) (files_of (by_manual g) w) (move.Issue n) c refl (λ rest. rw (outstanding, idle, spared, ready, no_cancel)))
comes {moves} g w s a (dooms n outstanding idle doomed) sound unrefused kept c =
    let r : Requests = w.requests in
    let v : World = happens (by_manual g) w (step.Issue n) (answer.Ended (doomed_result r n) no_bytes) in
    subst (λ fs. IsCome (by_manual g) v fs (moves ++ move.Issue n ∷ []) c.calls) (sym (kept tt)) (comes_on (by_manual g) w v (files_of (by_manual g) w) (files_of (by_manual g) w) (move.Issue n) c refl (λ rest. rw (outstanding, idle, doomed) (ap (λ z. Some z) (at_once g w n (doomed_result r n) (files_of (by_manual g) w) rest))))
comes {moves} g w s a (cancels n outstanding idle spared ready cancel) sound unrefused kept c =
    let r : Requests = w.requests in
    let v : World = happens (by_manual g) w (step.Issue n) (answer.Ended (cancel_result r n) no_bytes) in
    subst (λ fs. IsCome (by_manual g) v fs (moves ++ move.Issue n ∷ []) c.calls) (sym (kept tt)) (comes_on (by_manual g) w v (files_of (by_manual g) w) (files_of (by_manual g) w) (move.Issue n) c refl (λ rest. rw (outstanding, idle, spared, ready) (ap (λ z. Some z) (cond-true (is_cancel (entry_of r n)) _ _ cancel ∙ at_once g w n (cancel_result r n) (files_of (by_manual g) w) rest))))
comes {moves} g w s a (finishes n res bytes running) sound unrefused kept c =
    subst (λ x. IsCome (by_manual g) (happens (by_manual g) w (step.Finish n) x) (files_of (by_manual g) (happens (by_manual g) w (step.Finish n) x)) (with_event (step.Finish n) x moves) c.calls) (sym unrefused) (finish_comes g w n running sound c)
comes g w s a _ sound unrefused kept c = still (by_manual g) w _ (files_of (by_manual g) w) refl refl refl refl c

-- a world is come to by these moves, whatever calls were the first
pub record HasCome (g : Setup) (h : History) : Type 0 where
  pub first : List (List Published)
  pub come : IsCome g (world g h) (files_of g (world g h)) (moves_in h) first

-- before anything has happened
pub come_at_first : (g : Setup) → HasCome g []
come_at_first g = grind arith

-- one event more, in a history
pub comes_after : (g : Setup) (s : Step) (a : Answer) (before : History) → IsLawful (by_manual g) ((s, a) ∷ before)
    → RefusesNone (by_manual g) ((s, a) ∷ before) → (c : HasCome (by_manual g) before)
    → IsCome (by_manual g) (world (by_manual g) ((s, a) ∷ before)) (files_of (by_manual g) (world (by_manual g) ((s, a) ∷ before))) (moves_in ((s, a) ∷ before)) c.come.calls
comes_after g s a before lawful unrefused c =
    let apart = lawful_apart (by_manual g) ((s, a) ∷ before) lawful in
    comes g (world (by_manual g) before) s a (change_of (by_manual g) (world (by_manual g) before) s a apart.0) (sound_of (by_manual g) before apart.1) unrefused.0 (files_kept (by_manual g) s a before apart) c.come

-- each lawful history that refuses no memory is come to by its moves
pub history_comes : (g : Setup) (h : History) → IsLawful (by_manual g) h → RefusesNone (by_manual g) h
    → HasCome (by_manual g) h
history_comes g [] lawful unrefused = come_at_first (by_manual g)
history_comes g ((s, a) ∷ before) lawful unrefused =
    let c : HasCome (by_manual g) before = history_comes g before lawful.1 unrefused.1 in
    record { first = c.come.calls; come = comes_after g s a before lawful unrefused c }
