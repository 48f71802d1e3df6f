-- What the dispatcher answers, and the moves that it makes: `issue_moves`, `accept_moves` and `finish_moves`.
-- What the run stands at after them.
use Rattle.std.proofs.Common.{◌≡◌, ℕ, suc, ◌+◌, ◌<◌, ◌≤◌, neg_ℤ, Bool, true, false, ◌&&◌, nat_le, if◌then◌else◌, List, [], ◌∷◌, length, drop, get_or, Option, Some, None, refl, sym, subst, ap, ◌∙◌, arith}
use Rattle.std.specs.Prelude.{IsSome}
use Rattle.uring_entry.specs.declared.errno.TheConstants.{ENOMEM}
use Rattle.uring_outcomes.proofs.Common.{and_parts, FileContents, Global, IsOutcome, IsOver, IsReached, MadeAs, Moment, Move, Op, Outcome, Requests, Sqe, Vec, accepted, drop-cons, drop_all, ended_at_once, entries_of, entry_of, entry_outstanding, false_from_ne_true, finished, get_or-map, is_finishable, is_issuable, is_outstanding, is_running, issued, le-leb, least_below_some, least_below_tells, leb-true, length-map, moved, operation_of, operation_running, result_of, started, starting, with_call}
use Rattle.uring_dispatch.proofs.Counting.{count_below_some}
use Rattle.uring_dispatch.specs.Issuable.{issuable_from}
use Rattle.uring_dispatch.specs.IssueAndFinish as asked
use Rattle.uring_dispatch.specs.declared.answers.Issued.{Issued}
use Rattle.uring_dispatch.specs.declared.answers.Issued.TheVariants.{Run, Ended, NotReady, Running, Unknown}
use Rattle.uring_outcomes.specs.declared.move_of_calls.Move.TheVariants as move
use Rattle.uring_outcomes.proofs.MovesLead.{one_move_more}
use Rattle.uring_outcomes.proofs.SoundMoments.{IsSoundMoment, moment_sound}

-- What was made.

pub not_made : (P : Moment → Type 0) (o : Option Moment) → o ≡ None → MadeAs false o P
not_made P o is = subst (λ x. MadeAs false x P) (sym is) refl

-- one move after a reached moment
pub reached_on : (calls : List (List Sqe)) (m next : Moment) (x : Move) → IsReached calls m
    → moved m x ≡ Some next → IsReached calls next
reached_on calls m next x r is = grind (arith, (one_move_more r.moves (starting r.setup calls) x))

pub sound_at : (calls : List (List Sqe)) (m : Moment) → IsReached calls m → IsSoundMoment m.requests
sound_at calls m r = moment_sound r.setup calls r.moves m r.leads

-- An issue.

-- the move that an issue with this answer makes
abbrev pub IssueMoves : Moment → ℕ → Issued → Option Moment → Type 0
IssueMoves m n (Run op) o = o ≡ Some (started m n)
IssueMoves m n (Ended res) o = o ≡ Some (ended_at_once m n res)
IssueMoves m n NotReady o = o ≡ None
IssueMoves m n Running o = o ≡ None
IssueMoves m n Unknown o = o ≡ None

pub issue_moves : (m : Moment) (n : ℕ) (a : Issued) → a ≡ asked.issued m.requests n
    → IssueMoves m n a (moved m (move.Issue n))
issue_moves m n a is = grind arith

-- the entry that is told of a request
entry_by : (outstanding : Bool) (e told : Sqe) → Some told ≡ (if outstanding then Some e else None) → told ≡ e
entry_by outstanding e told is = grind arith

pub entry_told : (r : Requests) (n : ℕ) (told : Sqe) → Some told ≡ entry_outstanding r n
    → told ≡ entry_of r n
entry_told r n told is = entry_by (is_outstanding r n) (entry_of r n) told is

-- The next call.

-- the calls that are left, if there is one at this place
pub next_left : (calls : List (Vec Sqe Global)) (m : Moment) (k : ℕ) (call : Vec Sqe Global)
    → m.left ≡ drop k (entries_of calls) → k < length calls → call ≡ get_or calls k call
    → m.left ≡ call.items ∷ drop (k + 1) (entries_of calls)
next_left calls m k call left low is =
    let all : List (List Sqe) = entries_of calls in
    let within : k < length all = omega (arith, length-map calls (λ (v : Vec Sqe Global). v.items)) in
    let there : get_or all k call.items ≡ call.items = get_or-map (λ (v : Vec Sqe Global). v.items) calls k call ∙ ap (λ (v : Vec Sqe Global). v.items) (sym is) in
    let next : suc k ≡ k + 1 = omega arith in
    left ∙ drop-cons all k call.items within ∙ ap (λ e. e ∷ drop (suc k) all) there ∙ ap (λ j. call.items ∷ drop j all) next

pub accept_moves : (calls : List (Vec Sqe Global)) (m : Moment) (k : ℕ) (call : Vec Sqe Global)
    → m.left ≡ drop k (entries_of calls) → k < length calls → call ≡ get_or calls k call
    → moved m move.Accept
    ≡ Some (record m { requests = with_call m.requests call.items; left = drop (k + 1) (entries_of calls) })
accept_moves calls m k call left low is = ap (accepted m) (next_left calls m k call left low is)

-- none is left after the last
pub none_left : (calls : List (Vec Sqe Global)) (m : Moment) (k : ℕ) → m.left ≡ drop k (entries_of calls)
    → length calls ≤ k → m.left ≡ []
none_left calls m k left past = grind (arith, drop_all, length-map)

pub none_accepted : (m : Moment) → m.left ≡ [] → moved m move.Accept ≡ None
none_accepted m none = ap (accepted m) none

-- some is left before it
pub some_left : (calls : List (Vec Sqe Global)) (m : Moment) (k : ℕ) → m.left ≡ drop k (entries_of calls)
    → k < length calls → m.left ≡ [] → ⊥
some_left calls m k left low none =
    let all : List (List Sqe) = entries_of calls in
    let within : k < length all = omega (arith, length-map calls (λ (v : Vec Sqe Global). v.items)) in
    let both : ◌≡◌ {A = List (List Sqe)} [] (get_or all k [] ∷ drop (suc k) all) = sym none ∙ left ∙ drop-cons all k [] within in
    cc

-- A finish.

running_by : (running : Bool) (op told : Op) → Some told ≡ (if running then Some op else None)
    → (running ≡ true) × (told ≡ op)
running_by running op told is = grind arith

pub runs_told : (r : Requests) (n : ℕ) (told : Op) → Some told ≡ operation_running r n
    → (is_running r n ≡ true) × (told ≡ operation_of (entry_of r n))
runs_told r n told is = running_by (is_running r n) (operation_of (entry_of r n)) told is

both_so : (a b : Bool) → a ≡ true → b ≡ true → (a && b) ≡ true
both_so a b e f = grind arith

pub finish_moves : (m : Moment) (n : ℕ) → IsSoundMoment m.requests → is_running m.requests n ≡ true
    → moved m (move.Finish n) ≡ Some (finished m n)
finish_moves m n i running = grind arith

-- What can be made next.

-- what can be issued was accepted
pub issuable_accepted : (r : Requests) (n : ℕ) → is_issuable r n ≡ true → n < length r.accepted
issuable_accepted r n can = grind arith

below_not : (n j : ℕ) → j < n → nat_le n j ≡ false
below_not n j low = false_from_ne_true (nat_le n j) (λ e. let le : n ≤ j = leb-true n j e in omega arith)

-- and is the least from its number on that can be
pub issuable_first : (r : Requests) (n : ℕ) → is_issuable r n ≡ true → issuable_from r n ≡ Some n
issuable_first r n can =
    least_below_some (λ k. nat_le n k && is_issuable r k) (length r.accepted) n (issuable_accepted r n can)
    (both_so (nat_le n n) (is_issuable r n) (le_itself n) can)
    (λ j low. ap (λ b. b && is_issuable r j) (below_not n j low)) where
      le_itself : (k : ℕ) → nat_le k k ≡ true
      le_itself k = le-leb k k (omega arith)

-- and what is the least from its number on can be
pub first_issuable : (r : Requests) (n : ℕ) → issuable_from r n ≡ Some n → is_issuable r n ≡ true
first_issuable r n is =
    (and_parts (nat_le n n) (is_issuable r n) (least_below_tells (λ k. nat_le n k && is_issuable r k) (length r.accepted) n is).holds).1

-- a move that can be made, by cases
can_of : (can : Bool) (m next : Moment) → (if can then Some m else None) ≡ Some next → can ≡ true
can_of can m next e = grind arith

pub issue_can : (m next : Moment) (n : ℕ) → moved m (move.Issue n) ≡ Some next
    → is_issuable m.requests n ≡ true
issue_can m next n e = can_of (is_issuable m.requests n) (issued m n) next e

pub finish_can : (m next : Moment) (n : ℕ) → moved m (move.Finish n) ≡ Some next
    → is_finishable m.requests n ≡ true
finish_can m next n e = can_of (is_finishable m.requests n) (finished m n) next e

-- what can be finished was accepted, and runs
pub finishable_tells : (r : Requests) (n : ℕ) → is_finishable r n ≡ true
    → (n < length r.accepted) × (is_running r n ≡ true)
finishable_tells r n e = grind arith

-- an operation that didn't end for want of memory ended as it is called for
pub called_for : (files : List FileContents) (op : Op) (o : Outcome) → IsOutcome files op o
    → (o.res ≡ neg_ℤ ENOMEM → ⊥) → o ≡ result_of files op
called_for files op o allowed granted = grind arith

-- what can be made

pub issue_some : (m : Moment) (n : ℕ) → is_issuable m.requests n ≡ true → IsSome (moved m (move.Issue n))
issue_some m n can = subst (λ b. IsSome (if b then Some (issued m n) else None)) (sym can) refl

pub finish_some : (calls : List (List Sqe)) (m : Moment) (n : ℕ) → IsReached calls m → is_running m.requests n ≡ true
    → IsSome (moved m (move.Finish n))
finish_some calls m n r runs = subst IsSome (sym (finish_moves m n (sound_at calls m r) runs)) refl

pub accept_some : (m : Moment) (call : List Sqe) (later : List (List Sqe)) → m.left ≡ call ∷ later
    → IsSome (moved m move.Accept)
accept_some m call later left = subst (λ calls. IsSome (accepted m calls)) (sym left) refl

pub accept_can : (calls : List (Vec Sqe Global)) (m : Moment) (k : ℕ) → m.left ≡ drop k (entries_of calls)
    → k < length calls → IsSome (moved m move.Accept)
accept_can calls m k left low =
    let all : List (List Sqe) = entries_of calls in
    let within : k < length all = omega (arith, length-map calls (λ (v : Vec Sqe Global). v.items)) in
    accept_some m (get_or all k []) (drop (suc k) all) (left ∙ drop-cons all k [] within)

-- Nothing can be made after an end.

none_outstanding : (m : Moment) (n : ℕ) → n < length m.requests.accepted → IsOver m
    → is_outstanding m.requests n ≡ true → ⊥
none_outstanding m n low over out =
    grind (arith, (count_below_some (is_outstanding m.requests) (length m.requests.accepted) n low out))

-- an over moment has no moves
pub over_stays : (m next : Moment) (x : Move) → IsOver m → moved m x ≡ Some next → ⊥
over_stays m next x over is = grind (arith, over, issue_can, none_outstanding)
