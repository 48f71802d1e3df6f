-- What ends a walk before its end: an operation that wasn't granted its memory, and calls with more entries than requests have numbers.
use Rattle.std.proofs.Common.{◌≡◌, ℕ, ◌+◌, ◌≤◌, ◌^◌, List, [], ◌∷◌, length, drop, get_or, Option, Some, Result, Err, sym, subst, ap, arith, ◌<◌}
use Rattle.uring_outcomes.proofs.Common.{Global, IfErr, IsErrAnd, IsReason, Moment, Move, Run, Sqe, StandsAt, Vec, after_moves, entries_of, entry_count, length-append, moved, option_and_then, starting}
use Rattle.uring_dispatch.specs.declared.errors.ReserveError.{ReserveError}
use Rattle.uring_dispatch.specs.declared.errors.ReserveError.TheVariants as refused
use Rattle.uring_outcomes.specs.Faults.{fault_of}
use Rattle.uring_outcomes.specs.declared.fault.WalkFault.{WalkFault}
use Rattle.uring_outcomes.specs.declared.fault.WalkFault.TheVariants as fault
use Rattle.uring_outcomes.proofs.Moving.{next_left}

-- Each move leaves the number of the entries that are accepted and of those that are left to be.

abbrev all_of : Moment → ℕ
all_of m = length m.requests.accepted + entry_count m.left

move_keeps : (m next : Moment) (x : Move) → moved m x ≡ Some next → all_of next ≡ all_of m
move_keeps m next x so = grind (arith, length-append)

first_then : (first : Option Moment) (m last : Moment) (later : List Move)
    → ((y : Moment) → first ≡ Some y → all_of y ≡ all_of m)
    → ((y : Moment) → after_moves y later ≡ Some last → all_of last ≡ all_of y)
    → option_and_then (λ y. after_moves y later) first ≡ Some last → all_of last ≡ all_of m
first_then first m last later one rest so = grind arith

moves_keep : (moves : List Move) (m last : Moment) → after_moves m moves ≡ Some last
    → all_of last ≡ all_of m
moves_keep [] m last so = let is : m ≡ last = cc in ap all_of (sym is)
moves_keep (x ∷ later) m last so =
    first_then (moved m x) m last later (λ y is. move_keeps m y x is) (λ y is. moves_keep later y last is) so

-- The requests accepted and the entries of the next call are among the calls' entries.
pub next_among : (calls : List (Vec Sqe Global)) (run : Run) (m : Moment) (call : Vec Sqe Global)
    → StandsAt (entries_of calls) run m → run.next_call < length calls
    → call ≡ get_or calls run.next_call call
    → length m.requests.accepted + length call.items ≤ entry_count (entries_of calls)
next_among calls run m call at low is =
    let all : all_of m ≡ 0 + entry_count (entries_of calls) = moves_keep at.reached.moves (starting at.reached.setup (entries_of calls)) m at.reached.leads in
    let left : entry_count m.left ≡ length call.items + entry_count (drop (run.next_call + 1) (entries_of calls)) = ap entry_count (next_left calls m run.next_call call at.left low is) in
    omega (arith, all, left)

-- What a walk says.

-- of a fault that is told, whatever is so
pub told : {T : Type 0} (r : Result T WalkFault) (P : WalkFault → Type 0) (f : WalkFault) → IsErrAnd r (λ x. x ≡ f)
    → P f → IfErr r P
told r P f is p = grind arith

-- a refusal of the dispatcher has its reason
pub refusal_reason : (grants : ℕ → Type 0) (calls : List (List Sqe)) (e : ReserveError)
    → (e ≡ refused.Spent → 2 ^ 63 ≤ entry_count calls)
    → (e ≡ refused.NoMemory → ((n : ℕ) → grants n) → ⊥) → IsReason grants calls (fault_of e)
refusal_reason grants calls e spent memory = grind arith

-- what it doesn't end by

pub spent_only : {T : Type 0} (grants : ℕ → Type 0) (calls : List (List Sqe)) (r : Result T WalkFault)
    → IfErr r (IsReason grants calls) → r ≡ Err fault.Spent → 2 ^ 63 ≤ entry_count calls
spent_only grants calls r reason is = subst (λ x. IfErr x (IsReason grants calls)) is reason

pub never_paths : {T : Type 0} (grants : ℕ → Type 0) (calls : List (List Sqe)) (r : Result T WalkFault)
    → IfErr r (IsReason grants calls) → r ≡ Err fault.Paths → ⊥
never_paths grants calls r reason is = subst (λ x. IfErr x (IsReason grants calls)) is reason

pub spent_but_paths : {T : Type 0} (grants : ℕ → Type 0) (calls : List (List Sqe)) (r : Result T WalkFault)
    → IfErr r (λ f. (f ≡ fault.Paths → ⊥) → IsReason grants calls f) → r ≡ Err fault.Spent
    → 2 ^ 63 ≤ entry_count calls
spent_but_paths grants calls r reason is = grind arith
