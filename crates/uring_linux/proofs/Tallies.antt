-- What each event changes in the numbers, and that they stay right.
use Rattle.std.proofs.Common.{◌≡◌, ℕ, ◌+◌, ◌-◌, ◌<◌, ◌≤◌, length, Bool, true, false, [], set, Some, None, sym, ◌∙◌, ap, arith, length-set}
use Rattle.uring_linux.proofs.Common.{HasAccepted, HasEnded, HasFinished, HasStarted, IsDispatch, IsOpen, KeptDrains, Lessens, Request, Sqe, Window, at, both_ways, dispatch_of, end_of, is_linked, is_unended, new_request, no_drains, not-true, one_if, running_among, runs, unended_among}
use Rattle.uring_linux.proofs.WindowCounts.{unended_none, running_none, at_roomed, count_written, unended_counts, running_counts}

pub open_from : (s : Window) (n : ℕ) (q : Request) (b : Bool) → IsOpen (record s { room = 0 }) n b
    → at s n ≡ Some q → (q.has_ended ≡ false) × (q.is_running ≡ b)
open_from s n q b o e = grind (arith, at_roomed, not-true)

pub never_open : (s : Window) (n : ℕ) → is_unended (at (record s { room = 0 }) n) ≡ true → None ≡ at s n → ⊥
never_open s n open_ none = both_ways _ (ap is_unended (at_roomed s 0 n ∙ sym none)) open_

pub new_dispatch : (s : Window) (d : KeptDrains) → s ≡ record { first = 0; items = []; room = 0 }
    → d ≡ record { drains = no_drains; room = 0 } → IsDispatch s d 0 0 0 true
new_dispatch s d es ed = grind (arith, unended_none, running_none)

-- A request is accepted.

pub accepted_counts : (s t : Window) (d k : KeptDrains) (b c : Bool) (room left : ℕ) (between amid : Bool) (e : Sqe) (q : Request)
    (n : ℕ) → end_of t ≡ end_of s + 1
    → unended_among t.items ≡ unended_among s.items + one_if (is_unended (Some q))
    → running_among t.items ≡ running_among s.items + one_if (runs (Some q)) → q ≡ new_request e c n
    → left + 1 ≡ room
    → HasAccepted (dispatch_of s d b room between) (dispatch_of t k c left amid)
accepted_counts s t d k b c room left between amid e q n end outstanding running new is = grind arith

pub accepted_dispatch : (s t : Window) (d k : KeptDrains) (o r room left : ℕ) (between c : Bool) (e : Sqe) (q : Request)
    (n : ℕ) → IsDispatch s d o r room between → t.first ≡ s.first → end_of t ≡ end_of s + 1
    → unended_among t.items ≡ unended_among s.items + one_if (is_unended (Some q))
    → running_among t.items ≡ running_among s.items + one_if (runs (Some q)) → q ≡ new_request e c n
    → t.room + 1 ≡ s.room → left + 1 ≡ room
    → (is_linked q.entry ≡ true → k.room ≡ d.room)
    → (is_linked q.entry ≡ true → k.drains.from ≡ d.drains.from)
    → (is_linked q.entry ≡ false → k.drains.from ≡ end_of t) → d.room ≤ k.room + 1
    → (d.drains.from < end_of t → length d.drains.deferred ≤ d.drains.from → length k.drains.deferred ≤ k.drains.from)
    → IsDispatch t k (o + 1) r left false
accepted_dispatch s t d k o r room left between c e q n i first long outstanding running new less is same from_same closed less_groups few =
    grind arith

-- A request starts.

abbrev Starts : Window → Window → ℕ → Request → Type 0
Starts s t n q = t ≡ record s { items = set s.items (n - s.first) (record q { is_running = true }) }

pub started_counts : (s t : Window) (d : KeptDrains) (b : Bool) (room : ℕ) (between : Bool) (n : ℕ) (q : Request)
    → at s n ≡ Some q → q.has_ended ≡ false → q.is_running ≡ false → Starts s t n q
    → HasStarted (dispatch_of s d b room between) (dispatch_of t d b room between)
started_counts s t d b room between n q here open_ idle et =
    let long = length-set s.items (n - s.first) (record q { is_running = true }) in
    let unended = count_written unended_counts s n q (record q { is_running = true }) here in
    let running = count_written running_counts s n q (record q { is_running = true }) here in
    rw et (grind arith)

pub started_dispatch : (s t : Window) (d : KeptDrains) (o r room : ℕ) (between : Bool) (n : ℕ) (q : Request)
    → IsDispatch s d o r room between → at s n ≡ Some q → q.has_ended ≡ false → q.is_running ≡ false
    → Starts s t n q → IsDispatch t d o (r + 1) room between
started_dispatch s t d o r room between n q i here open_ idle et =
    grind (arith, (started_counts s t d false room between n q here open_ idle et))

-- A request ends.

abbrev Ends : Window → Window → ℕ → Request → Bool → Type 0
Ends s t n q failed =
    t ≡ record s { items = set s.items (n - s.first) (record q { is_running = false; has_ended = true; has_failed = failed }) }

pub lessens : (s t : Window) (n : ℕ) (q : Request) (failed : Bool) → at s n ≡ Some q → q.has_ended ≡ false
    → Ends s t n q failed → Lessens s t q
lessens s t n q failed here open_ et =
    let ended = record q { is_running = false; has_ended = true; has_failed = failed } in
    let long = length-set s.items (n - s.first) ended in
    let unended = count_written unended_counts s n q ended here in
    let running = count_written running_counts s n q ended here in
    rw et (grind arith)

pub ended_counts : (s t : Window) (d k : KeptDrains) (b : Bool) (room : ℕ) (between : Bool) (q : Request)
    → q.is_running ≡ false → Lessens s t q
    → HasEnded (dispatch_of s d b room between) (dispatch_of t k b room between)
ended_counts s t d k b room between q idle less = grind arith

pub finished_counts : (s t : Window) (d k : KeptDrains) (b : Bool) (room : ℕ) (between : Bool) (q : Request)
    → q.is_running ≡ true → Lessens s t q
    → HasFinished (dispatch_of s d b room between) (dispatch_of t k b room between)
finished_counts s t d k b room between q busy less = grind arith

pub ended_dispatch : (s t : Window) (d k : KeptDrains) (o p r u room : ℕ) (between : Bool) (q : Request)
    → IsDispatch s d o r room between → Lessens s t q
    → k.room ≡ d.room → k.drains.from ≡ d.drains.from
    → length k.drains.deferred ≤ length d.drains.deferred → p + 1 ≡ o → u + one_if q.is_running ≡ r
    → IsDispatch t k p u room between
ended_dispatch s t d k o p r u room between q i l spare from fewer less less_running = grind arith
