-- One kind of step, so many times: results that are taken in, and requests that are issued.
use Rattle.std.proofs.Common.{◌≡◌, ℕ, ◌+◌, [], ◌∷◌, ◌++◌, count_by, refl, ◌∙◌, arith, add-zero}
use Rattle.uring_threads.proofs.Common.{Answer, Grows, IsUnmoved, Kept, OnlyPosts, Repeats, Step, happens, is_refused, length-append, map-append, nil_from_length, now}
use Rattle.uring_threads.proofs.Posting.{posts_then}
use Rattle.uring_threads.proofs.TraceSteps.{appends_idle, appends_none, appends_one, appends_then, grown}

-- not once
pub repeats_none : (kind : ℕ → Step) {a b : Kept} → IsUnmoved a b → Repeats a b kind 0
repeats_none kind {a} {b} u = grind (arith, (appends_none a b u))

-- once
pub repeats_one : {a b : Kept} (kind : ℕ → Step) (n : ℕ) (x : Answer) → Grows a b (kind n, x)
    → count_by is_refused ((kind n, x) ∷ []) ≡ 0
    → OnlyPosts (now a) (happens a.setup (now a) (kind n) x) → Repeats a b kind 1
repeats_one {a} {b} kind n x g served posts =
    record { numbers = n ∷ []; many = refl; row = appends_one a b (kind n) x g served; posts = rw (grown a b (kind n) x g) posts }

-- and then some more
pub repeats_then : {a b c : Kept} {kind : ℕ → Step} {n m : ℕ} → Repeats a b kind n
    → Repeats b c kind m → Repeats a c kind (n + m)
repeats_then {a} {b} {c} p q =
    record { numbers = p.numbers ++ q.numbers; many = rw (length-append, p.many, q.many); row = rw map-append (appends_then p.row q.row); posts = posts_then (now a) (now b) (now c) p.posts q.posts }

-- and then nothing happened
pub repeats_still : {a k r : Kept} {kind : ℕ → Step} {n : ℕ} → Repeats a k kind n → IsUnmoved k r
    → Repeats a r kind n
repeats_still {kind = kind} p u = rw add-zero at (repeats_then p (repeats_none kind u))

-- without any the trace stays
pub repeats_idle : {a b : Kept} {kind : ℕ → Step} {n : ℕ} → Repeats a b kind n → n ≡ 0
    → b.trace ≡ a.trace
repeats_idle {a} {b} {kind} p none =
    let nothing : p.numbers ≡ [] = nil_from_length p.numbers (p.many ∙ none) in
    appends_idle (rw nothing at p.row)
