use Rattle.std.proofs.Common.{◌≡◌, ℕ, ◌<◌, false}
use Rattle.uring_dispatch.proofs.Common.{AreHeld, Requests, addr_of, entry_of, is_candidate}
use Rattle.uring_dispatch.proofs.grouped.Grouped.target.Given as goal

abbrev pub invariant-loop-m : goal.invariant-loop-m
invariant-loop-m l = (r : Requests) → AreHeld l.self.window l.self.groups r
    → l.user_data ≡ addr_of (entry_of r l.n) → (k : ℕ) → k < l.m → is_candidate r l.n k ≡ false
