use Rattle.std.proofs.Common.{◌≡◌, ℕ, suc, ◌<◌, ◌≤◌, true, Some}
use Rattle.uring_linux.proofs.Common.{Request, at}
use Rattle.uring_linux.proofs.window.Window.over_to.Given as goal

abbrev pub invariant-loop-n : goal.invariant-loop-n
invariant-loop-n l = record {
  low : l.self.first ≤ l.to;
  high : l.to ≤ l.n;
  ended : (k : ℕ) (q : Request) → k < l.n → at l.self k ≡ Some q → q.has_ended ≡ true;
  last : (k : ℕ) (q : Request) → suc k ≡ l.to → at l.self k ≡ Some q → q.is_last ≡ true;
}
