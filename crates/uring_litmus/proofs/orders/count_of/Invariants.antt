use Rattle.std.proofs.Common.{◌↔◌, ℕ, List}
use Rattle.uring_litmus.proofs.Common.{Contains, texts_of}
use Rattle.uring_litmus.proofs.OrderCounts.{HasBelow}
use Rattle.uring_litmus.proofs.orders.count_of.Given as goal

abbrev pub invariant-loop-at : goal.invariant-loop-at
invariant-loop-at g l = (order : List ℕ) → Contains (texts_of l.own.items) order
    ↔ HasBelow (texts_of l.each) (texts_of l.orders) l.line l.at order
