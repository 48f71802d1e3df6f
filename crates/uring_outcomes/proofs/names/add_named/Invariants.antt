use Rattle.std.proofs.Common.{◌≡◌, ℕ, true, take}
use Rattle.uring_outcomes.proofs.Common.{NamesAll, among}
use Rattle.uring_outcomes.proofs.names.add_named.Given as goal

-- those of the entries so far are there, and none went
abbrev pub invariant-loop-entry : goal.invariant-loop-entry
invariant-loop-entry g l = record {
  named : NamesAll (among l.names.items) (take l.entry-index l.entries);
  kept : (u : ℕ) → among l.fn.names.items u ≡ true → among l.names.items u ≡ true;
}
