use Rattle.std.proofs.Common.{◌≡◌, take}
use Rattle.uring_core.proofs.Common.{FitsApart, History, after_entries, after_head}
use Rattle.uring_core.proofs.cores.Core.publish.Given as goal

-- the entries so far are put in
abbrev pub invariant-loop-entry : goal.invariant-loop-entry
invariant-loop-entry l = record {
  slot : l.slot ≡ l.entry-index;
  setup : l.self.setup ≡ l.fn.self.setup;
  fits : (h : History) → FitsApart l.fn.self h → FitsApart l.self (after_entries l.fn.self.setup 0 (take l.entry-index l.entries) (after_head l.fn.self.setup h));
  others : l.self ≡ record l.fn.self { sq = l.self.sq };
}
