use Rattle.std.proofs.Common.{◌≡◌, ◌+◌, take}
use Rattle.uring_linux.specs.LinuxRequests.{LinuxRequests}
use Rattle.uring_rules.specs.RulesCalls.{all_accepted_by}
use Rattle.uring_rules.specs.RulesDispatch.{ShowsRequests}
use Rattle.uring_rules.proofs.rules.Rules.accept_call.Given as goal

-- the entries so far are accepted, and there is room for the rest
abbrev pub invariant-loop-entry : goal.invariant-loop-entry
invariant-loop-entry l = record {
  shows : (r : LinuxRequests) → ShowsRequests l.fn.self r → ShowsRequests l.self (all_accepted_by l.fn.self.linux r (take l.entry-index l.entries));
  linux : l.self.linux ≡ l.fn.self.linux;
  accepted : l.self.accepted ≡ l.fn.self.accepted + l.entry-index;
  outstanding : l.self.outstanding ≡ l.fn.self.outstanding + l.entry-index;
  running : l.self.running ≡ l.fn.self.running;
  room : l.self.room + l.entry-index ≡ l.fn.self.room;
}
