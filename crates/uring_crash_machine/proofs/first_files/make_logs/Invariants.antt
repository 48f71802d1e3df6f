use Rattle.std.proofs.Common.{◌≡◌, ◌≤◌, length, map, vec_capacity}
use Rattle.uring_crash_machine.specs.Epochs.{first_files, logs_on}
use Rattle.uring_crash_machine.proofs.first_files.make_logs.Given as goal

abbrev pub invariant-loop-place : goal.invariant-loop-place
invariant-loop-place g l = record {
  logs : l.logs.items ≡ logs_on l.unit 0 (first_files l.place (map (λ b. b.items) l.contents));
  many : length l.logs.items ≡ l.place;
  room : l.count ≤ vec_capacity l.logs;
}
