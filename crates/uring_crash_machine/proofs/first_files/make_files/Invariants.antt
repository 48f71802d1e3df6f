use Rattle.std.proofs.Common.{◌≡◌, map, take}
use Rattle.uring_crash_machine.specs.Epochs.{first_files}
use Rattle.uring_crash_machine.proofs.first_files.make_files.Given as goal

abbrev pub invariant-loop-place : goal.invariant-loop-place
invariant-loop-place g l = l.files ≡ first_files l.count (take l.place (map (λ b. b.items) l.contents))
