use Rattle.std.proofs.Common.{◌≡◌, ◌++◌, map, take, drop}
use Rattle.uring_crash_machine.specs.Logs.{finished_as}
use Rattle.uring_crash_machine.proofs.note.note_finish.Given as goal

abbrev pub invariant-loop-place : goal.invariant-loop-place
invariant-loop-place l = l.logs
    ≡ map (λ log. finished_as l.n l.op l.answer log) (take l.place l.initial.logs) ++ drop l.place l.initial.logs
