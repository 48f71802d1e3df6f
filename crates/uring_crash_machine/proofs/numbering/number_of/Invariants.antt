use Rattle.std.proofs.Common.{◌≡◌, ◌==◌, ◌&&◌, false, take}
use Rattle.std.specs.List.{list_any}
use Rattle.uring_crash_machine.specs.declared.numbering.Numbered.{Numbered}
use Rattle.uring_crash_machine.proofs.numbering.number_of.Given as goal

abbrev pub invariant-loop-p : goal.invariant-loop-p
invariant-loop-p l = list_any (λ (p : Numbered). p.is_last && p.request == l.n) (take l.p-index l.numbers) ≡ false
