use Rattle.std.proofs.Common.{◌≡◌, min, take}
use Rattle.uring_register.specs.KernelLists.Texts as spec
use Rattle.uring_register.proofs.kernel_lists.texts.value_of.Given as goal

abbrev pub invariant-loop-digit : goal.invariant-loop-digit
invariant-loop-digit l = l.value ≡ min (spec.value_of l.base (take l.digit-index l.digits)) 18446744073709551616
