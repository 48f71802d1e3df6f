-- `of_crash_machine` moves a pointer and its allocator.
use Rattle.uring_ffi_values.proofs.HeldKinds.{crash_machines}
use Rattle.uring_ffi_values.proofs.Moving.{of_meets}
use Rattle.uring_ffi_values.specs.contracts.boxes.slot.Slot.of_crash_machine.Key.{name as #self}
use Rattle.uring_ffi_values.proofs.boxes.slot.Slot.of_crash_machine.Statement as stated
use Rattle.uring_ffi_values.proofs.boxes.slot.Slot.of_crash_machine.Code as code

pub of_crash_machine_spec : {M : Type 1} → stated.statement M
of_crash_machine_spec 𝓤 𝓛 𝓜 𝓡 wired = of_meets crash_machines 𝓤 𝓛 𝓜 𝓡 #self (code.unfolded 𝓤 𝓛.H 𝓜 𝓡 wired)
