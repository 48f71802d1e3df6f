-- `into_machine` moves a pointer and its allocator.
use Rattle.uring_ffi_values.proofs.HeldKinds.{machines}
use Rattle.uring_ffi_values.proofs.Moving.{into_meets}
use Rattle.uring_ffi_values.specs.contracts.boxes.slot.Slot.into_machine.Key.{name as #self}
use Rattle.uring_ffi_values.proofs.boxes.slot.Slot.into_machine.Statement as stated
use Rattle.uring_ffi_values.proofs.boxes.slot.Slot.into_machine.Code as code

pub into_machine_spec : {M : Type 1} → stated.statement M
into_machine_spec 𝓤 𝓛 𝓜 𝓡 wired = into_meets machines 𝓤 𝓛 𝓜 𝓡 #self (code.unfolded 𝓤 𝓛.H 𝓜 𝓡 wired)
