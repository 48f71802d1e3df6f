-- `of_core` moves a pointer and its allocator.
use Rattle.uring_ffi_values.proofs.HeldKinds.{cores}
use Rattle.uring_ffi_values.proofs.Moving.{of_meets}
use Rattle.uring_ffi_values.specs.contracts.boxes.slot.Slot.of_core.Key.{name as #self}
use Rattle.uring_ffi_values.proofs.boxes.slot.Slot.of_core.Statement as stated
use Rattle.uring_ffi_values.proofs.boxes.slot.Slot.of_core.Code as code

pub of_core_spec : {M : Type 1} → stated.statement M
of_core_spec 𝓤 𝓛 𝓜 𝓡 wired = of_meets cores 𝓤 𝓛 𝓜 𝓡 #self (code.unfolded 𝓤 𝓛.H 𝓜 𝓡 wired)
