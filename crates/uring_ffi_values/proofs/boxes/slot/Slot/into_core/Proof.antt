-- `into_core` moves a pointer and its allocator.
use Rattle.uring_ffi_values.proofs.HeldKinds.{cores}
use Rattle.uring_ffi_values.proofs.Moving.{into_meets}
use Rattle.uring_ffi_values.specs.contracts.boxes.slot.Slot.into_core.Key.{name as #self}
use Rattle.uring_ffi_values.proofs.boxes.slot.Slot.into_core.Statement as stated
use Rattle.uring_ffi_values.proofs.boxes.slot.Slot.into_core.Code as code

pub into_core_spec : {M : Type 1} → stated.statement M
into_core_spec 𝓤 𝓛 𝓜 𝓡 wired = into_meets cores 𝓤 𝓛 𝓜 𝓡 #self (code.unfolded 𝓤 𝓛.H 𝓜 𝓡 wired)
