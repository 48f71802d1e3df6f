-- `into_volume` moves a pointer and its allocator.
use Rattle.uring_ffi_values.proofs.HeldKinds.{volumes}
use Rattle.uring_ffi_values.proofs.Moving.{into_meets}
use Rattle.uring_ffi_values.specs.contracts.boxes.slot.Slot.into_volume.Key.{name as #self}
use Rattle.uring_ffi_values.proofs.boxes.slot.Slot.into_volume.Statement as stated
use Rattle.uring_ffi_values.proofs.boxes.slot.Slot.into_volume.Code as code

pub into_volume_spec : {M : Type 1} → stated.statement M
into_volume_spec 𝓤 𝓛 𝓜 𝓡 wired = into_meets volumes 𝓤 𝓛 𝓜 𝓡 #self (code.unfolded 𝓤 𝓛.H 𝓜 𝓡 wired)
