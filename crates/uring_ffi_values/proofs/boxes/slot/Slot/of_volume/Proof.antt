-- `of_volume` moves a pointer and its allocator.
use Rattle.uring_ffi_values.proofs.HeldKinds.{volumes}
use Rattle.uring_ffi_values.proofs.Moving.{of_meets}
use Rattle.uring_ffi_values.specs.contracts.boxes.slot.Slot.of_volume.Key.{name as #self}
use Rattle.uring_ffi_values.proofs.boxes.slot.Slot.of_volume.Statement as stated
use Rattle.uring_ffi_values.proofs.boxes.slot.Slot.of_volume.Code as code

pub of_volume_spec : {M : Type 1} → stated.statement M
of_volume_spec 𝓤 𝓛 𝓜 𝓡 wired = of_meets volumes 𝓤 𝓛 𝓜 𝓡 #self (code.unfolded 𝓤 𝓛.H 𝓜 𝓡 wired)
