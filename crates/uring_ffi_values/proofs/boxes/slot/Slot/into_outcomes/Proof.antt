-- `into_outcomes` moves a pointer and its allocator.
use Rattle.uring_ffi_values.proofs.HeldKinds.{outcomes}
use Rattle.uring_ffi_values.proofs.Moving.{into_meets}
use Rattle.uring_ffi_values.specs.contracts.boxes.slot.Slot.into_outcomes.Key.{name as #self}
use Rattle.uring_ffi_values.proofs.boxes.slot.Slot.into_outcomes.Statement as stated
use Rattle.uring_ffi_values.proofs.boxes.slot.Slot.into_outcomes.Code as code

pub into_outcomes_spec : {M : Type 1} → stated.statement M
into_outcomes_spec 𝓤 𝓛 𝓜 𝓡 wired = into_meets outcomes 𝓤 𝓛 𝓜 𝓡 #self (code.unfolded 𝓤 𝓛.H 𝓜 𝓡 wired)
