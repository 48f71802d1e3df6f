-- What a place of a C program holds.
use Rattle.std.specs.Prelude.{Option}
use Rattle.uring_core.specs.Core.{Core}
use Rattle.uring_machine.specs.Machine.{Machine}
use Rattle.uring_volume.specs.Volume.{Volume}
use Rattle.uring_crash_machine.specs.Epochs.{CrashMachine}
use Rattle.uring_ffi_values.specs.Boxes.Slots.{core_of, machine_of, volume_of, crash_machine_of, outcomes_of}
use Rattle.uring_ffi_values.specs.declared.cores.core_place.CorePlace.{CorePlace}
use Rattle.uring_ffi_values.specs.declared.machines.machine_place.MachinePlace.{MachinePlace}
use Rattle.uring_ffi_values.specs.declared.volumes.volume_place.VolumePlace.{VolumePlace}
use Rattle.uring_ffi_values.specs.declared.machines.crash_machine_place.CrashMachinePlace.{CrashMachinePlace}
use Rattle.uring_ffi_values.specs.declared.outcomes.outcomes_place.OutcomesPlace.{OutcomesPlace}
use Rattle.uring_ffi_values.specs.declared.outcomes.outcome_list.OutcomeList.{OutcomeList}

-- the core in a place, if there is one
abbrev pub core_in : CorePlace → Option Core
core_in place = core_of place.slot.held

-- the machine in a place, if there is one
abbrev pub machine_in : MachinePlace → Option Machine
machine_in place = machine_of place.slot.held

-- the volume in a place, if there is one
abbrev pub volume_in : VolumePlace → Option Volume
volume_in place = volume_of place.slot.held

-- the machine whose power may fail in a place, if there is one
abbrev pub crash_machine_in : CrashMachinePlace → Option CrashMachine
crash_machine_in place = crash_machine_of place.slot.held

-- the outcomes in a place, if there are any
abbrev pub outcomes_in : OutcomesPlace → Option OutcomeList
outcomes_in place = outcomes_of place.slot.held
