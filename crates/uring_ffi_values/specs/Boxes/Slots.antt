-- Glue. What a slot after a C program's handle owns.
use base.Fml.{Fml, ftrue}
use denote.RattleType.{RattleType}
use denote.RawPtr.{Ptr}
use Rattle.std.specs.Prelude.{Option, Some, None, ◌⊎◌}
use mathlib.Core.Logic.{inl, inr}
use Rattle.std.specs.Coded.{Coded, coded_option, coded⊎}
use Rattle.std.specs.Box.Ownership.{box_owns}
use Rattle.std.specs.Global.{Global}
use Rattle.std.specs.contracts.impls.GlobalAllocator.TheImpl.{ghosts}
use Rattle.uring_core.specs.contracts.cores.Core as Core
use Rattle.uring_machine.specs.contracts.machine.Machine as Machine
use Rattle.uring_volume.specs.contracts.volume.Volume as Volume
use Rattle.uring_crash_machine.specs.contracts.crash_machine.CrashMachine as CrashMachine
use Rattle.uring_ffi_values.specs.contracts.outcomes.outcome_list.OutcomeList as OutcomeList

-- a core, a machine, a volume, a machine whose power may fail and a list of outcomes, as the logic of ownership sees them
abbrev pub core_row : RattleType
core_row = Core.the_row

abbrev pub machine_row : RattleType
machine_row = Machine.the_row

abbrev pub volume_row : RattleType
volume_row = Volume.the_row

abbrev pub crash_machine_row : RattleType
crash_machine_row = CrashMachine.the_row

abbrev pub outcomes_row : RattleType
outcomes_row = OutcomeList.the_row

-- one of these
abbrev pub Held : Type 0
Held =
    core_row.Denot ⊎ (machine_row.Denot ⊎ (volume_row.Denot ⊎ (crash_machine_row.Denot ⊎ outcomes_row.Denot)))

abbrev pub a_core : core_row.Denot → Held
a_core core = inl core

abbrev pub a_machine : machine_row.Denot → Held
a_machine machine = inr (inl machine)

abbrev pub a_volume : volume_row.Denot → Held
a_volume volume = inr (inr (inl volume))

abbrev pub a_crash_machine : crash_machine_row.Denot → Held
a_crash_machine machine = inr (inr (inr (inl machine)))

abbrev pub some_outcomes : outcomes_row.Denot → Held
some_outcomes outcomes = inr (inr (inr (inr outcomes)))

-- what of each kind is in a slot, if it is there
abbrev pub core_of : Option Held → Option core_row.Denot
core_of (Some (inl core)) = Some core
core_of _ = None

abbrev pub machine_of : Option Held → Option machine_row.Denot
machine_of (Some (inr (inl machine))) = Some machine
machine_of _ = None

abbrev pub volume_of : Option Held → Option volume_row.Denot
volume_of (Some (inr (inr (inl volume)))) = Some volume
volume_of _ = None

abbrev pub crash_machine_of : Option Held → Option crash_machine_row.Denot
crash_machine_of (Some (inr (inr (inr (inl machine))))) = Some machine
crash_machine_of _ = None

abbrev pub outcomes_of : Option Held → Option outcomes_row.Denot
outcomes_of (Some (inr (inr (inr (inr outcomes))))) = Some outcomes
outcomes_of _ = None

-- a block with a value of this type, and the right to free it
abbrev pub block_owns : (R : RattleType) → Global → Ptr → R.Denot → Fml
block_owns R alloc at value = box_owns (ghosts.dealloc_token alloc) R at value

-- nothing, or such a block
abbrev pub slot_owns : Global → Ptr → Option Held → Fml
slot_owns alloc at None = ftrue
slot_owns alloc at (Some (inl core)) = block_owns core_row alloc at core
slot_owns alloc at (Some (inr (inl machine))) = block_owns machine_row alloc at machine
slot_owns alloc at (Some (inr (inr (inl volume)))) = block_owns volume_row alloc at volume
slot_owns alloc at (Some (inr (inr (inr (inl machine))))) =
    block_owns crash_machine_row alloc at machine
slot_owns alloc at (Some (inr (inr (inr (inr outcomes))))) = block_owns outcomes_row alloc at outcomes

-- how the logic stores what is in a slot
abbrev pub held_coded : Coded (Option Held)
held_coded =
    coded_option
    (coded⊎ core_row.coded
    (coded⊎ machine_row.coded (coded⊎ volume_row.coded (coded⊎ crash_machine_row.coded outcomes_row.coded))))
