-- What a slot may hold: of each kind, how it is read off, and that its box, its parts and its slot own the same.
use mathlib.Core.List.{List, []}
use mir.Syntax.{impl, tnil, dnil}
use mir.Val.{Val}
use denote.RattleType.{RattleType}
use denote.Param.Laws.{Laws}
use Rattle.std.proofs.Common.{◌≡◌, Option, Some, None, false, refl, arith}
use Rattle.uring_ffi_values.proofs.Common.{B, Bx, D, Held, IsSome, a_core, a_crash_machine, a_machine, a_volume, both_ways, core_of, core_row, crash_machine_of, crash_machine_row, dict, ghosts, machine_of, machine_row, outcomes_of, outcomes_row, some_outcomes, volume_of, volume_row}
use Rattle.std.proofs.alloc.Calls.{Al}
use Rattle.std.proofs.alloc.Global.TheLaws as heap
use Rattle.std.specs.contracts.alloc.Global as Heap
use Rattle.uring_core.proofs.cores.Core.TheLaws as core
use Rattle.uring_machine.proofs.machine.Machine.TheLaws as machine
use Rattle.uring_volume.proofs.volume.Volume.TheLaws as volume
use Rattle.uring_crash_machine.proofs.crash_machine.CrashMachine.TheLaws as crash_machine
use Rattle.uring_ffi_values.proofs.outcomes.outcome_list.OutcomeList.TheLaws as outcome_list
use Rattle.uring_ffi_values.specs.contracts.boxes.parts.Parts as Parts
use Rattle.uring_ffi_values.specs.contracts.boxes.slot.Slot as Slot

-- the memory of the process, and a box there
abbrev pub memory : Al
memory = record { row = Heap.the_row; laws = heap.the_row_laws; g = ghosts; d = dict; drops = impl [] tnil dnil }

abbrev pub boxed : (R : RattleType) → Laws R → Bx
boxed R laws = record { row = R; laws = laws; al = memory }

pub record Kind : Type 2 where
  pub row : RattleType
  pub laws : Laws row
  pub made : row.Denot → Held
  pub read : Option Held → Option row.Denot
  pub held : (o : Option Held) (x : row.Denot) → read o ≡ Some x → o ≡ Some (made x)
  pub in_parts : (v : D (boxed row laws)) (vs : List Val)
      → (B (boxed row laws)).own_val v vs
      ≡ (Parts.the_row row Heap.the_row ghosts).own_val (record { ptr = v.ptr; alloc = v.alloc; value = v.value }) vs
  pub in_slot : (v : D (boxed row laws)) (vs : List Val)
      → (B (boxed row laws)).own_val v vs
      ≡ (Slot.the_row).own_val (record { at = v.ptr; alloc = v.alloc; held = Some (made v.value) }) vs

-- what is there can be named
pub named : {X : Type 0} (o : Option X) → IsSome o → (x : X) × (o ≡ Some x)
named (Some x) some = (x, refl)
named None some = absurd (both_ways false refl some)

-- what is read off a slot as one of a kind is what it holds
pub is_held : (o : Option Held)
    → ((x : core_row.Denot) → core_of o ≡ Some x → o ≡ Some (a_core x))
    × ((x : machine_row.Denot) → machine_of o ≡ Some x → o ≡ Some (a_machine x))
    × ((x : volume_row.Denot) → volume_of o ≡ Some x → o ≡ Some (a_volume x))
    × ((x : crash_machine_row.Denot) → crash_machine_of o ≡ Some x → o ≡ Some (a_crash_machine x))
    × ((x : outcomes_row.Denot) → outcomes_of o ≡ Some x → o ≡ Some (some_outcomes x))
is_held o = (λ x e. grind arith, λ x e. grind arith, λ x e. grind arith, λ x e. grind arith, λ x e. grind arith)

abbrev pub cores : Kind
cores = record { row = core_row; laws = core.the_row_laws; made = a_core; read = core_of; held = λ o. (is_held o).0; in_parts = λ v vs. refl; in_slot = λ v vs. refl }

abbrev pub machines : Kind
machines = record { row = machine_row; laws = machine.the_row_laws; made = a_machine; read = machine_of; held = λ o. (is_held o).1; in_parts = λ v vs. refl; in_slot = λ v vs. refl }

abbrev pub volumes : Kind
volumes = record { row = volume_row; laws = volume.the_row_laws; made = a_volume; read = volume_of; held = λ o. (is_held o).2; in_parts = λ v vs. refl; in_slot = λ v vs. refl }

abbrev pub crash_machines : Kind
crash_machines = record { row = crash_machine_row; laws = crash_machine.the_row_laws; made = a_crash_machine; read = crash_machine_of; held = λ o. (is_held o).3; in_parts = λ v vs. refl; in_slot = λ v vs. refl }

abbrev pub outcomes : Kind
outcomes = record { row = outcomes_row; laws = outcome_list.the_row_laws; made = some_outcomes; read = outcomes_of; held = λ o. (is_held o).4; in_parts = λ v vs. refl; in_slot = λ v vs. refl }
