use Rattle.std.proofs.Common.{ℕ, ◌≤◌, subst, sym}
use Rattle.uring_ffi_values.proofs.Common.{Fits, History, IsSomeAnd, IsUnrefused, Machine, elements_for_step, world}
use Rattle.uring_ffi_values.proofs.machines.machine_place.MachinePlace.step_in.Goals as goal

pub returns-clause-granted : goal.returns-clause-granted
returns-clause-granted g c =
    let P : Machine → Type 0 = λ m. (h : History) (n : ℕ) → Fits m h → g.M.Memory.grants c.args.memory.now n → elements_for_step m.core (world m.core.setup h) c.args.step ≤ n → IsUnrefused m.core.setup (world m.core.setup h) c.args.step c.step_in-answer.result in
    subst (λ o. IsSomeAnd o P) (sym c.take_full-machine.ensures.taken)
    (subst P c.deref_mut.ensures.value c.step_in-answer.ensures.granted)
