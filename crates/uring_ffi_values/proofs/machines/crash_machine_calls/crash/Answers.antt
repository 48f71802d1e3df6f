use Rattle.std.proofs.Common.{◌≤◌, ℕ, List, map, subst, sym, arith}
use Rattle.uring_ffi_values.proofs.Common.{CrashMachine, GoesOn, IfOk-weaker}
use Rattle.uring_ffi_values.proofs.machines.crash_machine_calls.crash.Goals as goal

pub returns-clause-left : goal.returns-clause-left
returns-clause-left g c =
    let choices : List (List ℕ) = map (λ b. b.items) c.args.choices.now in
    let goes : GoesOn choices c.args.machine.now c.in_ok-next.next = record {
      setup = c.in_ok-next.ensures.setup;
      unit = c.in_ok-next.ensures.unit;
      ready = c.in_ok-next.ensures.ready;
      unfolded = c.in_ok-next.ensures.unfolded;
      left = c.in_ok-next.ensures.left;
      fits = c.in_ok-next.ensures.fits;
      chosen = c.in_ok-next.ensures.chosen;
    } in
    IfOk-weaker c.boxed.result _ _ (λ b is. subst (λ (m : CrashMachine). GoesOn choices c.args.machine.now m) (sym is) goes) c.boxed.ensures.value

pub returns-clause-granted : goal.returns-clause-granted
returns-clause-granted g c = λ all sound. c.boxed.ensures.granted 1 (all 1) (let one : 1 ≤ 1 = omega arith in one)
