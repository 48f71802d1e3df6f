use Rattle.std.proofs.Common.{◌≡◌, Result, Ok, Err, length, rules, arith, ◌≤◌, refl, sym, subst, ap, ◌∙◌, vec_capacity}
use Rattle.uring_threads.proofs.Common.{IsKernel, Kernel, Setup, common_steps}
use Rattle.uring_threads.specs.Opening.{AreBadWorkers}
use Rattle.uring_threads.specs.declared.intake.Intake.TheVariants as intake
use Rattle.uring_threads.specs.declared.opening.LanesFault.{LanesFault}
use Rattle.uring_threads.specs.declared.opening.LanesFault.TheVariants as fault
use Rattle.uring_threads.proofs.SameEnds.{at_first, is_at_first, opened_together}
use Rattle.uring_threads.proofs.opening.ends_in.Goals as goal

pub invariant_of-kernel : goal.invariant_of-kernel
invariant_of-kernel g c =
    let of = c.in-Ok.ensures in
    let size = c.in_ok-check_ends.ensures.ok in
    let kernel : Kernel = record { kept = c.in-Ok.inner.kept; intake = intake.Ready; lanes = c.in-Ok.inner.lanes.items; pairing = g.K.KernelPort.pairing c.args.kernel; sizes = g.K.KernelPort.sizes c.args.kernel; pulled = g.K.KernelPort.pulled c.args.kernel; saw_calls = g.K.KernelPort.saw_calls c.args.kernel; reaped = g.K.KernelPort.delivered c.args.kernel; free = g.K.KernelPort.free c.args.kernel; room_looks = g.K.KernelPort.room_looks c.args.kernel; dropped = g.K.KernelPort.dropped c.args.kernel } in (
      subst (λ (s : Setup). s.sq ≤ vec_capacity c.in-Ok.inner.items) (sym of.setup) of.items,
      subst IsKernel (sym (at_first c.args.setup.now kernel of.trace of.setup refl c.requires.kernel.0 c.requires.kernel.1 c.requires.kernel.2))
          (is_at_first c.args.setup.now kernel.pairing kernel (omega (arith, of.many, c.len.ensures, c.args.gates.ok.0, size.1)) (omega (arith, of.many, c.len.ensures, c.args.gates.ok.0, size.2)) of.opened.hold of.opened.pairs.short of.opened.none_carried),
    )

pub returns-clause-ok : goal.returns-clause-ok
returns-clause-ok g c =
    let of = c.in-Ok.ensures in
    let kernel : Kernel = record { kept = c.in-Ok.inner.kept; intake = intake.Ready; lanes = c.in-Ok.inner.lanes.items; pairing = g.K.KernelPort.pairing c.args.kernel; sizes = g.K.KernelPort.sizes c.args.kernel; pulled = g.K.KernelPort.pulled c.args.kernel; saw_calls = g.K.KernelPort.saw_calls c.args.kernel; reaped = g.K.KernelPort.delivered c.args.kernel; free = g.K.KernelPort.free c.args.kernel; room_looks = g.K.KernelPort.room_looks c.args.kernel; dropped = g.K.KernelPort.dropped c.args.kernel } in
    record {
      many = of.opened.pairs.many ∙ of.many;
      application = first_of (search rules, grind (arith, common_steps));
      dispatcher = at_first c.args.setup.now kernel of.trace of.setup refl c.requires.kernel.0 c.requires.kernel.1 c.requires.kernel.2;
      opened = of.opened;
      together =
          opened_together c.args.setup.now.files c.new-app.result kernel c.in-Ok.inner.workers.items (first_of (search rules, grind (arith, common_steps))) (first_of (search rules, grind (arith, common_steps)))
          (ap (λ (s : Setup). s.files) of.setup) of.opened.pairs;
    }

not_ok : {T : Type 0} (ends : T) → ◌≡◌ {A = Result T LanesFault} (Ok ends) (Err fault.BadWorkers) → ⊥
not_ok ends e = cc

not_memory : {T : Type 0} → ◌≡◌ {A = Result T LanesFault} (Err fault.NoMemory) (Err fault.BadWorkers) → ⊥
not_memory e = cc

pub returns-clause-bad_workers : goal.returns-clause-bad_workers
returns-clause-bad_workers g c =
    let many : length c.args.gates.items ≡ c.len.result = omega (arith, c.len.ensures, c.args.gates.ok.0) in
    (λ e. absurd (not_ok _ e), λ h. absurd (not_ok tt (c.in_ok-check_ends.ensures.bad_workers.1 (h.0, subst AreBadWorkers many h.1))))

pub returns-in_default-clause-bad_workers : goal.returns-in_default-clause-bad_workers
returns-in_default-clause-bad_workers g c =
    let many : length c.args.gates.items ≡ c.len.result = omega (arith, c.len.ensures, c.args.gates.ok.0) in
    (λ e. absurd (not_memory e), λ h. absurd (not_ok tt (c.in_ok-check_ends.ensures.bad_workers.1 (h.0, subst AreBadWorkers many h.1))))
