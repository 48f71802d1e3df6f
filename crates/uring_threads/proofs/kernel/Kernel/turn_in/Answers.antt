use Rattle.std.proofs.Common.{◌≡◌, ◌++◌, length, take, drop, arith, subst, ap, ◌∙◌}
use Rattle.uring_threads.proofs.Common.{AreSameLanes, HasTurned, Kernel, Setup, numbers_of_lanes}
use Rattle.uring_threads.proofs.Reporting.{take_whole}
use Rattle.uring_threads.proofs.SameEnds.{same_numbers}
use Rattle.uring_threads.proofs.kernel.Kernel.turn_in.Given.{Over}
use Rattle.uring_threads.proofs.kernel.Kernel.turn_in.Goals as goal

pub make_turn-requires : goal.make_turn-requires
make_turn-requires g c = record { is = rw c.deref_mut.ensures.value c.self.invariant.1; items = c.self.invariant.0 }

-- the end whose lanes were lent to the turn
lent : (g : Over) (c : goal.After-self-1 g)
    → ◌≡◌ {A = Kernel} (record { kept = c.self.inside.kept; intake = c.self.inside.intake; lanes = c.deref_mut.result.now; pairing = g.P.KernelPort.pairing c.self.inside.port; sizes = g.P.KernelPort.sizes c.self.inside.port; pulled = g.P.KernelPort.pulled c.self.inside.port; saw_calls = g.P.KernelPort.saw_calls c.self.inside.port; reaped = g.P.KernelPort.delivered c.self.inside.port; free = g.P.KernelPort.free c.self.inside.port; room_looks = g.P.KernelPort.room_looks c.self.inside.port; dropped = g.P.KernelPort.dropped c.self.inside.port }) c.args.self.now
lent g c = rw c.deref_mut.ensures.value c.self.view_is

-- and came back
back : (g : Over) (c : goal.After-self-1 g)
    → take c.self.inside.lanes.len (c.make_turn.new.lanes ++ drop (length c.make_turn.new.lanes) c.self.inside.lanes.items) ≡ c.make_turn.new.lanes
back g c =
    take_whole c.self.inside.lanes.len c.make_turn.new.lanes (drop (length c.make_turn.new.lanes) c.self.inside.lanes.items) (omega (arith, c.make_turn.ensures.turned.lanes.many, ap length c.deref_mut.ensures.value, c.self.inside.lanes.ok.0))

pub returns : goal.returns
returns g c =
    record {
      turned =
          let new : Kernel = record { kept = c.make_turn.new.kept; intake = c.make_turn.new.intake; lanes = c.make_turn.new.lanes; pairing = g.P.KernelPort.pairing c.make_turn.new.port; sizes = g.P.KernelPort.sizes c.make_turn.new.port; pulled = g.P.KernelPort.pulled c.make_turn.new.port; saw_calls = g.P.KernelPort.saw_calls c.make_turn.new.port; reaped = g.P.KernelPort.delivered c.make_turn.new.port; free = g.P.KernelPort.free c.make_turn.new.port; room_looks = g.P.KernelPort.room_looks c.make_turn.new.port; dropped = g.P.KernelPort.dropped c.make_turn.new.port } in
          rw (back g c) (subst (λ (k : Kernel). HasTurned k new c.make_turn.result) (lent g c) c.make_turn.ensures.turned.turned);
      setup = c.make_turn.ensures.turned.setup ∙ ap (λ (k : Kernel). k.kept.setup) (lent g c);
      lanes = rw (back g c) (subst (λ (k : Kernel). AreSameLanes k.lanes c.make_turn.new.lanes) (lent g c) c.make_turn.ensures.turned.lanes);
      numbers = ap numbers_of_lanes (back g c) ∙ same_numbers _ _ c.make_turn.ensures.turned.lanes ∙ ap (λ (k : Kernel). numbers_of_lanes k.lanes) (lent g c);
      pairing = c.make_turn.ensures.turned.pairing ∙ ap (λ (k : Kernel). k.pairing) (lent g c);
      sizes = c.make_turn.ensures.turned.sizes ∙ ap (λ (k : Kernel). k.sizes) (lent g c);
      granted = c.make_turn.ensures.turned.ok;
    }

pub invariant_of-self : goal.invariant_of-self
invariant_of-self g c =
    let made = c.make_turn.ensures in
    rw (back g c) (omega (arith, ap (λ (s : Setup). s.sq) made.turned.setup, c.self.invariant.0, made.items), made.turned.is)
