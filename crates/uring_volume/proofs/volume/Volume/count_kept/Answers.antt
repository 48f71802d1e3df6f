use Rattle.std.proofs.Common.{◌-◌, ◌^◌, subst, refl}
use Rattle.uring_volume.specs.Volume.{IsSound}
use Rattle.uring_volume.proofs.Results.{on_value}
use Rattle.uring_volume.proofs.Crashing.{counted}
use Rattle.uring_volume.proofs.volume.Volume.count_kept.Goals as goal

pub returns-clause-count : goal.returns-clause-count
returns-clause-count g c =
    let sound : IsSound c.args.self.now = subst IsSound c.self.view_is (record { unit = c.self.invariant; lawful = c.is_past.ensures.lawful; numbered = c.is_past.ensures.numbered }) in
    on_value c.count_images.result _ _ (λ n is. counted (record { unit = c.self.inside.unit; first = c.self.inside.first.items; history = c.self.inside.past.history; next = c.self.inside.past.next }) c.args.self.now c.deref.result.now c.self.inside.past.history n (2 ^ 64 - 1) sound c.self.view_is c.deref.ensures.value refl is) c.count_images.ensures.count
