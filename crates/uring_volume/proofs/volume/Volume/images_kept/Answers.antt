use Rattle.std.proofs.Common.{◌-◌, ◌^◌, map, subst, refl, arith}
use Rattle.uring_volume.specs.Volume.{IsSound}
use Rattle.uring_volume.proofs.Crashing.{counted, listed, listed_seen}
use Rattle.uring_volume.proofs.volume.Volume.images_kept.Goals as goal

pub returns-then-count-from-clause-too_many : goal.returns-then-count-from-clause-too_many
returns-then-count-from-clause-too_many g c = λ _.
    let sound : IsSound c.args.self.now = subst IsSound c.self.view_is (record { unit = c.self.invariant; lawful = c.is_past.ensures.lawful; numbered = c.is_past.ensures.numbered }) in
    let k = counted (record { unit = c.self.inside.unit; first = c.self.inside.first.items; history = c.self.inside.past.history; next = c.self.inside.past.next }) c.args.self.now c.deref.result.now c.self.inside.past.history c.in-Ok.count (2 ^ 64 - 1) sound c.self.view_is c.deref.ensures.value refl c.in-Ok.ensures.count in
    (k.0, k.1, omega (arith, k.2, c.if-count-from.true, c.from.ensures))

pub returns-in-Ok-list_images-clause-images : goal.returns-in-Ok-list_images-clause-images
returns-in-Ok-list_images-clause-images g c =
    let sound : IsSound c.args.self.now = subst IsSound c.self.view_is (record { unit = c.self.invariant; lawful = c.is_past.ensures.lawful; numbered = c.is_past.ensures.numbered }) in
    listed c.args.self.now (map (λ b. b.items) c.in-Ok-list_images.images.items) sound
    (listed_seen (record { unit = c.self.inside.unit; first = c.self.inside.first.items; history = c.self.inside.past.history; next = c.self.inside.past.next }) c.args.self.now c.deref-2.result.now c.self.inside.past.history (map (λ b. b.items) c.in-Ok-list_images.images.items) c.self.view_is c.deref-2.ensures.value refl c.in-Ok-list_images.ensures.images)
