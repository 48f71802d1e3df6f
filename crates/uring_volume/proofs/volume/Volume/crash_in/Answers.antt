use Rattle.std.proofs.Common.{◌≡◌, ◌^◌, subst, ap, sym, refl, arith}
use Rattle.uring_volume.specs.Volume.{IsSound}
use Rattle.uring_volume.proofs.Results.{on_value}
use Rattle.uring_volume.proofs.Crashing.{left_seen, left_is_image, left_alone, left_keeps, each_is_left}
use Rattle.uring_volume.proofs.volume.Volume.crash_in.Goals as goal

pub returns-clause-image : goal.returns-clause-image
returns-clause-image g c =
    let sound : IsSound c.args.self.now = subst IsSound c.self.view_is (record { unit = c.self.invariant; lawful = c.is_past.ensures.lawful; numbered = c.is_past.ensures.numbered }) in
    on_value c.crash.result _ _ (λ now left. left_is_image c.args.self.now c.args.choice.now now.items sound (left_seen (record { unit = c.self.inside.unit; first = c.self.inside.first.items; history = c.self.inside.past.history; next = c.self.inside.past.next }) c.args.self.now c.deref.result.now c.self.inside.past.history c.args.choice.now now.items c.self.view_is c.deref.ensures.value refl left)) c.crash.ensures.left

pub returns-clause-chosen : goal.returns-clause-chosen
returns-clause-chosen g c =
    on_value c.crash.result _ _ (λ now left. left_alone c.args.self.now c.args.choice.now now.items (left_seen (record { unit = c.self.inside.unit; first = c.self.inside.first.items; history = c.self.inside.past.history; next = c.self.inside.past.next }) c.args.self.now c.deref.result.now c.self.inside.past.history c.args.choice.now now.items c.self.view_is c.deref.ensures.value refl left)) c.crash.ensures.left

pub returns-clause-complete : goal.returns-clause-complete
returns-clause-complete g c =
    let sound : IsSound c.args.self.now = subst IsSound c.self.view_is (record { unit = c.self.invariant; lawful = c.is_past.ensures.lawful; numbered = c.is_past.ensures.numbered }) in
    let same : c.args.self.now.next ≡ c.self.inside.past.next = ap (λ v. v.next) (sym c.self.view_is) in
    each_is_left c.args.self.now (2 ^ 64) sound (omega (arith, same, c.is_bounded.ensures))

pub returns-clause-kept : goal.returns-clause-kept
returns-clause-kept g c =
    let sound : IsSound c.args.self.now = subst IsSound c.self.view_is (record { unit = c.self.invariant; lawful = c.is_past.ensures.lawful; numbered = c.is_past.ensures.numbered }) in
    on_value c.crash.result _ _ (λ now left. left_keeps c.args.self.now c.args.choice.now now.items sound (left_seen (record { unit = c.self.inside.unit; first = c.self.inside.first.items; history = c.self.inside.past.history; next = c.self.inside.past.next }) c.args.self.now c.deref.result.now c.self.inside.past.history c.args.choice.now now.items c.self.view_is c.deref.ensures.value refl left)) c.crash.ensures.left
