use Rattle.std.proofs.Common.{◌<◌, arith, refl, sym, subst, nat_eq}
use Rattle.std.specs.HashMap.{get}
use Rattle.uring_dispatch.specs.Noted.{IsBetween}
use Rattle.uring_dispatch.proofs.Common.{end_of}
use Rattle.uring_dispatch.proofs.ByData.{found_next, found_past}
use Rattle.uring_dispatch.proofs.by_user_data.ByUserData.fill.Goals as goal
use Rattle.uring_dispatch.proofs.by_user_data.ByUserData.fill.Goals.{in-Some, in_default}

pub loop-n-preserved : goal.loop-n-preserved
loop-n-preserved c =
    let i = c.loop-n.invariant in
    let within : c.loop-n.n < end_of c.args.window.now = omega (arith, c.end-n-end.ensures.value) in
    elim c.match-get.branch [
      | in-Some w ↦
          rw w.self-is (record {
            found = found_next _ _ _ c.loop-n.n w.in-Some.request.now i.found i.stop within (sym w.in-Some.ensures) refl
                (subst (λ d. IsBetween (get nat_eq w.note.new.ends) d c.loop-n.n) w.user_data.ensures w.note.ensures.here)
                w.note.ensures.kept w.note.ensures.spare;
            stop = refl;
            places = omega (arith, i.places, i.stop, w.note.ensures.spare);
          })
      | in_default w ↦
          rw w.self-is (record {
            found = found_past _ _ _ c.loop-n.n i.found i.stop within (sym w.in_default.ensures) refl refl;
            stop = refl;
            places = omega (arith, i.places, i.stop);
          })
    ]
