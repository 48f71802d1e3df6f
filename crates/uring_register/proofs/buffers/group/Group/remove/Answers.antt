use Rattle.std.proofs.Common.{◌≡◌, ◌+◌, ◌-◌, ◌≤◌, refl, arith}
use Rattle.uring_register.specs.Buffers.Provided.{Removed, removed}
use Rattle.uring_register.proofs.GroupKept.{Drops, dropped}
use Rattle.uring_register.proofs.buffers.group.Group.remove.Goals as goal

pub returns : goal.returns
returns c log rows keeps fits =
    let n = c.min-gone.result in
    let g = c.args.self.now in
    let low : n ≤ g.count = omega (arith, c.min-gone.ensures) in
    let is : c.drop_first.new.self ≡ record g { first = g.first + n; count = g.count - n } = c.drop_first.ensures low (omega (arith, keeps.within, fits)) in
    let told : n ≡ removed log c.args.count = omega (arith, c.min-gone.ensures, keeps.count) in
    let drops : Drops (Removed c.args.count) log n = record { there = refl; entries = refl; head = refl; more = omega (arith, told); provided = refl; same = λ i. refl } in
    (told, rw is (dropped (Removed c.args.count) log g rows n keeps low drops))
