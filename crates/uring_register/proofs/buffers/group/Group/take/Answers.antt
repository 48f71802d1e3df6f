use Rattle.std.proofs.Common.{◌≡◌, ◌+◌, ◌-◌, ◌≤◌, refl, arith}
use Rattle.uring_register.specs.Buffers.Provided.{Took}
use Rattle.uring_register.proofs.GroupKept.{Drops, dropped}
use Rattle.uring_register.proofs.buffers.group.Group.take.Goals as goal

pub returns-then-self-gt0 : goal.returns-then-self-gt0
returns-then-self-gt0 c log rows keeps fits =
    let g = c.args.self.now in
    let low : 1 ≤ g.count = omega (arith, c.if-self-gt0.true) in
    let is : c.drop_first.new.self ≡ record g { first = g.first + 1; count = g.count - 1 } = c.drop_first.ensures low (omega (arith, keeps.within, fits)) in
    let drops : Drops Took log 1 = record { there = refl; entries = refl; head = grind (arith, c.if-self-ne0.false, keeps.entries); more = grind (arith, c.if-self-ne0.false, keeps.entries, keeps.count, low); provided = refl; same = λ i. refl } in
    rw is (dropped Took log g rows 1 keeps low drops)
