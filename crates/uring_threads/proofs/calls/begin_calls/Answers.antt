use Rattle.std.proofs.Common.{◌++◌, ◌∷◌, [], refl, ap, ◌∙◌, arith}
use Rattle.uring_core.specs.World.{World}
use Rattle.uring_threads.proofs.CallsMade.{begun_again, begun_all, begun_spent, next_recorded, none_recorded, none_made, one_made}
use Rattle.uring_threads.proofs.calls.begin_calls.Goals as goal

pub loop-rest-init : goal.loop-rest-init
loop-rest-init g c = record {
  made = [];
  have = none_made c.args.kept.now c.args.count c.requires.stands;
  row = none_recorded c.args.kept.now _;
  not_closed = c.requires.not_closed;
  events = omega arith;
}

pub loop-rest-preserved : goal.loop-rest-preserved
loop-rest-preserved g c =
    let i = c.loop-rest.invariant in
    let ensures = c.in-Taken.ensures in
    let n = c.in-Taken.taken in
    record {
      made = i.made ++ n ∷ [];
      have = one_made c.args.kept.now c.loop-rest.kept c.make_call.new.kept i.made c.loop-rest.rest i.have n ensures.world ensures.first ensures.row.setup;
      row = next_recorded c.args.kept.now c.loop-rest.kept c.make_call.new.kept i.made c.loop-rest.rest i.have i.row n ensures.first ensures.row;
      not_closed = ap (λ (w : World). w.is_closed) ensures.world ∙ i.not_closed;
      events = omega (arith, i.events, ensures.length n refl, ensures.first.0, ensures.first.1);
    }

pub returns-in-Again-clause-begun : goal.returns-in-Again-clause-begun
returns-in-Again-clause-begun g c =
    let i = c.loop-rest.invariant in
    begun_again c.args.kept.now c.loop-rest.kept c.make_call.new.kept i.made c.loop-rest.rest i.have i.row c.loop-rest-test.true c.in-Again.ensures.world c.in-Again.ensures.row

pub returns-in-Spent-clause-begun : goal.returns-in-Spent-clause-begun
returns-in-Spent-clause-begun g c =
    let i = c.loop-rest.invariant in
    begun_spent c.args.kept.now c.loop-rest.kept c.make_call.new.kept i.made c.loop-rest.rest i.have i.row c.loop-rest-test.true c.in-Spent.ensures.world c.in-Spent.ensures.row (c.in-Spent.ensures.spent refl)

pub returns-clause-begun : goal.returns-clause-begun
returns-clause-begun g c =
    let i = c.loop-rest.invariant in
    begun_all c.args.kept.now c.loop-rest.kept i.made c.loop-rest.rest (omega (arith, c.loop-rest-test.false)) i.have i.row
