use Rattle.std.proofs.Common.{vec_capacity, vec_len, sym, ◌∙◌, arith}
use Rattle.uring_threads.proofs.Common.{history, now, unreaped}
use Rattle.uring_threads.proofs.Reporting.{room_for_next, one_more_listed, all_listed}
use Rattle.uring_threads.proofs.report.list_unreaped.Goals as goal

pub push_reserved-requires : goal.push_reserved-requires
push_reserved-requires c =
    room_for_next (unreaped (now c.args.kept.now).completions) c.loop-place.place c.in-Some.completion (vec_len c.loop-place.list) (vec_capacity c.args.list.now) (vec_capacity c.loop-place.list)
    (sym c.rest.ensures ∙ c.in-Some.is) c.loop-place.invariant.many c.requires.room c.loop-place.invariant.room

pub loop-place-preserved : goal.loop-place-preserved
loop-place-preserved c =
    record {
      listed = one_more_listed (unreaped (now c.args.kept.now).completions) c.loop-place.list.items c.push_reserved.new.self.items c.loop-place.place c.in-Some.completion (sym c.rest.ensures ∙ c.in-Some.is) c.loop-place.invariant.listed c.push_reserved.ensures.items;
      many = omega (arith, c.push_reserved.ensures.len, c.loop-place.invariant.many);
      room = omega (arith, c.push_reserved.ensures.capacity, c.loop-place.invariant.room);
    }

pub returns : goal.returns
returns c =
    let counts = c.counts-counts.ensures in
    let law = c.reaped_begin_posted.ensures c.args.kept.now.setup (history c.args.kept.now) c.is_lawful.ensures.limits c.is_lawful.ensures.lawful in
    all_listed c.args.kept.now.setup.cq (now c.args.kept.now).completions c.loop-place.list.items c.loop-place.place law c.loop-place.invariant.listed (omega (arith, c.loop-place-test.false, counts.posted, counts.reaped))
