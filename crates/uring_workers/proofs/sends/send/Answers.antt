use Rattle.std.proofs.Common.{◌<◌, length, refl}
use Rattle.std.proofs.lemmas.List.{get_or-set_other, get_or-set_same, get_or_default}
use Rattle.uring_workers.proofs.sends.send.Goals as goal

pub returns-clause-others : goal.returns-clause-others
returns-clause-others c = λ k d low ne. get_or-set_other c.args.lanes.now c.args.place k _ d ne

pub returns-clause-here : goal.returns-clause-here
returns-clause-here c = λ d.
    let within : c.args.place < length c.args.lanes.now = c.requires.place in
    rw (get_or-set_same, get_or_default c.args.lanes.now c.args.place d c.index-lanes-place.result within)
    (record { jobs = c.push_reserved.ensures.sent.0; ring = c.push_reserved.ensures.ring; results = refl })
