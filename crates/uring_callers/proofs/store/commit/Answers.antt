use Rattle.uring_callers.proofs.Committing.{committed, commit_keeps, commit_leaves, commit_ends}
use Rattle.uring_callers.proofs.store.commit.Goals as goal

pub returns : goal.returns
returns c =
    let made =
    committed c.args.log.now c.begin_write.new.self c.end_write.new.self c.begin_sync.new.self c.end_sync.new.self c.args.end c.args.bytes.items c.in_ok-write.write c.in_ok-sync.sync c.end_write.result c.end_sync.result
    c.in_ok-write.ensures.issued c.in_ok-write.ensures.number c.end_write.ensures.found c.end_write.ensures.ended
    c.in_ok-sync.ensures.issued c.in_ok-sync.ensures.number c.end_sync.ensures.found c.end_sync.ensures.ended
    in
    record {
      safe = commit_keeps c.args.log.now c.end_sync.new.self c.args.end c.args.bytes.items c.in_ok-write.write c.is_sound.ensures c.requires.after made;
      stay = commit_leaves c.args.log.now c.end_sync.new.self c.args.end c.args.bytes.items c.in_ok-write.write c.requires.after made;
      after = commit_ends c.args.log.now c.end_sync.new.self c.args.end c.args.bytes.items c.in_ok-write.write c.requires.after made;
    }
