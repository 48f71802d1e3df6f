use Rattle.std.proofs.Common.{◌+◌, ap, ◌∙◌}
use Rattle.std.proofs.lemmas.List.{replicate-append-replicate}
use Rattle.uring_files.proofs.Common.{empty_file}
use Rattle.uring_files.proofs.files.Files.new_in.Goals as goal

pub loop-preserved : goal.loop-preserved
loop-preserved g c =
    let p = c.push_reserved.ensures in
    let i = c.loop.invariant in
    record {
      made = rw (p.items, c.new.ensures, i.made) (replicate-append-replicate c.loop.counter 1 empty_file);
      size = p.len ∙ ap (λ n. n + 1) i.size;
      room = rw p.capacity i.room;
    }
