use Rattle.uring_pictures.proofs.Streams.{on_done, took_in}
use Rattle.uring_pictures.proofs.watching.watch.Goals as goal

pub returns-in-Ok-clause-taken : goal.returns-in-Ok-clause-taken
returns-in-Ok-clause-taken g c =
    took_in c.write_all.result c.args.explainer.now _ _ _ _ _ _ _ _ c.new-text.ensures.bytes c.new-notes.ensures.bytes c.in-Ok.ensures.taken (rw c.as_bytes.ensures.value at c.write_all.ensures.text)

pub returns-in-Ok-clause-followed : goal.returns-in-Ok-clause-followed
returns-in-Ok-clause-followed g c = on_done c.write_all.result _ c.in-Ok.ensures.followed
