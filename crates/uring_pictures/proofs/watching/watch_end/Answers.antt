use Rattle.std.proofs.Common.{refl}
use Rattle.uring_pictures.proofs.Streams.{ended_in}
use Rattle.uring_pictures.proofs.watching.watch_end.Goals as goal

pub returns-clause-ended : goal.returns-clause-ended
returns-clause-ended g c =
    let ends = ended_in c.args.explainer.now c.finish_in.new.self _ _ _ _ _ _ c.new-text.ensures.bytes c.new-notes.ensures.bytes c.in_default-finish_in.ensures.ok (rw c.as_bytes.ensures.value at c.in_ok-write_all.ensures.text) in
    ((c.has_bad.ensures, ends), λ first bytes f. c.in_default-end_input.ensures.taken first bytes (c.in_default.ensures.mark refl first bytes f))
