use Rattle.std.proofs.Common.{◌++◌, ap, length}
use Rattle.std.proofs.lemmas.List.{drop-replicate}
use Rattle.uring_entry.proofs.payload.padded_bytes.Goals as goal

pub returns : goal.returns
returns c = rw c.copy_from_slice.ensures.after (ap (λ xs. c.args.bytes.now ++ xs) (drop-replicate (length c.args.bytes.now) 64 0))
