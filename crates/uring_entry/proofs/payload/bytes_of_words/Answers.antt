use Rattle.std.proofs.Common.{◌∙◌, arith}
use Rattle.uring_entry.proofs.Payloads.{all_taken, bytes_more}
use Rattle.uring_entry.proofs.payload.bytes_of_words.Goals as goal

pub returns : goal.returns
returns c = all_taken c.loop-i.i _ _ (omega arith) (omega arith) c.loop-i.invariant.0

pub loop-i-preserved : goal.loop-i-preserved
loop-i-preserved c =
    bytes_more c.loop-i.i _ c.loop-i.bytes c.args.words.now _ (omega arith) c.requires (omega arith) (c.copy_from_slice.ensures.after ∙ c.to_le_bytes.ensures) c.loop-i.invariant
