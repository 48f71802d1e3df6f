use Rattle.std.proofs.Common.{arith, sym, length-set, ◌∙◌}
use Rattle.uring_entry.proofs.Payloads.{all_taken, word_more, words_set}
use Rattle.uring_entry.proofs.payload.words_of_bytes.Goals as goal

pub loop-i-preserved : goal.loop-i-preserved
loop-i-preserved c =
    let i = c.loop-i.i in
    let copied = c.copy_from_slice.ensures in
    (word_more i _ _ c.args.bytes.now c.loop-i.words _ (omega arith) c.fits-bytes copied.after (omega arith) copied.len c.from_le_bytes.ensures c.loop-i.invariant.0, length-set _ _ _ ∙ c.loop-i.invariant.1, words_set i _ c.loop-i.words (omega arith) c.loop-i.invariant.2)

pub returns-clause-bytes : goal.returns-clause-bytes
returns-clause-bytes c = sym (all_taken c.loop-i.i _ _ (omega arith) (omega arith) (sym c.loop-i.invariant.0))
