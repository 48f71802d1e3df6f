use Rattle.std.proofs.Common.{arith, sym, length-set, ◌∙◌}
use Rattle.uring_entry.proofs.Payloads.{all_taken, word_more, words_set}
use Rattle.uring_text.proofs.hex_tokens.entry_of_bytes.Goals as goal

pub loop-i-preserved : goal.loop-i-preserved
loop-i-preserved c =
    let i = c.loop-i.i in
    let copied = c.copy_from_slice.ensures in
    (word_more i _ _ c.args.bytes.now c.loop-i.words _ (omega arith) (λ k. omega (arith, c.type_inv.bytes k)) copied.after (omega arith) copied.len c.from_le_bytes.ensures c.loop-i.invariant.0, length-set _ _ _ ∙ c.loop-i.invariant.1, words_set i _ c.loop-i.words (omega arith) c.loop-i.invariant.2)

pub returns : goal.returns
returns c =
    let words = c.loop-i.invariant in
    rw c.from_words.ensures (record { size = words.1; words = words.2; all = sym (all_taken c.loop-i.i _ _ (omega arith) (omega arith) (sym words.0)) })
