use Rattle.uring_play_text.proofs.ItemLaws.{item_line}
use Rattle.uring_play_text.proofs.line_read.read_line.Goals as goal

pub returns-in-Some-read_item-clause-read : goal.returns-in-Some-read_item-clause-read
returns-in-Some-read_item-clause-read g c = λ text given.
    let line = rw c.in-Some.is at given in
    item_line c.args.size text c.in-Some.line.now _ c.in-Some-read_item.item line.0 line.1 c.in_ok-tokens.ensures.tokens (rw c.as_slice.ensures.value at c.in-Some-read_item.ensures)
