use Rattle.uring_play_text.proofs.ItemLaws.{below}
use Rattle.uring_play_text.proofs.line_read.bad_word.Goals as goal

pub returns-then-word-size : goal.returns-then-word-size
returns-then-word-size c = below c.args.size c.args.token.now c.in_ok-word.word c.in_ok-word.ensures.spells c.if-word-size.true
