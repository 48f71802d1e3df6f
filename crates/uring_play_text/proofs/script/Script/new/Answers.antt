use Rattle.std.proofs.Common.{refl}
use Rattle.uring_play_text.proofs.ScriptLaws.{at_start}
use Rattle.uring_play_text.proofs.script.Script.new.Goals as goal

pub returns : goal.returns
returns c = rw (c.new.ensures.items, c.new-2.ensures.items) (refl, at_start c.args.size)
