use Rattle.std.proofs.Common.{ap, ◌∙◌}
use Rattle.uring_entry.specs.Layout.{bytes_of}
use Rattle.uring_entry.proofs.Payloads.{last_eight}
use Rattle.uring_entry.proofs.sqe.Sqe.payload.Goals as goal

pub returns : goal.returns
returns c = rw (← c.self.view_is) (c.bytes_of_words.ensures ∙ ap bytes_of (last_eight c.self.inside.words c.self.told))
