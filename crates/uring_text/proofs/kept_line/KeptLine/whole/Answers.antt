use Rattle.std.proofs.Common.{◌∙◌}
use Rattle.uring_text.proofs.KeptLines.{whole_kept}
use Rattle.uring_text.proofs.kept_line.KeptLine.whole.Goals as goal

pub returns-clause-line : goal.returns-clause-line
returns-clause-line c = λ line e.
    let all = rw c.if-self.false at c.self.view_is in
    c.as_slice.ensures.value ∙ whole_kept line c.self.inside.first.items (all ∙ e)
