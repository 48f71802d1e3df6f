use Rattle.std.proofs.Common.{◌≡◌, ◌<◌, ◌≤◌, ◌++◌, ◌∷◌, [], length, ◌∙◌, rules}
use Rattle.uring_text.proofs.KeptLines.{kept_more, kept_full}
use Rattle.uring_text.proofs.kept_line.KeptLine.push.Goals as goal

pub returns-in-Ok : goal.returns-in-Ok
returns-in-Ok c =
    let pushed : c.push.new.self.items ≡ c.self.inside.first.items ++ c.args.byte ∷ [] = search rules in
    let room : length c.self.inside.first.items < 300 = search rules in
    rw pushed (λ line e. kept_more line _ c.self.inside.is_long c.args.byte room (c.self.view_is ∙ e))

pub returns-else-len-lt-LONGEST_LINE : goal.returns-else-len-lt-LONGEST_LINE
returns-else-len-lt-LONGEST_LINE c =
    let full : 300 ≤ length c.self.inside.first.items = search rules in
    λ line e. kept_full line _ c.self.inside.is_long c.args.byte full (c.self.view_is ∙ e)
