use Rattle.std.proofs.Common.{map}
use Rattle.std.proofs.lemmas.Result.{on_ok_weaker}
use Rattle.uring_observed_text.proofs.HistoryLines.{shown_more, unhidden}
use Rattle.uring_observed_text.proofs.writing.push_event.Goals as goal

pub returns-in_default-clause-text : goal.returns-in_default-clause-text
returns-in_default-clause-text g c =
    let seen = unhidden c.args.event.now.0 c.in_default.not-Issue c.in_default.not-Finish c.in_default.not-Flush in
    on_ok_weaker c.push_shown.result (λ more. shown_more (map (λ line. line.now) c.args.shown.now) c.args.count c.args.text.now.items c.push_shown.new.text.items c.args.event.now seen (c.requires seen) more) c.push_shown.ensures.text
