use Rattle.std.proofs.Common.{sym, ap, ◌∙◌}
use Rattle.uring_trace.proofs.Common.{requests_of, world}
use Rattle.uring_rules.specs.Rules.{why_of}
use Rattle.uring_trace.proofs.ChosenTexts.{target_told}
use Rattle.uring_trace.proofs.chosen.is_target_of.Goals as goal

pub returns-in-Some : goal.returns-in-Some
returns-in-Some c = λ h fits of.
    let stands = c.why.ensures h fits ∙ ap (λ linux. why_of linux (requests_of (world c.args.core.now.setup h)) c.args.other) c.requires in
    target_told (world c.args.core.now.setup h).requests c.args.number c.args.other c.args.sought c.in-Some.found _ _ of (sym (c.entry.ensures h fits) ∙ c.in-Some.is) stands (rw c.user_data.ensures at c.is_target_by.ensures)
