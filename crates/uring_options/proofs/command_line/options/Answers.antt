use Rattle.clap.specs.Walk.{texts}
use Rattle.uring_options.proofs.Refusals.{words_answered, words_refused, small_exactly, refusal_is_fault}
use Rattle.uring_options.proofs.command_line.options.Goals as goal

pub asked-requires : goal.asked-requires
asked-requires c = (texts c.args.args.now, c.in_ok-matches_of.ensures.matches, c.in_ok-matches_of.ensures.kinds)

pub returns : goal.returns
returns c =
    let words = texts c.args.args.now in
    let fine = c.in_ok-matches_of.ensures.kinds in
    let outcome = words_answered words c.asked.result fine (c.asked.ensures words c.in_ok-matches_of.ensures.matches fine) in
    record { ok = outcome.0; small = small_exactly words c.asked.result outcome; words = refusal_is_fault words c.asked.result outcome }

pub returns-in_err-matches_of-clause-small : goal.returns-in_err-matches_of-clause-small
returns-in_err-matches_of-clause-small c =
    let words = texts c.args.args.now in
    small_exactly words c.from_residual.result (words_refused words c.from_residual.result c.in_err-matches_of.field-0.0 c.from_residual.ensures.1 c.in_err-matches_of.ensures.kinds)
