use Rattle.std.proofs.Common.{None, Some, sym, subst}
use Rattle.uring_options.proofs.Common.{AnswersNamed, TakesNamed, found_of, rows_of}
use Rattle.uring_options.proofs.CommandLine.{named_by}
use Rattle.uring_options.proofs.CommandOptions.{words_taken}
use Rattle.uring_options.proofs.command_line.asked.Goals as goal

pub named-requires : goal.named-requires
named-requires c =
    let same = named_by c.args.matches.now c.requires.0 (Some (c.in-Some.name.now, rows_of (found_of c.in-Some.matches.now))) c.requires.1 c.in-Some.ensures.name c.in-Some.ensures.rows in
    subst TakesNamed (sym same) (words_taken c.requires.0 c.requires.2)

pub returns-in-Some : goal.returns-in-Some
returns-in-Some c = λ words has fine.
    let same = named_by c.args.matches.now words (Some (c.in-Some.name.now, rows_of (found_of c.in-Some.matches.now))) has c.in-Some.ensures.name c.in-Some.ensures.rows in
    subst (λ named. AnswersNamed named c.named.result) same c.named.ensures

pub returns-in-None : goal.returns-in-None
returns-in-None c = λ words has fine.
    subst (λ named. AnswersNamed named c.defaulted.result) (named_by c.args.matches.now words None has c.in-None.ensures.name c.in-None.ensures.rows) c.defaulted.ensures
