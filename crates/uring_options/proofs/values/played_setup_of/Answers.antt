use Rattle.clap.specs.Words.{found_of, rows_of}
use Rattle.uring_options.proofs.CommandLine.{played_setup}
use Rattle.uring_options.proofs.values.played_setup_of.Goals as goal

pub linux_if-requires : goal.linux_if-requires
linux_if-requires c = c.in_ok-setup.ensures.ok.2.manual

pub returns-clause-ok : goal.returns-clause-ok
returns-clause-ok c =
    let over = c.in_ok-setup.ensures.ok in
    (over.0, over.1, played_setup (rows_of (found_of c.args.matches.now)) over.0 _ _ over.2 _ c.is_given-is_linux.ensures c.linux_if.ensures)
