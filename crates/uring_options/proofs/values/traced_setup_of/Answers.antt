use Rattle.std.proofs.Common.{ap, ◌∙◌}
use Rattle.uring_options.proofs.Common.{Setup, found_of, rows_of}
use Rattle.uring_options.proofs.CommandLine.{traced_over}
use Rattle.uring_options.proofs.values.traced_setup_of.Goals as goal

pub stopping_if-requires : goal.stopping_if-requires
stopping_if-requires c = c.in_ok-setup.ensures.ok.2.goes_on

pub linux_if-requires : goal.linux_if-requires
linux_if-requires c = ap (λ (s : Setup). s.linux) c.stopping_if.ensures ∙ c.in_ok-setup.ensures.ok.2.manual

pub returns-clause-ok : goal.returns-clause-ok
returns-clause-ok c =
    let over = c.in_ok-setup.ensures.ok in
    (over.0, over.1, traced_over (rows_of (found_of c.args.matches.now)) over.0 _ _ over.2 _ _ c.is_given-stops.ensures c.is_given-is_linux.ensures (c.linux_if.ensures ∙ ap (λ (s : Setup). record s { linux = c.is_given-is_linux.result }) c.stopping_if.ensures))
