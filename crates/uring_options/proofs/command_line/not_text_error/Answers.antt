use Rattle.uring_options.proofs.command_line.not_text_error.Goals as goal

pub returns : goal.returns
returns c = c.error.ensures.kind
