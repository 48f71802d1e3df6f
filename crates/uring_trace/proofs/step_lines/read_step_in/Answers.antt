use Rattle.uring_trace.proofs.Spellings.{read_line}
use Rattle.uring_trace.proofs.step_lines.read_step_in.Goals as goal

pub returns-clause-step : goal.returns-clause-step
returns-clause-step g c = read_line c.args.line.now c.read_words.result c.requires (rw (c.as_slice.ensures.value, c.in_ok-tokens.ensures.tokens) at c.read_words.ensures)
