use Rattle.uring_register.proofs.MappedLines.{read_so}
use Rattle.uring_register.proofs.kernel_lists.mapped.reads_what_is_written.Goals as goal

pub returns : goal.returns
returns c = read_so
