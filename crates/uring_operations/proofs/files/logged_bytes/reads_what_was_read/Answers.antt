use Rattle.uring_operations.proofs.ReadingRuns.{reads_what_was_read}
use Rattle.uring_operations.proofs.files.logged_bytes.reads_what_was_read.Goals as goal

pub returns : goal.returns
returns c = reads_what_was_read
