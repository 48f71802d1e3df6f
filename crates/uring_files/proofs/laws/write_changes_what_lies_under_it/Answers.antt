use Rattle.uring_files.proofs.Overwrites.{is_written_over}
use Rattle.uring_files.proofs.laws.write_changes_what_lies_under_it.Goals as goal

pub returns : goal.returns
returns c = is_written_over
