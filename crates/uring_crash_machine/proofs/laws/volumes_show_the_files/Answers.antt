use Rattle.uring_crash_machine.proofs.LogLaws.{volumes_show_the_files}
use Rattle.uring_crash_machine.proofs.laws.volumes_show_the_files.Goals as goal

pub returns : goal.returns
returns c = volumes_show_the_files c.write_changes_what_lies_under_it.ensures
