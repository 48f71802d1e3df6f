use Rattle.uring_crash_machine.proofs.LogLaws.{volume_shows_the_file}
use Rattle.uring_crash_machine.proofs.laws.volume_shows_the_file.Goals as goal

pub returns : goal.returns
returns c = volume_shows_the_file c.write_changes_what_lies_under_it.ensures
