use Rattle.uring_volume.proofs.Narrower.{end_changes_none, issue_changes_none, failure_changes_none, write_failure_changes_none}
use Rattle.uring_volume.proofs.laws.others_change_none.Goals as goal

pub returns : goal.returns
returns c = record { write_ends = end_changes_none; write_fails = write_failure_changes_none; sync_begins = issue_changes_none; sync_fails = failure_changes_none }
