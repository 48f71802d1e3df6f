-- Which syncs are taken for done by whoever needn't wait for the disk, as where no power fails. Our own rule.
use Rattle.std.specs.Prelude.{Bool, false, ◌&&◌, ◌||◌}
use Rattle.uring_operations.specs.declared.files.openness.Openness.{Openness}
use Rattle.uring_operations.specs.declared.files.syncing.SyncedKind.{SyncedKind}
use Rattle.uring_operations.specs.Files.Openness.{counts_as_open}

-- whether an fsync(2) or fdatasync(2) of a descriptor is taken for done: of one that counts as open, on a regular file or a folder, since either ends with 0 there unless the disk fails. Of anything else the call says what it says, as -22 of a pipe
abbrev pub counts_as_synced : Openness → SyncedKind → Bool
counts_as_synced d k = counts_as_open d false && (k.is_regular || k.is_folder)
