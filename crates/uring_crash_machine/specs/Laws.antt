-- What the log of a file is, in the words of the machine.
use Rattle.std.specs.Prelude.{◌≡◌, ◌↔◌, ℕ, ℤ, true, List, [], Some, slice_get}
use Rattle.uring_entry.specs.Setup.{Setup}
use Rattle.uring_entry.specs.Requests.{operation_running}
use Rattle.uring_entry.specs.declared.operation.Op.{Op}
use Rattle.uring_files.specs.declared.change.Change.TheVariants.{Put, Sync}
use Rattle.uring_files.specs.Contents.{FileContents, empty_files}
use Rattle.uring_files.specs.Operations.{file_of, change_by}
use Rattle.uring_volume.specs.Volume.{IsShown, is_one_of, running_writes, running_syncs}
use Rattle.uring_core.specs.Histories.{History, world}
use Rattle.uring_core.specs.CalledFor.{IsLawful, files_of}
use Rattle.uring_crash_machine.specs.Epochs.{Epoch, IsLawfulFrom, files_from, file_at, volume_of}
use Rattle.uring_crash_machine.specs.Logs.{log_of, number_of, shown_length}

-- an operation that puts bytes into the file, as a write that has an effect, runs on the volume if it runs on the machine
abbrev pub RunningWritesRun : Type 0
RunningWritesRun =
    (unit : ℕ) (g : Setup) (fd : ℤ) (h : History) (n off len : ℕ) (bytes : List ℕ) (given : ℤ) (op : Op)
    → IsLawful g h → operation_running (world g h).requests n ≡ Some op
    → change_by op (shown_length (log_of unit g fd h).volume) ≡ Put fd off len bytes given
    → is_one_of (number_of n (log_of unit g fd h).requests) (running_writes (log_of unit g fd h).volume.history)
    ≡ true

-- and so does a sync
abbrev pub RunningSyncsRun : Type 0
RunningSyncsRun = (unit : ℕ) (g : Setup) (fd : ℤ) (h : History) (n : ℕ) (op : Op)
    → IsLawful g h → operation_running (world g h).requests n ≡ Some op
    → change_by op (shown_length (log_of unit g fd h).volume) ≡ Sync fd
    → is_one_of (number_of n (log_of unit g fd h).requests) (running_syncs (log_of unit g fd h).volume.history)
    ≡ true

-- what a read of the volume shows, with the writes that have ended over no bytes in the order of their ends, is the file of the machine
abbrev pub VolumeShowsTheFile : Type 0
VolumeShowsTheFile =
    (unit : ℕ) (g : Setup) (fd : ℤ) (h : History) (file : FileContents) → IsLawful g h
    → file_of (files_of g (world g h)) fd ≡ Some file
    → IsShown [] (log_of unit g fd h).volume.history file.bytes

-- the same on a machine that began on other files: a read of the volume of one shows it
abbrev pub VolumesShowTheFiles : Type 0
VolumesShowTheFiles =
    (unit : ℕ) (g : Setup) (e : Epoch) (place : ℕ) (file : FileContents)
    → IsLawfulFrom e.first g e.history
    → slice_get (files_from e.first (world g e.history)) place ≡ Some file
    → IsShown (file_at e.first place).bytes (volume_of unit g e place).history file.bytes

-- a history is lawful from empty files exactly if it is lawful on a new machine
abbrev pub EmptyFilesAreTheCase : Type 0
EmptyFilesAreTheCase =
    (g : Setup) (h : History) → IsLawfulFrom (empty_files g.files) g h ↔ IsLawful g h
