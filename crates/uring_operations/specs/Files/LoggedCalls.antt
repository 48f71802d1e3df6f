-- Which system call of Linux on x86-64 is logged as what, so that it is known what a power failure may leave. The numbers are those of <asm/unistd_64.h>.
use Rattle.std.specs.Prelude.{◌≡◌, ℕ, Bool, true, false, ◌==◌, ◌||◌, Option, Some, None, if◌then◌else◌}
use Rattle.uring_operations.specs.declared.files.logged_call.Bits.{Bits}
use Rattle.uring_operations.specs.declared.files.logged_call.LoggedCall.{LoggedCall}
use Rattle.uring_operations.specs.declared.files.logged_call.LoggedCall.TheVariants.{Nothing, Write, Copy, Sync, SyncAll, Length, Space, Open, MakeFolder, MakeLink, Link, Rename, Remove, Map, SyncMemory, Exit}
use Rattle.uring_operations.specs.declared.files.logging.LoggedOpen.TheVariants.{Plain}
use Rattle.uring_operations.specs.Entries.Clocks.{has_some}
use Rattle.uring_operations.specs.Files.Logging.{open_logged}

-- calls that change names: open (2), creat (85), openat (257) and openat2 (437); mkdir (83) and mkdirat (258); symlink (88) and symlinkat (266); link (86) and linkat (265); rename (82), renameat (264) and renameat2 (316); unlink (87), rmdir (84) and unlinkat (263)
abbrev pub named_call : ℕ → LoggedCall
named_call n =
    if n == 2 || n == 85 || n == 257 || n == 437 then Open else
    if n == 83 || n == 258 then MakeFolder else
    if n == 88 || n == 266 then MakeLink else
    if n == 86 || n == 265 then Link else
    if n == 82 || n == 264 || n == 316 then Rename else
    if n == 87 || n == 84 || n == 263 then Remove else Nothing

-- write (1), pwrite64 (18), writev (20), pwritev (296) and pwritev2 (328) write; sendfile (40), splice (275) and copy_file_range (326) copy; fsync (74) and fdatasync (75) sync a file, sync (162) and syncfs (306) all; truncate (76) and ftruncate (77) set a length, and fallocate (285) gives room; mmap (9) maps, and msync (26) syncs what is mapped; exit_group (231) ends the process
abbrev pub logged_call : ℕ → LoggedCall
logged_call n =
    if n == 1 || n == 18 || n == 20 || n == 296 || n == 328 then Write else
    if n == 40 || n == 275 || n == 326 then Copy else
    if n == 74 || n == 75 then Sync else
    if n == 162 || n == 306 then SyncAll else
    if n == 76 || n == 77 then Length else
    if n == 285 then Space else
    if n == 9 then Map else
    if n == 26 then SyncMemory else
    if n == 231 then Exit else named_call n

-- an open is logged only if it may make a file or take its bytes: O_CREAT (64), O_TRUNC (512) or O_TMPFILE (2^22, which stands beside O_DIRECTORY); these are in the second argument of open, and in the third of openat, while those of openat2 stand in memory. A map only if others see what is written: MAP_SHARED (1), which is a bit of MAP_SHARED_VALIDATE too, in the fourth argument. Arguments count from 0
abbrev pub bits_of_call : ℕ → Option Bits
bits_of_call n =
    if n == 2 then Some (record { argument = 1; bits = 4194880 }) else
    if n == 257 then Some (record { argument = 2; bits = 4194880 }) else
    if n == 9 then Some (record { argument = 3; bits = 1 }) else None

-- so an open of those that aren't logged changes nothing, whatever its path names
abbrev pub TrapsWhatChanges : Type 0
TrapsWhatChanges = (flags : ℕ) (is_there is_regular : Bool) → has_some flags 4194880 ≡ false
    → open_logged flags is_there is_regular ≡ Plain

-- a sync isn't made, since the disk of a run doesn't lose its power: our own rule. All else is
abbrev pub is_made : LoggedCall → Bool
is_made Sync = false
is_made SyncAll = false
is_made call = true
