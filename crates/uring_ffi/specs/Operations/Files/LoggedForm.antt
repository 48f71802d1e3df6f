-- What a system call and a write are logged as, in words that C can read.
use Rattle.std.specs.Prelude.{ℕ}
use Rattle.uring_operations.specs.declared.files.logged_bytes.Written.{Written}
use Rattle.uring_operations.specs.declared.files.logged_bytes.Written.TheVariants.{Nothing as NotWritten, Print, File}
use Rattle.uring_operations.specs.declared.files.logged_call.LoggedCall.{LoggedCall}
use Rattle.uring_operations.specs.declared.files.logged_call.LoggedCall.TheVariants.{Nothing, Write, Copy, Sync, SyncAll, Length, Space, Open, MakeFolder, MakeLink, Link, Rename, Remove, Map, SyncMemory, Exit}

-- calls count in the order of `LoggedCall`, from 0. Our own rule
abbrev pub word_of_logged_call : LoggedCall → ℕ
word_of_logged_call Nothing = 0
word_of_logged_call Write = 1
word_of_logged_call Copy = 2
word_of_logged_call Sync = 3
word_of_logged_call SyncAll = 4
word_of_logged_call Length = 5
word_of_logged_call Space = 6
word_of_logged_call Open = 7
word_of_logged_call MakeFolder = 8
word_of_logged_call MakeLink = 9
word_of_logged_call Link = 10
word_of_logged_call Rename = 11
word_of_logged_call Remove = 12
word_of_logged_call Map = 13
word_of_logged_call SyncMemory = 14
word_of_logged_call Exit = 15

-- writes count in the order of `Written`, from 0. Our own rule
abbrev pub word_of_written : Written → ℕ
word_of_written NotWritten = 0
word_of_written Print = 1
word_of_written File = 2
