-- What is remembered of a descriptor's number. Our own rules, but that -95 (EOPNOTSUPP) of a call with RWF_NOWAIT means that its file can't be asked so (preadv2(2)), and that files in memory alone have seals (fcntl(2), F_GET_SEALS).
use Rattle.std.specs.Prelude.{◌≡◌, ℤ, Bool, true, false, ◌&&◌, if◌then◌else◌}
use Rattle.std.specs.Ordering.{int_eq}
use Rattle.uring_operations.specs.declared.files.remembering.Remembered.{Remembered}
use Rattle.uring_operations.specs.declared.files.remembering.Remembered.TheVariants.{Nothing, File, InMemory, Slow}
use Rattle.uring_entry.specs.Errors.{error}

-- what was no file when it was asked is forgotten; and of a file of which more is known that is kept
abbrev pub after_status : Remembered → (is_file : Bool) → Remembered
after_status was false = Nothing
after_status Nothing true = File
after_status File true = File
after_status InMemory true = InMemory
after_status Slow true = Slow

-- a call that was asked not to wait and came to -95: its file can't be asked. Where it is says its seals
abbrev pub asks_seals : Remembered → (is_at_once : Bool) → (res : ℤ) → Bool
asks_seals Nothing is_at_once res = false
asks_seals File is_at_once res = is_at_once && int_eq res (error 95)
asks_seals InMemory is_at_once res = false
asks_seals Slow is_at_once res = false

-- a call at an offset that came to -29 (ESPIPE): its descriptor has none, as a stream, and is no file. pread(2)
abbrev pub after_call : Remembered → (res : ℤ) → Remembered
after_call was res = if int_eq res (error 29) then Nothing else was

-- one that was in memory is asked before a call that isn't asked not to wait: by then the number may be another file's
abbrev pub was_in_memory : Remembered → Bool
was_in_memory Nothing = false
was_in_memory File = false
was_in_memory InMemory = true
was_in_memory Slow = false

-- the file of a number that can't be asked not to wait is in memory, where it has seals, or elsewhere. One that was in memory and has none by now is another file: it is forgotten
abbrev pub after_seals : Remembered → (has_seals : Bool) → Remembered
after_seals Nothing has_seals = Nothing
after_seals File true = InMemory
after_seals File false = Slow
after_seals InMemory true = InMemory
after_seals InMemory false = Nothing
after_seals Slow has_seals = Slow

-- once a number was asked for seals, it isn't a number any more whose calls ask for them
abbrev pub AsksWhatWasAFile : Type 0
AsksWhatWasAFile = (was : Remembered) (is_at_once has_seals : Bool) (res : ℤ)
    → asks_seals (after_seals was has_seals) is_at_once res ≡ false

-- what has shown that it has no offsets isn't taken to be in memory, nor to be a file
abbrev pub ForgetsStreams : Type 0
ForgetsStreams = (was : Remembered) → after_call was (error 29) ≡ Nothing
