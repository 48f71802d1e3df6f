-- How a path is opened, so that nobody sleeps until the other end of a named pipe is open. fifo(7); open(2), O_NONBLOCK; but where our own rule is named.
use Rattle.std.specs.Prelude.{◌≡◌, ℕ, ℤ, pos, negsuc, ◌-◌, ◌^◌, Option, Some, None, Bool, true, false, not, ◌&&◌, ◌||◌, ◌==◌, nat_lt, if◌then◌else◌}
use Rattle.std.specs.Ordering.{int_eq}
use Rattle.std.specs.Int.RustNames.{bit_and, bit_or}
use Rattle.uring_operations.specs.declared.files.pipe_open.Opening.{Opening}
use Rattle.uring_operations.specs.declared.files.pipe_open.Opening.TheVariants.{Plain, AtOnce, Pipe}
use Rattle.uring_operations.specs.declared.files.pipe_open.OpenHow.{OpenHow}
use Rattle.uring_operations.specs.declared.files.pipe_open.OpeningStep.{OpeningStep}
use Rattle.uring_operations.specs.declared.files.pipe_open.OpeningStep.TheVariants.{Ends, Waits, ByPath, ByLink, AsksWriter}
use Rattle.uring_operations.specs.declared.requests.ready.RequestStanding.{RequestStanding}
use Rattle.uring_operations.specs.declared.entries.submission.Submission.{Submission}
use Rattle.uring_operations.specs.Entries.Clocks.{has_some}
use Rattle.uring_entry.specs.Errors.{error, is_below}

-- the flags of an open: OPENAT2 (28) has them in its struct open_how, and OPENAT (18) in its entry. openat2(2)
abbrev pub flags_of : Submission → (how : ℕ) → ℕ
flags_of e how = if e.opcode == 28 then how else e.op_flags

-- OPENAT and OPENAT2 are asked not to wait (O_NONBLOCK), as a kernel asks them first, which takes that back from the file. That means nothing for a path alone (O_PATH, 2^21) or a folder (O_DIRECTORY, 65536), and the flags may say it themselves (2048)
abbrev pub asks_opening : (code flags : ℕ) → Bool
asks_opening code flags = (code == 18 || code == 28) && not (has_some flags 2164736)

-- with which flags it is opened then: its own, and O_NONBLOCK (2048). It is taken back of the open file as it is of one that was asked for a call (`flags_after`)
abbrev pub unwilling_flags : ℕ → ℕ
unwilling_flags flags = bit_or flags 2048

-- so the open of a named pipe doesn't wait for its other end. It does if a kernel gives it to a worker at once, who doesn't ask: what may make or cut a file (O_CREAT, 64, or O_TRUNC, 512), and an entry that says so (IOSQE_ASYNC, 16)
abbrev pub goes_to_worker : Submission → (flags : ℕ) → Bool
goes_to_worker e flags = has_some e.flags 16 || has_some flags 576

-- then the path is looked up before, if it is opened to read (0) or to write (1), and not for both (2): our own rule
abbrev pub looks_at_path : Submission → (how : ℕ) → Bool
looks_at_path e how =
    asks_opening e.opcode (flags_of e how) && goes_to_worker e (flags_of e how)
    && nat_lt (bit_and (flags_of e how) 3) 2

-- it is looked up for itself alone (O_PATH, 2^21, with O_CLOEXEC, 2^19), and a link at its end is followed as its open does (O_NOFOLLOW, 2^17). open(2)
abbrev pub looking_flags : Submission → (how : ℕ) → ℕ
looking_flags e how = bit_or 2621440 (bit_and (flags_of e how) 131072)

-- and resolved as its open resolves it, so that what it finds is what that opens. openat2(2), `resolve`
abbrev pub looking_how : Submission → OpenHow → OpenHow
looking_how e how = record { flags = looking_flags e how.flags; mode = 0; resolve = how.resolve }

-- what was found is opened through its link in /proc, which is to be followed: with the flags of its open but O_NOFOLLOW, and not to wait (O_NONBLOCK, 2048). proc_pid_fd(5). And without O_DIRECT (16384), since a kernel refuses that of a pipe which is open by then: so whoever waits for this end finds it open. open(2)
abbrev pub found_flags : Submission → (how : ℕ) → ℕ
found_flags e how = bit_or (bit_and (flags_of e how) (2 ^ 64 - 1 - 147456)) 2048

-- and with its mode, which is nothing's but has to be one. How a path is to be resolved isn't meant for the link
abbrev pub found_how : Submission → OpenHow → OpenHow
found_how e how = record { flags = found_flags e how.flags; mode = how.mode; resolve = 0 }

-- and one that names a pipe counts as a request that may have to wait for its descriptor, though it has none: so it runs, and is carried out again, until the other end is open. Our own rule
abbrev pub standing_after_path : RequestStanding → (names_pipe : Bool) → RequestStanding
standing_after_path s names_pipe = record s { is_stream = s.is_stream || names_pipe }

-- none is polled for it: what its path begins at tells nothing of the pipe's other end, nor does any other descriptor
abbrev pub polled_after_path : ℤ → (names_pipe : Bool) → ℤ
polled_after_path fd names_pipe = if names_pipe then error 1 else fd

-- how the call is made: of the pipe that was found, without waiting; of another path that is asked not to wait, at once; and any other as it stands
abbrev pub opening_of : Submission → (how : ℕ) → (names_pipe : Bool) → Opening
opening_of e how names_pipe =
    if names_pipe && looks_at_path e how then Pipe else
    if asks_opening e.opcode (flags_of e how) then AtOnce else Plain

-- what would wait for a lease is refused (-11, EWOULDBLOCK), and a kernel's worker waits then
abbrev pub opens_again : ℤ → Bool
opens_again res = int_eq res (error 11)

-- whether it is opened to write alone (O_WRONLY, 1)
abbrev pub is_to_write : Submission → (how : ℕ) → Bool
is_to_write e how = bit_and (flags_of e how) 3 == 1

-- someone has it open to write, or has had since it was opened to read, if poll(2) shows something, which are bytes or that the last has closed it; or if a tee(2) that isn't to wait, of a byte of it, came to something else than its end, 0. None: nothing could be teed into, and nobody is known to have
abbrev pub has_writer : (shows : Bool) → Option ℤ → Bool
has_writer shows None = shows
has_writer shows (Some teed) = shows || not (int_eq teed (pos 0))

-- whether it asks to pass by the cache (O_DIRECT, 16384), which no named pipe can: a kernel says so (-22, EINVAL) once it has opened it, and so waits for the other end before. open(2); what Linux 6.18 was seen to do
abbrev pub is_direct : Submission → (how : ℕ) → Bool
is_direct e how = has_some (flags_of e how) 16384

-- what the open of a pipe ends with that has this descriptor
abbrev pub opened_result : Submission → (how : ℕ) → ℤ → ℤ
opened_result e how fd = if is_direct e how then error 22 else fd

-- an open that is to wait is asked not to as well. To write it finds nobody who reads (-6, ENXIO), and waits then. fifo(7)
abbrev pub after_writing : (res end : ℤ) → OpeningStep
after_writing (negsuc below) end = if int_eq (negsuc below) (error 6) then Waits else Ends (negsuc below)
after_writing (pos n) end = Ends end

-- to read it is open at once, so that who writes can open it, and waits until someone has, or has had, it open to write
abbrev pub after_reading : ℤ → OpeningStep
after_reading (negsuc below) = Ends (negsuc below)
after_reading (pos n) = AsksWriter

-- the first open is by its path, so that whatever the kernel refuses of that is refused: rights, a folder's protection of pipes, a way to resolve it. What asks for O_DIRECT is refused for that after all else, and so may wait: it is opened without, to read, and whoever writes finds it so
abbrev pub after_path : Submission → (how : ℕ) → ℤ → OpeningStep
after_path e how res =
    if is_to_write e how then after_writing res res else
    if not (is_direct e how) then after_reading res else
    if int_eq res (error 22) then ByLink else Ends res

-- after -2 (ENOENT) there is no /proc, since what was found is there as long as its descriptor: then its path is opened, which may name another by now, or what was refused is. Our own rule
abbrev pub after_link : Submission → (how : ℕ) → ℤ → OpeningStep
after_link e how res =
    if is_to_write e how then
    (if int_eq res (error 2) then ByPath else after_writing res (opened_result e how res)) else
    if int_eq res (error 2) then Ends (error 22) else after_reading res

-- one that has waited is open already, to read, and waits for who writes; or it is opened once more, where its path may name nothing by then
abbrev pub after_waiting : (opened : ℤ) → OpeningStep
after_waiting opened = if is_below opened then ByLink else AsksWriter

abbrev pub after_asking : Submission → (how : ℕ) → (opened : ℤ) → (has_writer : Bool) → OpeningStep
after_asking e how opened has_writer = if has_writer then Ends (opened_result e how opened) else Waits

-- what is next, after what was done last, which came to `res`: a question to a number that is 0 for no
abbrev pub opening_next : Submission → (how : ℕ) → (opened : ℤ) → Option OpeningStep → ℤ → OpeningStep
opening_next e how opened None res = ByPath
opening_next e how opened (Some ByPath) res = after_path e how res
opening_next e how opened (Some ByLink) res = after_link e how res
opening_next e how opened (Some AsksWriter) res = after_asking e how opened (not (int_eq res (pos 0)))
opening_next e how opened (Some Waits) res = after_waiting opened
opening_next e how opened (Some (Ends end)) res = Ends end

-- what the open of a path is refused with ends it, but for what waits: that nobody reads, and that a pipe has no O_DIRECT
abbrev pub EndsWithItsFault : Type 0
EndsWithItsFault = (e : Submission) (how : ℕ) (opened res : ℤ) → is_below res ≡ true
    → int_eq res (error 6) ≡ false → int_eq res (error 22) ≡ false
    → opening_next e how opened (Some ByPath) res ≡ Ends res

-- what is opened to read by its path has no end but an error: who writes is asked for before
abbrev pub WaitsForItsWriter : Type 0
WaitsForItsWriter = (e : Submission) (how : ℕ) (opened res end : ℤ) → is_to_write e how ≡ false
    → is_direct e how ≡ false → opening_next e how opened (Some ByPath) res ≡ Ends end → is_below end ≡ true
