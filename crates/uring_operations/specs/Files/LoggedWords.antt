-- Which arguments of a system call that is logged are what: each is told by its place in the manual page of its call, and of one of 32 bits the lower half counts.
use Rattle.std.specs.Prelude.{ℕ, ℤ, pos, true, false, ◌==◌, ◌||◌, if◌then◌else◌}
use Rattle.std.specs.Int.{w32, cast_signed}
use Rattle.std.specs.Int.RustNames.{bit_and}
use Rattle.uring_operations.specs.declared.calls.system_call.SystemCall.{SystemCall}
use Rattle.uring_operations.specs.declared.files.logged_call.LoggedCall.{LoggedCall}
use Rattle.uring_operations.specs.declared.files.logged_call.LoggedCall.TheVariants.{Nothing, Write, Copy, Sync, SyncAll, Length, Space, Open, MakeFolder, MakeLink, Link, Rename, Remove, Map, SyncMemory, Exit}
use Rattle.uring_operations.specs.declared.files.logged_words.CallWords.{CallWords}
use Rattle.uring_operations.specs.Files.LoggedCalls.{logged_call}
use Rattle.uring_entry.specs.Errors.{error}

-- an argument of 32 bits,
abbrev pub half : ℕ → ℕ
half argument = bit_and argument 4294967295

-- and one with a sign, as a descriptor is
abbrev pub descriptor : ℕ → ℤ
descriptor argument = cast_signed w32 (half argument)

-- AT_FDCWD: a path begins where the process is
abbrev pub here : ℤ
here = error 100

-- no offset
abbrev pub nowhere : ℕ
nowhere = 18446744073709551615

abbrev pub none : CallWords
none = record {
  by_descriptor = false;
  by_path = false;
  has_vectors = false;
  fd = pos 0;
  second_fd = pos 0;
  flags = 0;
  protection = 0;
  path = 0;
  second_path = 0;
  offset = 0;
  length = 0;
  address = 0;
  count = 0;
}

abbrev pub on_descriptor : ℕ → CallWords
on_descriptor argument = record none { by_descriptor = true; fd = descriptor argument }

abbrev pub on_path : (folder : ℤ) → ℕ → CallWords
on_path folder path = record none { by_path = true; fd = folder; path = path }

-- write(fd, buf, count), pwrite64(fd, buf, count, offset)
abbrev pub bytes_of : SystemCall → (offset : ℕ) → CallWords
bytes_of c offset = record (on_descriptor c.first) { address = c.second; length = c.third; offset = offset }

-- writev(fd, iov, iovcnt), pwritev(fd, iov, iovcnt, offset, high), pwritev2(fd, iov, iovcnt, offset, high, flags), of whose offset the first word has all bits. pwritev(2), NOTES
abbrev pub vectors_of : SystemCall → (offset flags : ℕ) → CallWords
vectors_of c offset flags =
    record (on_descriptor c.first) {
      has_vectors = true;
      address = c.second;
      count = c.third;
      offset = offset;
      flags = flags;
    }

abbrev pub words_of_write : SystemCall → CallWords
words_of_write c =
    if c.number == 1 then bytes_of c nowhere else
    if c.number == 18 then bytes_of c c.fourth else
    if c.number == 20 then vectors_of c nowhere 0 else
    if c.number == 296 then vectors_of c c.fourth 0 else
    if c.number == 328 then vectors_of c c.fourth (half c.sixth) else
    bytes_of c nowhere

-- sendfile(out_fd, in_fd, offset, count), which has no place of what it writes; splice(fd_in, off_in, fd_out, off_out, len, flags) and copy_file_range(fd_in, off_in, fd_out, off_out, len, flags), where the place is what is pointed to, if it is
abbrev pub words_of_copy : SystemCall → CallWords
words_of_copy c =
    if c.number == 40 then record (on_descriptor c.first) { length = c.fourth; offset = nowhere } else
    record (on_descriptor c.third) { address = c.fourth; length = c.fifth; offset = nowhere }

-- sync(), fsync(fd), fdatasync(fd), syncfs(fd)
abbrev pub words_of_sync : SystemCall → CallWords
words_of_sync c = if c.number == 162 then none else on_descriptor c.first

-- truncate(path, length), ftruncate(fd, length), fallocate(fd, mode, offset, len)
abbrev pub words_of_length : SystemCall → CallWords
words_of_length c =
    if c.number == 76 then record (on_path here c.first) { offset = c.second } else
    if c.number == 77 then record (on_descriptor c.first) { offset = c.second } else
    record (on_descriptor c.first) { flags = half c.second; offset = c.third; length = c.fourth }

-- open(path, flags, mode), openat(dirfd, path, flags, mode), openat2(dirfd, path, how, size); creat(path, mode), which is an open with O_CREAT (64), O_WRONLY (1) and O_TRUNC (512)
abbrev pub words_of_open : SystemCall → CallWords
words_of_open c =
    if c.number == 2 then record (on_path here c.first) { flags = half c.second } else
    if c.number == 85 then record (on_path here c.first) { flags = 577 } else
    if c.number == 257 then record (on_path (descriptor c.first) c.second) { flags = half c.third } else
    record (on_path (descriptor c.first) c.second) { address = c.third; count = c.fourth }

-- mkdir(path, mode), rmdir(path), unlink(path), mkdirat(dirfd, path, mode), unlinkat(dirfd, path, flags)
abbrev pub words_of_name : SystemCall → CallWords
words_of_name c =
    if c.number == 258 || c.number == 263 then on_path (descriptor c.first) c.second else
    on_path here c.first

-- symlink(target, linkpath), symlinkat(target, newdirfd, linkpath)
abbrev pub words_of_symbolic_link : SystemCall → CallWords
words_of_symbolic_link c =
    if c.number == 266 then record (on_path (descriptor c.second) c.third) { second_path = c.first } else
    record (on_path here c.second) { second_path = c.first }

-- link(oldpath, newpath), linkat(olddirfd, oldpath, newdirfd, newpath, flags): its path is the new name
abbrev pub words_of_link : SystemCall → CallWords
words_of_link c =
    if c.number == 265 then
    record (on_path (descriptor c.third) c.fourth) {
      second_fd = descriptor c.first;
      second_path = c.second;
      flags = half c.fifth;
    } else
    record (on_path here c.second) { second_fd = here; second_path = c.first }

-- rename(oldpath, newpath), renameat(olddirfd, oldpath, newdirfd, newpath), renameat2(olddirfd, oldpath, newdirfd, newpath, flags)
abbrev pub words_of_rename : SystemCall → CallWords
words_of_rename c =
    if c.number == 82 then record (on_path here c.first) { second_fd = here; second_path = c.second } else
    record (on_path (descriptor c.first) c.second) {
      second_fd = descriptor c.third;
      second_path = c.fourth;
      flags = if c.number == 316 then half c.fifth else 0;
    }

-- mmap(addr, length, prot, flags, fd, offset), msync(addr, length, flags)
abbrev pub words_of_map : SystemCall → CallWords
words_of_map c =
    if c.number == 9 then
    record (on_descriptor c.fifth) {
      length = c.second;
      protection = half c.third;
      flags = half c.fourth;
      offset = c.sixth;
    } else
    record none { address = c.first; length = c.second; flags = half c.third }

-- what the arguments of a call are, by what it is logged as
abbrev pub words_of : LoggedCall → SystemCall → CallWords
words_of Nothing c = none
words_of Write c = words_of_write c
words_of Copy c = words_of_copy c
words_of Sync c = words_of_sync c
words_of SyncAll c = words_of_sync c
words_of Length c = words_of_length c
words_of Space c = words_of_length c
words_of Open c = words_of_open c
words_of MakeFolder c = words_of_name c
words_of MakeLink c = words_of_symbolic_link c
words_of Link c = words_of_link c
words_of Rename c = words_of_rename c
words_of Remove c = words_of_name c
words_of Map c = words_of_map c
words_of SyncMemory c = words_of_map c
words_of Exit c = none

abbrev pub words_of_call : SystemCall → CallWords
words_of_call c = words_of (logged_call c.number) c
