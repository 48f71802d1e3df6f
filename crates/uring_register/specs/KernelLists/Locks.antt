-- Which lines of the kernel's list of locks are of a process's on a file: `1: POSIX  ADVISORY  WRITE 5433 08:01:7864448 128 EOF`. proc_locks(5); record locks, fcntl(2), are those that a process loses as it closes a descriptor of the file.
use Rattle.std.specs.Prelude.{ℕ, Bool, ◌&&◌, ◌==◌, List, codes, if◌then◌else◌}
use Rattle.std.specs.Str.{bytes_eq}
use Rattle.uring_register.specs.KernelLists.Texts.{is_number, value_of, first_word, after_word, part_of}

-- what a line says of its lock, after its number. The arrow of one that is waited for, `1: -> POSIX ..`, is passed over: who waits may have the lock before the descriptor is closed, and one that is lost is worse than a descriptor that stays. Our own rule
abbrev pub lock_of : List ℕ → List ℕ
lock_of line =
    let rest = after_word line in
    if bytes_eq (first_word rest) (codes "->") then after_word rest else rest

-- a record lock, and none of an open file (OFDLCK, FLOCK), which stays while that does
abbrev pub is_record_lock : List ℕ → Bool
is_record_lock word = bytes_eq word (codes "POSIX")

abbrev pub names : (digits : List ℕ) → ℕ → Bool
names digits number = is_number 10 digits && value_of 10 digits == number

-- a line is of a process by its fourth word, and of a file by the inode after the two numbers of a device. The device itself says nothing: it isn't always the one that stat(2) tells, as on btrfs and overlayfs. So a lock on a file of the same inode on another device counts too, by which a descriptor stays that needn't
abbrev pub is_lock_of : (line : List ℕ) → (process inode : ℕ) → Bool
is_lock_of line process inode =
    let lock = lock_of line in
    let owner = after_word (after_word (after_word lock)) in
    is_record_lock (first_word lock) && names (first_word owner) process && names (part_of (first_word (after_word owner)) 2) inode
