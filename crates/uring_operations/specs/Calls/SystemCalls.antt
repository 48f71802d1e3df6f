-- The system calls of Linux on x86-64 by which operations are carried out. syscall(2); the numbers are those of <asm/unistd_64.h>.
use Rattle.std.specs.Prelude.{ℕ, ℤ}
use Rattle.std.specs.Int.{w64, cast_unsigned}
use Rattle.uring_operations.specs.declared.calls.system_call.SystemCall.{SystemCall}

abbrev pub close : ℕ
close = 3

abbrev pub pread64 : ℕ
pread64 = 17

abbrev pub madvise : ℕ
madvise = 28

abbrev pub socket : ℕ
socket = 41

abbrev pub connect : ℕ
connect = 42

abbrev pub sendto : ℕ
sendto = 44

abbrev pub sendmsg : ℕ
sendmsg = 46

abbrev pub recvmsg : ℕ
recvmsg = 47

abbrev pub shutdown : ℕ
shutdown = 48

abbrev pub bind : ℕ
bind = 49

abbrev pub listen : ℕ
listen = 50

abbrev pub fcntl : ℕ
fcntl = 72

abbrev pub fsync : ℕ
fsync = 74

abbrev pub fdatasync : ℕ
fdatasync = 75

abbrev pub ftruncate : ℕ
ftruncate = 77

abbrev pub setxattr : ℕ
setxattr = 188

abbrev pub fsetxattr : ℕ
fsetxattr = 190

abbrev pub getxattr : ℕ
getxattr = 191

abbrev pub fgetxattr : ℕ
fgetxattr = 193

abbrev pub fadvise64 : ℕ
fadvise64 = 221

abbrev pub epoll_ctl : ℕ
epoll_ctl = 233

abbrev pub openat : ℕ
openat = 257

abbrev pub mkdirat : ℕ
mkdirat = 258

abbrev pub unlinkat : ℕ
unlinkat = 263

abbrev pub linkat : ℕ
linkat = 265

abbrev pub symlinkat : ℕ
symlinkat = 266

abbrev pub splice : ℕ
splice = 275

abbrev pub tee : ℕ
tee = 276

abbrev pub sync_file_range : ℕ
sync_file_range = 277

abbrev pub fallocate : ℕ
fallocate = 285

abbrev pub accept4 : ℕ
accept4 = 288

abbrev pub renameat2 : ℕ
renameat2 = 316

abbrev pub preadv2 : ℕ
preadv2 = 327

abbrev pub pwritev2 : ℕ
pwritev2 = 328

abbrev pub statx : ℕ
statx = 332

abbrev pub openat2 : ℕ
openat2 = 437

-- a call of this number with these arguments
abbrev pub of_six : ℕ → ℕ → ℕ → ℕ → ℕ → ℕ → ℕ → SystemCall
of_six number a b c d e f =
    record { number = number; first = a; second = b; third = c; fourth = d; fifth = e; sixth = f }

-- an argument that a call hasn't is 0
abbrev pub of_three : ℕ → ℕ → ℕ → ℕ → SystemCall
of_three number a b c = of_six number a b c 0 0 0

abbrev pub of_four : ℕ → ℕ → ℕ → ℕ → ℕ → SystemCall
of_four number a b c d = of_six number a b c d 0 0

abbrev pub of_five : ℕ → ℕ → ℕ → ℕ → ℕ → ℕ → SystemCall
of_five number a b c d e = of_six number a b c d e 0

-- a number of 32 bits with a sign, as a register has it: a descriptor, or AT_FDCWD (-100)
abbrev pub word_of : ℤ → ℕ
word_of z = cast_unsigned w64 z
