-- The rule of each operation, as Linux 6.18 looks at an entry before it carries it out: which fields must be 0, which flags of its own the operation knows, and what else is looked at. io_uring_enter(2), DESCRIPTION and CQE ERRORS; which fields an operation leaves free is what the kernel does.
use Rattle.std.specs.Prelude.{ℕ, ◌+◌, Bool, true, false, ◌||◌, ◌==◌, Option, Some, None, if◌then◌else◌}
use Rattle.uring_operations.specs.declared.entries.rule.Rule.{Rule}
use Rattle.uring_operations.specs.declared.entries.rule.Also.{Also}
use Rattle.uring_operations.specs.declared.entries.rule.Also.TheVariants.{Nothing, Transfer, Vectors, Sync, Poll, PollRemoval, Timeout, LinkedTimeout, TimeoutRemoval, Cancel, OpenHow, Close, FilesUpdate, ProvisionRemoval, Socket, Accept, Send, SendMessage, Receive, SendZeroCopy, SendMessageZeroCopy, Selection}

-- the fields of an entry, a bit each. `slot` is file_index, which also is splice_fd_in; `third` is addr3, and `padding` what stands after it
abbrev pub priority : ℕ
priority = 1

abbrev pub offset : ℕ
offset = 2

abbrev pub address : ℕ
address = 4

abbrev pub length : ℕ
length = 8

abbrev pub own_flags : ℕ
own_flags = 16

abbrev pub buffer : ℕ
buffer = 32

abbrev pub slot : ℕ
slot = 64

abbrev pub third : ℕ
third = 128

abbrev pub padding : ℕ
padding = 256

-- an operation whose flags aren't looked at here
abbrev pub any : ℕ
any = 4294967295

-- these fields must be 0, these are the operation's flags that it knows, and this is looked at too
abbrev pub row : ℕ → ℕ → Also → Option Rule
row barred known also = Some (record { barred = barred; flags = known; also = also })

-- these fields must be 0, and no more is looked at
abbrev pub bars : ℕ → Option Rule
bars barred = row barred any Nothing

-- the operations that are served; the numbers are those of <linux/io_uring.h>
abbrev pub rule_of : ℕ → Option Rule
rule_of code =
    -- NOP, with INJECT_RESULT, FILE, FIXED_FILE, FIXED_BUFFER and TW
    if code == 0 then row priority 31 Nothing else
    -- READV and WRITEV. What stands in `padding` names an attribute, and none is served
    if code == 1 || code == 2 then row padding any Vectors else
    -- FSYNC, with DATASYNC
    if code == 3 then row (priority + address + buffer + slot) 1 Sync else
    -- READ_FIXED, WRITE_FIXED, READ and WRITE
    if code == 4 || code == 5 || code == 22 || code == 23 then row padding any Transfer else
    -- POLL_ADD and POLL_REMOVE
    if code == 6 then row (priority + offset + address + buffer) any Poll else
    if code == 7 then row (priority + buffer + slot) any PollRemoval else
    -- SYNC_FILE_RANGE
    if code == 8 then bars (priority + address + buffer + slot) else
    -- SENDMSG, RECVMSG, ACCEPT with SOCK_NONBLOCK and SOCK_CLOEXEC, CONNECT, SEND, RECV, SHUTDOWN, SOCKET, SEND_ZC and SENDMSG_ZC
    if code == 9 then row (offset + slot) any SendMessage else
    if code == 10 then row (offset + slot) any Receive else
    if code == 13 then row (length + buffer) 526336 Accept else
    if code == 16 then bars (priority + length + own_flags + buffer + slot) else
    if code == 26 then row 0 any Send else
    if code == 27 then row (offset + slot) any Receive else
    if code == 34 then bars (priority + offset + address + own_flags + buffer + slot) else
    if code == 45 then row (priority + address + own_flags + buffer) any Socket else
    if code == 47 then row (third + padding) any SendZeroCopy else
    if code == 48 then row (offset + slot + third + padding) any SendMessageZeroCopy else
    -- READ_MULTISHOT. Its buffer is a provided one
    if code == 49 then row (priority + address + length + padding) any Selection else
    -- TIMEOUT, with ABS, BOOTTIME, REALTIME and ETIME_SUCCESS; TIMEOUT_REMOVE, with ABS, UPDATE and LINK_TIMEOUT_UPDATE; ASYNC_CANCEL, with ALL, FD, ANY and FD_FIXED; LINK_TIMEOUT
    if code == 11 then row (priority + buffer + slot + third + padding) 45 Timeout else
    if code == 12 then row (priority + length + buffer + slot + third + padding) 19 TimeoutRemoval else
    if code == 14 then row (priority + offset + slot) 15 Cancel else
    if code == 15 then row (priority + buffer + slot + third + padding) 45 LinkedTimeout else
    -- FALLOCATE
    if code == 17 then bars (priority + own_flags + buffer + slot) else
    -- OPENAT, OPENAT2, CLOSE and FILES_UPDATE. The buffer of an OPENAT2 is looked at after its structure (`fault_after_how`)
    if code == 18 then row (priority + buffer) any Nothing else
    if code == 28 then row priority any OpenHow else
    if code == 19 then row (priority + offset + address + length + own_flags + buffer) any Close else
    if code == 20 then row (priority + own_flags + slot) any FilesUpdate else
    -- FADVISE and MADVISE; STATX, EPOLL_CTL, RENAMEAT and LINKAT
    if code == 24 || code == 25 then bars (priority + buffer + slot) else
    if code == 21 || code == 29 || code == 35 || code == 39 then bars (priority + buffer + slot) else
    -- SPLICE and TEE, with the four flags of splice(2) and SPLICE_F_FD_IN_FIXED (2^31)
    if code == 30 then row priority 2147483663 Nothing else
    if code == 33 then row (priority + offset + address) 2147483663 Nothing else
    -- PROVIDE_BUFFERS and REMOVE_BUFFERS
    if code == 31 then bars (priority + own_flags + slot) else
    if code == 32 then row (priority + offset + address + length + own_flags + slot) any ProvisionRemoval else
    -- UNLINKAT, with AT_REMOVEDIR; MKDIRAT and SYMLINKAT
    if code == 36 then row (priority + offset + length + buffer + slot) 512 Nothing else
    if code == 37 then bars (priority + offset + own_flags + buffer + slot) else
    if code == 38 then bars (priority + length + own_flags + buffer + slot) else
    -- MSG_RING, with CQE_SKIP and FLAGS_PASS
    if code == 40 then row (priority + buffer) 3 Nothing else
    -- FSETXATTR and SETXATTR, with XATTR_CREATE and XATTR_REPLACE; FGETXATTR and GETXATTR
    if code == 41 || code == 42 then row priority 3 Nothing else
    if code == 43 || code == 44 then row priority 0 Nothing else
    -- FIXED_FD_INSTALL, with IORING_FIXED_FD_NO_CLOEXEC; FTRUNCATE
    if code == 54 then row (priority + offset + address + length + buffer + slot + third) 1 Nothing else
    if code == 55 then bars (priority + address + length + own_flags + buffer + slot + third) else
    -- BIND and LISTEN
    if code == 56 then bars (priority + length + own_flags + buffer + slot) else
    if code == 57 then bars (priority + offset + address + own_flags + buffer + slot) else None

abbrev pub is_rule : Option Rule → Bool
is_rule (Some _) = true
is_rule None = false

-- what a probe says of an operation: IO_URING_OP_SUPPORTED (1) of one that is served, and nothing of another. io_uring_register(2), IORING_REGISTER_PROBE
abbrev pub probed_flags : ℕ → ℕ
probed_flags code = if is_rule (rule_of code) then 1 else 0
