-- By what the operation of an entry is carried out: which system call, and with which arguments; or what whoever keeps the ring does itself. io_uring_enter(2), at each operation, which names the call of section 2 that it is like: its fields are that call's arguments. The numbers of operations are those of <linux/io_uring.h>.
use Rattle.std.specs.Prelude.{ℕ, ◌-◌, Bool, not, ◌&&◌, ◌||◌, ◌==◌, nat_le, if◌then◌else◌}
use Rattle.std.specs.Int.RustNames.{bit_and, bit_or}
use Rattle.uring_operations.specs.declared.entries.submission.Submission.{Submission}
use Rattle.uring_operations.specs.declared.calls.system_call.SystemCall.{SystemCall}
use Rattle.uring_operations.specs.declared.calls.held.Held.{Held}
use Rattle.uring_operations.specs.declared.calls.means.Listed.{Listed}
use Rattle.uring_operations.specs.declared.calls.means.Means.{Means}
use Rattle.uring_operations.specs.declared.calls.means.Means.TheVariants.{Nothing, Transfer, Poll, Call, Opening, Sync, Close, Connect, Splice, Send, Receive, ReceiveMessage, SlotRemoval, FilesPlacing, FilesUpdate, Timeout, LinkedTimeout, Provision, ProvisionRemoval, Message, Cancel, PollRemoval, TimeoutRemoval}
use Rattle.uring_operations.specs.Entries.Clocks.{has_some}
use Rattle.uring_operations.specs.Calls.Layouts.{call_flags}
use Rattle.uring_operations.specs.Entries.Needs.{is_transfer, is_send, advised_length}
use Rattle.uring_operations.specs.Copies.Pieces.{address_size}
use Rattle.uring_operations.specs.Calls.SystemCalls as sys
use Rattle.uring_operations.specs.Calls.SystemCalls.{of_three, of_four, of_five, of_six, word_of}

-- of what has 64 bits in the entry, and 32 in the call
abbrev pub low : ℕ → ℕ
low n = bit_and n 4294967295

-- a call that gives a new descriptor: the application's, or that of a slot, where `file_index` names one
abbrev pub opens : Submission → SystemCall → Means
opens e call = if e.file_index == 0 then Call call else Opening call e.file_index

-- fsync(2), or with IORING_FSYNC_DATASYNC (1) fdatasync(2)
abbrev pub sync_of : Submission → Held → SystemCall
sync_of e h =
    of_three (if has_some e.op_flags 1 then sys.fdatasync else sys.fsync) (word_of h.fd) 0 0

-- an offset of a splice: none is 2^64 - 1, which is a null pointer to the call
abbrev pub offset_at : ℕ → ℕ → ℕ
offset_at offset address = if offset == 18446744073709551615 then 0 else address

-- the flags of a splice without SPLICE_F_FD_IN_FIXED (2^31), which is the entry's alone; and it is asked not to wait, by SPLICE_F_NONBLOCK (2)
abbrev pub splice_flags : Submission → ℕ
splice_flags e = bit_or (bit_and e.op_flags 2147483647) 2

-- splice(2) and tee(2): `addr` is the offset where it reads, `off` that where it writes
abbrev pub splice_of : Submission → Held → SystemCall
splice_of e h =
    if e.opcode == 33 then of_four sys.tee (word_of h.second_fd) (word_of h.fd) e.len (splice_flags e) else
    of_six sys.splice (word_of h.second_fd) (offset_at e.addr h.offset_in)
    (word_of h.fd) (offset_at e.off h.offset_out) e.len (splice_flags e)

-- a close is of the slot before the one that `file_index` counts to, or of a descriptor
abbrev pub close_of : Submission → Means
close_of e =
    if e.file_index == 0 then Close (of_three sys.close (word_of e.fd) 0 0) else
    SlotRemoval (e.file_index - 1)

-- whether an operation may change what the slots of the ring's table hold: FILES_UPDATE does; so do ACCEPT, OPENAT, OPENAT2 and SOCKET into a slot, and the close of one, where `file_index` names it
abbrev pub changes_slots : Submission → Bool
changes_slots e =
    e.opcode == 20
    || (e.opcode == 13 || e.opcode == 18 || e.opcode == 19 || e.opcode == 28 || e.opcode == 45)
    && not (e.file_index == 0)

-- a new descriptor of the same file, the lowest that is free: F_DUPFD_CLOEXEC (1030), or with IORING_FIXED_FD_NO_CLOEXEC (1) F_DUPFD (0). fcntl(2)
abbrev pub duplicate_of : Submission → Held → SystemCall
duplicate_of e h =
    of_three sys.fcntl (word_of h.fd) (if has_some e.op_flags 1 then 0 else 1030) 0

-- operations on what is open
abbrev pub of_descriptors : Submission → Held → Means
of_descriptors e h =
    -- FSYNC
    if e.opcode == 3 then Sync (sync_of e h) else
    -- SYNC_FILE_RANGE
    if e.opcode == 8 then Call (of_four sys.sync_file_range (word_of h.fd) e.off e.len e.op_flags) else
    -- FALLOCATE, whose mode is `len`, its offset `off`, and its length `addr`
    if e.opcode == 17 then Call (of_four sys.fallocate (word_of h.fd) e.len e.off e.addr) else
    -- CLOSE
    if e.opcode == 19 then close_of e else
    -- FADVISE and MADVISE
    if e.opcode == 24 then Call (of_four sys.fadvise64 (word_of h.fd) e.off (advised_length e) e.op_flags) else
    if e.opcode == 25 then Call (of_three sys.madvise e.addr (advised_length e) e.op_flags) else
    -- EPOLL_CTL: `fd` is the epoll instance, `len` what is done, and `off` with which descriptor
    if e.opcode == 29 then Call (of_four sys.epoll_ctl (word_of e.fd) e.len (low e.off) h.value) else
    -- FIXED_FD_INSTALL; FTRUNCATE, whose length is `off`
    if e.opcode == 54 then Call (duplicate_of e h) else
    if e.opcode == 55 then Call (of_three sys.ftruncate (word_of h.fd) e.off 0) else
    -- SPLICE and TEE
    Splice (splice_of e h)

-- a SEND or a SEND_ZC that names an address, where `off` says
abbrev pub names_address : Submission → Bool
names_address e = (e.opcode == 26 || e.opcode == 47) && not (e.off == 0)

-- it is sent by sendto(2), of the bytes that are left: to sendmsg(2) an address of no bytes is none
abbrev pub send_to : Submission → Held → SystemCall
send_to e h =
    of_six sys.sendto (word_of h.fd) h.buffer h.length (call_flags e) h.address (address_size e)

-- operations on sockets. A message is that which is held, and waits for nothing
abbrev pub of_sockets : Submission → Held → Means
of_sockets e h =
    -- SENDMSG, SEND, SEND_ZC and SENDMSG_ZC
    if names_address e then Send (send_to e h) else
    if is_send e.opcode then Send (of_three sys.sendmsg (word_of h.fd) h.value (call_flags e)) else
    -- RECVMSG and RECV
    if e.opcode == 10 then ReceiveMessage (of_three sys.recvmsg (word_of h.fd) h.value (call_flags e)) else
    if e.opcode == 27 then Receive (of_three sys.recvmsg (word_of h.fd) h.value (call_flags e)) else
    -- ACCEPT: the address is written to `addr`, and its length to `addr2`
    if e.opcode == 13 then opens e (of_four sys.accept4 (word_of h.fd) e.addr e.off e.op_flags) else
    -- CONNECT, whose address has `off` bytes
    if e.opcode == 16 then Connect (of_three sys.connect (word_of h.fd) h.value e.off) else
    -- SHUTDOWN
    if e.opcode == 34 then Call (of_three sys.shutdown (word_of h.fd) e.len 0) else
    -- BIND, whose address has `off` bytes; LISTEN, whose backlog is `len`
    if e.opcode == 56 then Call (of_three sys.bind (word_of h.fd) h.value e.off) else
    if e.opcode == 57 then Call (of_three sys.listen (word_of h.fd) e.len 0) else
    -- SOCKET: `fd` is the domain, `off` the type, and `len` the protocol
    opens e (of_three sys.socket (word_of e.fd) (low e.off) e.len)

-- operations on paths: `fd` is the folder that a path begins at, and `len` that of the second
abbrev pub of_paths : Submission → Held → Means
of_paths e h =
    -- OPENAT, whose mode is `len`; OPENAT2, by the 24 bytes of struct open_how
    if e.opcode == 18 then opens e (of_four sys.openat (word_of e.fd) h.path e.op_flags e.len) else
    if e.opcode == 28 then opens e (of_four sys.openat2 (word_of e.fd) h.path h.how 24) else
    -- STATX, whose mask is `len`, and which writes to `addr2`
    if e.opcode == 21 then Call (of_five sys.statx (word_of e.fd) h.path e.op_flags e.len e.off) else
    -- RENAMEAT
    if e.opcode == 35 then Call (of_five sys.renameat2 (word_of e.fd) h.path e.len h.second_path e.op_flags) else
    -- UNLINKAT
    if e.opcode == 36 then Call (of_three sys.unlinkat (word_of e.fd) h.path e.op_flags) else
    -- MKDIRAT, whose mode is `len`
    if e.opcode == 37 then Call (of_three sys.mkdirat (word_of e.fd) h.path e.len) else
    -- SYMLINKAT, whose first path is what the link holds
    if e.opcode == 38 then Call (of_three sys.symlinkat h.path (word_of e.fd) h.second_path) else
    -- LINKAT
    Call (of_five sys.linkat (word_of e.fd) h.path e.len h.second_path e.op_flags)

-- operations on extended attributes: the name is the second path, and `len` is the size of the value
abbrev pub of_attributes : Submission → Held → Means
of_attributes e h =
    -- FSETXATTR and SETXATTR
    if e.opcode == 41 then Call (of_five sys.fsetxattr (word_of h.fd) h.second_path h.value e.len e.op_flags) else
    if e.opcode == 42 then Call (of_five sys.setxattr h.path h.second_path h.value e.len e.op_flags) else
    -- FGETXATTR and GETXATTR, which write to `addr2`
    if e.opcode == 43 then Call (of_four sys.fgetxattr (word_of h.fd) h.second_path e.off e.len) else
    Call (of_four sys.getxattr h.path h.second_path e.off e.len)

-- the descriptors of an update of files: `addr` is where their list begins, `len` how many they are
abbrev pub listed_of : Submission → Listed
listed_of e = record { address = e.addr; count = e.len }

-- files are put into the table from a slot on, or, with IORING_FILE_INDEX_ALLOC (2^32 - 1), where there is room
abbrev pub files_of : Submission → Means
files_of e =
    if low e.off == 4294967295 then FilesPlacing (listed_of e) else FilesUpdate (low e.off) (listed_of e)

-- operations on what the ring itself has
abbrev pub of_ring : Submission → Means
of_ring e =
    -- POLL_ADD
    if e.opcode == 6 then Poll else
    -- POLL_REMOVE, TIMEOUT_REMOVE and ASYNC_CANCEL
    if e.opcode == 7 then PollRemoval else
    if e.opcode == 12 then TimeoutRemoval else
    if e.opcode == 14 then Cancel else
    -- TIMEOUT and LINK_TIMEOUT
    if e.opcode == 11 then Timeout else
    if e.opcode == 15 then LinkedTimeout else
    -- FILES_UPDATE
    if e.opcode == 20 then files_of e else
    -- PROVIDE_BUFFERS and REMOVE_BUFFERS
    if e.opcode == 31 then Provision else
    if e.opcode == 32 then ProvisionRemoval else
    -- MSG_RING
    if e.opcode == 40 then Message else
    -- NOP, and what isn't served
    Nothing

abbrev pub is_on_descriptor : ℕ → Bool
is_on_descriptor code =
    code == 3 || code == 8 || code == 17 || code == 19 || code == 24 || code == 25 || code == 29 || code == 30 || code == 33
    || code == 54 || code == 55

abbrev pub is_on_socket : ℕ → Bool
is_on_socket code =
    code == 9 || code == 10 || code == 13 || code == 16 || code == 26 || code == 27 || code == 34 || code == 45 || code == 47 || code == 48
    || code == 56 || code == 57

abbrev pub is_on_path : ℕ → Bool
is_on_path code = code == 18 || code == 21 || code == 28 || nat_le 35 code && nat_le code 39

abbrev pub is_on_attribute : ℕ → Bool
is_on_attribute code = nat_le 41 code && nat_le code 44

abbrev pub means_of : Submission → Held → Means
means_of e h =
    if is_transfer e.opcode then Transfer else
    if is_on_descriptor e.opcode then of_descriptors e h else
    if is_on_socket e.opcode then of_sockets e h else
    if is_on_path e.opcode then of_paths e h else
    if is_on_attribute e.opcode then of_attributes e h else of_ring e
