-- Whether an operation may have to wait for its descriptor, by what that is. io_uring_enter(2), at each operation; open(2), O_NONBLOCK; what the kernel does, but where our own rule is named.
use Rattle.std.specs.Prelude.{◌≡◌, ◌-◌, ◌^◌, ℕ, Bool, true, false, not, ◌&&◌, ◌||◌, ◌==◌, nat_lt, nat_le, codes, List, if◌then◌else◌}
use Rattle.std.specs.Str.{bytes_eq}
use Rattle.std.specs.Int.RustNames.{bit_and}
use Rattle.uring_operations.specs.declared.entries.submission.Submission.{Submission}
use Rattle.uring_operations.specs.declared.files.descriptor.Nature.{Nature}
use Rattle.uring_operations.specs.declared.files.descriptor.Directions.{Directions}
use Rattle.uring_operations.specs.declared.files.descriptor.Known.{Known}
use Rattle.uring_operations.specs.declared.files.descriptor.Trial.{Trial}
use Rattle.uring_operations.specs.declared.files.descriptor.DescriptorKind.{DescriptorKind}
use Rattle.uring_operations.specs.declared.files.descriptor.DescriptorKind.TheVariants.{Never, AtOnce, Tried, Stream, Wrong}
use Rattle.uring_operations.specs.declared.files.descriptor.Question.{Question}
use Rattle.uring_operations.specs.declared.files.descriptor.Question.TheVariants.{Status, Offsets, Access}
use Rattle.uring_operations.specs.declared.files.descriptor.Finding.{Finding}
use Rattle.uring_operations.specs.declared.files.descriptor.Finding.TheVariants.{Asks, Is}
use Rattle.uring_operations.specs.Entries.Clocks.{has_some}
use Rattle.uring_operations.specs.Entries.Needs.{is_read, is_transfer, is_of_sockets, is_splice, is_poll}

-- an offset of 2^63 or more, which no file has; but 2^64 - 1 is none
abbrev pub has_no_place : Submission → Bool
has_no_place e = nat_le (2 ^ 63) e.off && not (e.off == 2 ^ 64 - 1)

-- whether a transfer may be made before its descriptor is asked whether it may have to wait: it moves something, at an offset that a file may have, with no flags and no provided buffer; it wasn't tried before, and no choice rests on the answer. Our own rule
abbrev pub may_be_tried : Submission → Trial → Bool
may_be_tried e t =
    is_transfer e.opcode && nat_lt e.off (2 ^ 63) && e.op_flags == 0 && not (has_some e.flags 32)
    && not (t.length == 0) && not t.was_tried && not t.is_asked_before

-- whether nothing at all is asked before: it is a read by the number of what was a file, which is asked not to wait
abbrev pub is_tried_at_once : Submission → Trial → Bool
is_tried_at_once e t = is_read e.opcode && t.was_file && may_be_tried e t

-- nor is it before a read by the number of what was a file in memory, which can't be asked not to wait, where the user says that no device whose reads wait is read. By now the number may be a stream's, as a pipe's or a socket's: a read at an offset of what has none ends at once, with -29 (ESPIPE). pread(2); our own rule
abbrev pub is_tried_unasked : Submission → Trial → Bool
is_tried_unasked e t = t.was_in_memory && t.has_no_devices && is_read e.opcode && may_be_tried e t

-- of the access mode (O_ACCMODE, 3) O_RDONLY is 0, O_WRONLY 1 and O_RDWR 2; 3 is open for neither, and so is what is open for its path alone (O_PATH, 2^21). open(2)
abbrev pub directions_of : (flags : ℕ) → Directions
directions_of flags = record {
  can_read = not (has_some flags 2097152) && (bit_and flags 3 == 0 || bit_and flags 3 == 2);
  can_write = not (has_some flags 2097152) && (bit_and flags 3 == 1 || bit_and flags 3 == 2);
}

-- its type of file is 4 bits of its mode (S_IFMT, 61440): a regular file has 32768, a character device 8192 and a socket 49152. inode(7). What is in memory is a regular file: such alone have seals, by which it is known. What isn't open is nothing
abbrev pub type_of : (is_in_memory is_open : Bool) → (mode : ℕ) → ℕ
type_of is_in_memory is_open mode = if is_in_memory then 32768 else if is_open then bit_and mode 61440 else 0

-- some regular files wait, as a queue of messages (mq_overview(7)) and what the kernel says (/proc/kmsg, syslog(2)). Such a one can be polled, and what lies on a disk can't: so a regular file that has no blocks there is asked, and one that can be polled counts as a device. Our own rule, after what the kernel does with any file that can be polled
abbrev pub asks_polling : (mode blocks : ℕ) → Bool
asks_polling mode blocks = bit_and mode 61440 == 32768 && blocks == 0

abbrev pub with_status : Nature → (is_in_memory is_open can_be_polled : Bool) → (mode : ℕ) → Nature
with_status before is_in_memory is_open can_be_polled mode = record before {
  is_open = is_in_memory || is_open;
  is_file = type_of is_in_memory is_open mode == 32768 && not can_be_polled;
  is_device = type_of is_in_memory is_open mode == 8192 || type_of is_in_memory is_open mode == 32768 && can_be_polled;
  is_socket = type_of is_in_memory is_open mode == 49152;
  has_type = not (type_of is_in_memory is_open mode == 0);
}

-- whether a descriptor is open for a transfer's direction
abbrev pub is_open_for : ℕ → Nature → Bool
is_open_for code d = if is_read code then d.can_read else d.can_write

-- a transfer waits on what has no offsets, as a pipe, and on a device; what isn't open for it never gets ready, and so it fails. A file never waits; but where it has no place there, its call would say that before it says that it isn't open for it
abbrev pub transfer_on : Submission → Trial → Nature → DescriptorKind
transfer_on e t d =
    if d.is_file && may_be_tried e t then Tried else
    if not d.is_device && d.has_offsets && not (has_no_place e) then Never else
    if is_open_for e.opcode d then (if not d.is_device && d.has_offsets then Never else Stream) else Wrong

-- an operation of sockets waits on a socket; on anything else it fails at once. What isn't open fails too
abbrev pub kind_on : Submission → Trial → Nature → DescriptorKind
kind_on e t d =
    if not d.is_open then Never else
    if is_transfer e.opcode then transfer_on e t d else
    if d.is_socket then Stream else Never

-- whether an operation may have to wait, on a descriptor that is this: a poll and a splice may, whatever it is, and others never do
abbrev pub kind_of : Submission → Trial → Nature → DescriptorKind
kind_of e t d =
    if is_poll e.opcode || is_splice e.opcode then Stream else
    if is_tried_at_once e t then AtOnce else
    if is_tried_unasked e t then Tried else
    if is_transfer e.opcode || is_of_sockets e.opcode then kind_on e t d else Never

-- what is asked next of a transfer's descriptor that is open, or what it is
abbrev pub asks_of_transfer : Submission → Trial → Known → Finding
asks_of_transfer e t k =
    if k.nature.is_file && may_be_tried e t then Is Tried else
    if not k.nature.is_device && not k.offsets then Asks Offsets else
    if not k.nature.is_device && k.nature.has_offsets && not (has_no_place e) then Is Never else
    if not k.access then Asks Access else
    if is_open_for e.opcode k.nature then Is (if not k.nature.is_device && k.nature.has_offsets then Never else Stream) else Is Wrong

-- the same of a descriptor of which it was asked what it is
abbrev pub asks_after_status : Submission → Trial → Known → Finding
asks_after_status e t k =
    if not k.nature.is_open then Is Never else
    if is_transfer e.opcode then asks_of_transfer e t k else
    if k.nature.is_socket then Is Stream else Is Never

-- what is asked next, or what the request is: nothing is asked that doesn't matter. Our own rule
abbrev pub next_of : Submission → Trial → Known → Finding
next_of e t k =
    if is_poll e.opcode || is_splice e.opcode then Is Stream else
    if is_tried_at_once e t then Is AtOnce else
    if is_tried_unasked e t then Is Tried else
    if not (is_transfer e.opcode || is_of_sockets e.opcode) then Is Never else
    if not k.status then Asks Status else asks_after_status e t k

-- what was asked of a descriptor is what it is
pub record Fits (k : Known) (d : Nature) : Type 0 where
  pub opened : k.status ≡ true → k.nature.is_open ≡ d.is_open
  pub file : k.status ≡ true → k.nature.is_file ≡ d.is_file
  pub device : k.status ≡ true → k.nature.is_device ≡ d.is_device
  pub socket : k.status ≡ true → k.nature.is_socket ≡ d.is_socket
  pub offsets : k.offsets ≡ true → k.nature.has_offsets ≡ d.has_offsets
  pub reads : k.access ≡ true → k.nature.can_read ≡ d.can_read
  pub writes : k.access ≡ true → k.nature.can_write ≡ d.can_write

-- whatever was asked before, what is told is what the request is by all that its descriptor is
abbrev pub FindsTheKind : Type 0
FindsTheKind = (e : Submission) (t : Trial) (k : Known) (d : Nature) (kind : DescriptorKind) → Fits k d
    → next_of e t k ≡ Is kind → kind ≡ kind_of e t d

-- what is made before its descriptor was asked what it is, and isn't asked not to wait, is made so because the user says that no device is read
abbrev pub AsksUnlessSaid : Type 0
AsksUnlessSaid = (e : Submission) (t : Trial) (k : Known) → k.status ≡ false → next_of e t k ≡ Is Tried
    → t.has_no_devices ≡ true

abbrev pub was_asked : Question → Known → Bool
was_asked Status k = k.status
was_asked Offsets k = k.offsets
was_asked Access k = k.access

-- nothing is asked twice
abbrev pub AsksOnce : Type 0
AsksOnce = (e : Submission) (t : Trial) (k : Known) (question : Question)
    → next_of e t k ≡ Asks question → was_asked question k ≡ false

-- what gives and takes 8 bytes at once, by the name of its descriptor in /proc: an eventfd, or a timerfd. eventfd(2), timerfd_create(2); proc(5)
abbrev pub is_eventfd_name : List ℕ → Bool
is_eventfd_name name = bytes_eq name (codes "anon_inode:[eventfd]")

abbrev pub is_counter_name : List ℕ → Bool
is_counter_name name = is_eventfd_name name || bytes_eq name (codes "anon_inode:[timerfd]")

-- what tells of signals, each by the 128 bytes of a struct signalfd_siginfo: a signalfd. signalfd(2)
abbrev pub is_signals_name : List ℕ → Bool
is_signals_name name = bytes_eq name (codes "anon_inode:[signalfd]")
