-- The flag bits of an entry, with the numbers of <linux/io_uring.h>. io_uring_enter(2), IOSQE_IO_DRAIN, IOSQE_IO_LINK, IOSQE_IO_HARDLINK and IOSQE_CQE_SKIP_SUCCESS; IOSQE_ASYNC changes nothing here.
use Rattle.std.specs.Prelude.{ℕ}

abbrev pub io_drain : ℕ
io_drain = 2

abbrev pub io_link : ℕ
io_link = 4

abbrev pub io_hardlink : ℕ
io_hardlink = 8

abbrev pub skip_success : ℕ
skip_success = 64

-- what isn't served: bit 0 (IOSQE_FIXED_FILE), bit 5 (IOSQE_BUFFER_SELECT) and bit 7. Our own rule
abbrev pub refused : ℕ
refused = 161
