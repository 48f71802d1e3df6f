-- The numbers of Linux and the limits, each written out once. Those that code and definitions name are these.
use Rattle.std.specs.Prelude.{◌≡◌, ◌+◌, pos}
use Rattle.uring_entry.specs.declared.errno.TheConstants.{ENOENT, EBADF, ENOMEM, EINVAL, EFBIG, EOPNOTSUPP, EALREADY, ECANCELED}
use Rattle.uring_entry.specs.declared.flags.TheConstants.SqeFlags.{IO_DRAIN, IO_LINK, IO_HARDLINK, ASYNC, CQE_SKIP_SUCCESS, REFUSED}
use Rattle.uring_entry.specs.declared.setup.TheConstants.Setup.{MAX_SQ, MAX_CQ, MAX_FILES}
use Rattle.uring_entry.specs.Flags.{io_drain, io_link, io_hardlink, skip_success, refused}

-- the error numbers. errno(3), and <asm-generic/errno-base.h> and <asm-generic/errno.h> of Linux
pub record AreErrorNumbers : Type 0 where
  pub no_entry : ENOENT ≡ pos 2
  pub bad_file : EBADF ≡ pos 9
  pub no_memory : ENOMEM ≡ pos 12
  pub invalid : EINVAL ≡ pos 22
  pub file_too_big : EFBIG ≡ pos 27
  pub not_supported : EOPNOTSUPP ≡ pos 95
  pub already : EALREADY ≡ pos 114
  pub cancelled : ECANCELED ≡ pos 125

-- the flag bits, of the code and of the definitions. io_uring_enter(2), with the numbers of enum io_uring_sqe_flags_bit in <linux/io_uring.h>. Not served are 1 (IOSQE_FIXED_FILE), 32 (IOSQE_BUFFER_SELECT) and 128: our own rule
pub record AreFlagBits : Type 0 where
  pub drain : (IO_DRAIN.0 ≡ 2) × (io_drain ≡ 2)
  pub link : (IO_LINK.0 ≡ 4) × (io_link ≡ 4)
  pub hardlink : (IO_HARDLINK.0 ≡ 8) × (io_hardlink ≡ 8)
  pub async : ASYNC.0 ≡ 16
  pub skip : (CQE_SKIP_SUCCESS.0 ≡ 64) × (skip_success ≡ 64)
  pub not_served : (REFUSED.0 ≡ 1 + 32 + 128) × (refused ≡ 1 + 32 + 128)

-- the limits of a set-up. Our own rule
pub record AreLimits : Type 0 where
  pub submission_ring : MAX_SQ ≡ 4096
  pub completion_ring : MAX_CQ ≡ 8192
  pub files : MAX_FILES ≡ 64
