-- Glue. What was read of a trace to its end.
use Rattle.std.specs.Prelude.{ℕ, ℤ, List, Option}
use Rattle.std.specs.Io.KnownBytes.{Consumes, IsAtEnd}
use Rattle.uring_entry.specs.Setup.{Setup}
use Rattle.uring_crash.specs.Following.{HasFollowed}
use Rattle.uring_crash.specs.declared.follower.Follower.{Follower}

-- all was taken in
pub record ReadsAll (unit : ℕ) (setup : Setup) (fd : ℤ) (most : ℕ) (s : Follower) (left_before left_after : Option (List ℕ)) : Type 0 where
  pub bytes : List ℕ
  pub consumed : Consumes left_before left_after bytes
  pub at_end : IsAtEnd left_after
  pub followed : HasFollowed unit setup fd most s bytes
