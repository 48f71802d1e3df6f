-- Glue. How the calls on a reader or a writer went. That an interrupted call is made again, and no other that failed, is our own rule.
use Rattle.std.specs.Prelude.{◌≡◌, ◌≢◌, ℕ, ◌⊎◌, ◌^◌, ◌-◌, IsTrue, Result, Ok, Err}
use Rattle.std.specs.IoError.{error_kind}
use Rattle.std.specs.declared.io.Error.{Error}
use Rattle.std.specs.declared.io.ErrorKind.TheVariants.{Interrupted}
use Rattle.uring_text.specs.declared.streams.Calls.{Calls}

-- the read failed, and wasn't merely interrupted
abbrev pub IsFailedRead : Result ℕ Error → Type 0
IsFailedRead (Ok count) = ⊥
IsFailedRead (Err e) = error_kind e ≢ Interrupted

-- the write failed and wasn't merely interrupted, or it took no byte
abbrev pub IsFailedWrite : Result ℕ Error → Type 0
IsFailedWrite (Ok count) = count ≡ 0
IsFailedWrite (Err e) = error_kind e ≢ Interrupted

-- the last call failed, or 2 ^ 64 - 1 calls were made
abbrev pub AreOver : Calls → Type 0
AreOver calls = IsTrue calls.has_failed ⊎ (calls.count ≡ 2 ^ 64 - 1)
