-- Glue. What a follower of a trace keeps of the lines that it took in.
use Rattle.std.specs.Prelude.{◌≡◌, ℕ, ℤ, ◌+◌, ◌⊎◌, ◌||◌, Bool, List, [], ◌++◌, length, Option}
use Rattle.std.specs.List.{AllByRecursion, list_any}
use Rattle.uring_entry.specs.Setup.{Setup}
use Rattle.uring_core.specs.Histories.{Event, History, history_of}
use Rattle.uring_text.specs.Lines.{Splits}
use Rattle.uring_text.specs.KeptLine.{KeptLine, kept_of}
use Rattle.uring_trace.specs.Exchanges.{Exchange, IsReadAs, lines_of, events_of}
use Rattle.uring_trace.specs.Sessions.{with_event}
use Rattle.uring_crash.specs.Watches.{Watches}
use Rattle.uring_crash.specs.declared.watch.Watch.{Watch}
use Rattle.uring_crash.specs.FirstLines.{AreFirstLines}
use Rattle.uring_crash.specs.Crashes.{is_bad}
use Rattle.uring_crash.specs.declared.follower.Follower.{Follower}

-- Of these bytes, the lines and the rest of the next one were taken in, and so many lines may still come; after the last one the bytes are passed over.
pub record TookLines (most left : ℕ) (bytes : List ℕ) (lines : List (List ℕ)) (rest : List ℕ) : Type 0 where
  pub taken : List ℕ
  pub passed : List ℕ
  pub all : bytes ≡ taken ++ passed
  pub splits : Splits taken lines rest
  pub count : length lines + left ≡ most
  pub over : left ≡ 0 → rest ≡ []
  pub enough : (passed ≡ []) ⊎ (left ≡ 0)

-- a line was read: the step that it is was made, or it is none
pub record ReadsLine (old new : Watch) (was_bad bad : Bool) (line : List ℕ) : Type 0 where
  pub event : Option Event
  pub read : IsReadAs line event
  pub now_bad : bad ≡ (is_bad (record { line = line; event = event }) || was_bad)
  pub watches : (unit : ℕ) (setup : Setup) (fd : ℤ) (h : History) → Watches unit setup fd old h
      → Watches unit setup fd new (with_event event h)

-- The follower's invariant, over its fields: these bytes have been taken in, and no more than so many lines of them.
pub record Following (unit : ℕ) (setup : Setup) (fd : ℤ) (most : ℕ) (watch : Watch) (kept : KeptLine) (left : ℕ) (bad : Bool) (bytes : List ℕ) : Type 0 where
  pub exchanges : List Exchange
  pub rest : List ℕ
  pub took : TookLines most left bytes (lines_of exchanges) rest
  pub keeps : kept ≡ kept_of rest
  pub each : AllByRecursion (λ x. IsReadAs x.line x.event) exchanges
  pub bad_lines : bad ≡ list_any is_bad exchanges
  pub watches : Watches unit setup fd watch (history_of (events_of exchanges))

-- The same of bytes that have ended.
pub record Followed (unit : ℕ) (setup : Setup) (fd : ℤ) (most : ℕ) (watch : Watch) (bad : Bool) (bytes : List ℕ) : Type 0 where
  pub exchanges : List Exchange
  pub first : AreFirstLines most bytes (lines_of exchanges)
  pub each : AllByRecursion (λ x. IsReadAs x.line x.event) exchanges
  pub bad_lines : bad ≡ list_any is_bad exchanges
  pub watches : Watches unit setup fd watch (history_of (events_of exchanges))

-- The follower has taken in these bytes.
abbrev pub Follows : ℕ → Setup → ℤ → ℕ → Follower → List ℕ → Type 0
Follows unit setup fd most s bytes =
    Following unit setup fd most s.watch s.line s.left s.has_bad bytes

-- The follower has taken in these bytes to their end.
abbrev pub HasFollowed : ℕ → Setup → ℤ → ℕ → Follower → List ℕ → Type 0
HasFollowed unit setup fd most s bytes = Followed unit setup fd most s.watch s.has_bad bytes
