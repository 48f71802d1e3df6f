-- Glue. The outstanding requests, their groups and who of them waits.
use Rattle.std.specs.Prelude.{◌≡◌, ℕ, ◌+◌, ◌≤◌, None}
use Rattle.uring_dispatch.specs.declared.outstanding.Outstanding.{Outstanding}
use Rattle.uring_dispatch.specs.Window.{end_of}
use Rattle.uring_dispatch.specs.Waiting.{HasMemory}
use Rattle.uring_dispatch.specs.ByUserData.{HasPlaces, KeepsPlaces}

-- There is memory for so many requests more.
pub record HasRoom (d : Outstanding) (count : ℕ) : Type 0 where
  pub window : count ≤ d.grouped.window.room
  pub groups : count ≤ d.grouped.groups.room
  pub heads : end_of d.grouped.window + count ≤ d.waiting.heads.limit
  pub doomed : end_of d.grouped.window + count ≤ d.waiting.doomed.limit
  pub places : HasPlaces d.by_user_data (end_of d.grouped.window + count)

-- Nothing joins a group, and there is memory for no fewer.
pub record Stays (old new : Outstanding) : Type 0 where
  pub last : new.grouped.groups.last ≡ None
  pub window : new.grouped.window.room ≡ old.grouped.window.room
  pub groups : new.grouped.groups.room ≡ old.grouped.groups.room
  pub memory : HasMemory old.waiting new.waiting
  pub places : KeepsPlaces old.by_user_data new.by_user_data
