-- Glue. What noting whom a cancel chooses leaves.
use Rattle.std.specs.Prelude.{◌≡◌}
use Rattle.uring_dispatch.specs.declared.outstanding.Outstanding.{Outstanding}
use Rattle.uring_dispatch.specs.Window.{HasSameRequests}
use Rattle.uring_dispatch.specs.Waiting.{HasMemory}
use Rattle.uring_dispatch.specs.ByUserData.{KeepsPlaces}

-- the same requests are outstanding and run, in the same groups
pub record HasChosen (old new : Outstanding) : Type 0 where
  pub same : HasSameRequests old.grouped.window new.grouped.window
  pub groups : new.grouped.groups ≡ old.grouped.groups
  pub memory : HasMemory old.waiting new.waiting
  pub places : KeepsPlaces old.by_user_data new.by_user_data
