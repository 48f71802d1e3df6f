-- Glue. What each call changes in the numbers that the dispatcher tells.
use Rattle.std.specs.Prelude.{◌≡◌, ◌+◌, ◌≤◌, Option, Some, None}
use Rattle.uring_dispatch.specs.declared.answers.Posts.{Posts}
use Rattle.uring_dispatch.specs.declared.answers.IssuedPosting.{IssuedPosting}
use Rattle.uring_dispatch.specs.declared.answers.IssuedPosting.TheVariants.{Run, Ended}
use Rattle.uring_linux.specs.LinuxDispatch.{LinuxDispatch}

-- the same numbers of requests, and no less room
pub record IsSameCount (old new : LinuxDispatch) : Type 0 where
  pub accepted : new.accepted ≡ old.accepted
  pub outstanding : new.outstanding ≡ old.outstanding
  pub running : new.running ≡ old.running
  pub room : old.room ≤ new.room

-- one more request was accepted
pub record HasAccepted (old new : LinuxDispatch) : Type 0 where
  pub accepted : new.accepted ≡ old.accepted + 1
  pub outstanding : new.outstanding ≡ old.outstanding + 1
  pub running : new.running ≡ old.running
  pub room : new.room + 1 ≡ old.room

-- one of the outstanding requests was started
pub record HasStarted (old new : LinuxDispatch) : Type 0 where
  pub accepted : new.accepted ≡ old.accepted
  pub outstanding : new.outstanding ≡ old.outstanding
  pub running : new.running ≡ old.running + 1
  pub room : old.room ≤ new.room
  pub between : new.is_between_calls ≡ old.is_between_calls

-- one of the outstanding requests ended, which wasn't running
pub record HasEnded (old new : LinuxDispatch) : Type 0 where
  pub accepted : new.accepted ≡ old.accepted
  pub outstanding : new.outstanding + 1 ≡ old.outstanding
  pub running : new.running ≡ old.running
  pub room : old.room ≤ new.room
  pub between : new.is_between_calls ≡ old.is_between_calls

-- one of the running requests ended
pub record HasFinished (old new : LinuxDispatch) : Type 0 where
  pub accepted : new.accepted ≡ old.accepted
  pub outstanding : new.outstanding + 1 ≡ old.outstanding
  pub running : new.running + 1 ≡ old.running
  pub room : old.room ≤ new.room
  pub between : new.is_between_calls ≡ old.is_between_calls

-- what an issue with this answer changes in the numbers; a refusal changes nothing
abbrev pub IssueCounts : IssuedPosting → LinuxDispatch → LinuxDispatch → Type 0
IssueCounts (Run op) old new = HasStarted old new
IssueCounts (Ended res posted) old new = HasEnded old new
IssueCounts _ old new = new ≡ old

-- what an end changes in the numbers, if the request was running; else nothing changes
abbrev pub EndCounts : Option Posts → LinuxDispatch → LinuxDispatch → Type 0
EndCounts None old new = new ≡ old
EndCounts (Some posted) old new = HasFinished old new
