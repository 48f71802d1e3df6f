-- Glue. The dispatcher by the rules of a set-up, as its callers see it.
use Rattle.std.specs.Prelude.{◌≡◌, ℕ, ◌+◌, ◌≤◌, Bool, true, false, Option, Some, None, length}
use Rattle.uring_entry.specs.Requests.{outstanding_in, running_in}
use Rattle.uring_dispatch.specs.Dispatch as manual
use Rattle.uring_dispatch.specs.declared.answers.Posts.{Posts}
use Rattle.uring_linux.specs.LinuxDispatch as linux
use Rattle.uring_linux.specs.LinuxRequests.{LinuxRequests}
use Rattle.uring_rules.specs.declared.kind.DispatcherKind.{DispatcherKind}
use Rattle.uring_rules.specs.declared.kind.DispatcherKind.TheVariants.{Manual, Linux}
use Rattle.uring_dispatch.specs.declared.answers.IssuedPosting.{IssuedPosting}
use Rattle.uring_dispatch.specs.declared.answers.IssuedPosting.TheVariants.{Run, Ended}

-- The dispatcher: numbers, and what it keeps.
pub record Rules : Type 0 where
  -- whether its rules are Linux's; else they are the manual pages'
  pub linux : Bool
  -- the requests accepted
  pub accepted : ℕ
  -- those of them that haven't ended
  pub outstanding : ℕ
  -- those of them that were started and haven't ended
  pub running : ℕ
  -- how many more can be accepted before memory is to be reserved
  pub room : ℕ
  -- whether the last call's end was told since the last request was accepted, or none was accepted yet
  pub is_between_calls : Bool
  -- what it keeps of the requests. Only `ShowsRequests` says what it means
  pub held : DispatcherKind

-- the dispatcher over one of the two
abbrev pub rules_of : DispatcherKind → Rules
rules_of (Manual d) = record {
  linux = false;
  accepted = d.accepted;
  outstanding = d.outstanding;
  running = d.running;
  room = d.room;
  is_between_calls = d.is_between_calls;
  held = Manual d;
}
rules_of (Linux d) = record {
  linux = true;
  accepted = d.accepted;
  outstanding = d.outstanding;
  running = d.running;
  room = d.room;
  is_between_calls = d.is_between_calls;
  held = Linux d;
}

-- what is kept stands for these requests. By the manual pages' rules nothing is deferred, so that it tells nothing of drains
unfoldable pub StandsFor : DispatcherKind → LinuxRequests → Type 0
StandsFor (Manual d) l = manual.ShowsRequests d l.requests
StandsFor (Linux d) l = linux.ShowsRequests d l

-- The dispatcher shows these requests: everything it answers is as the definitions on them say.
pub record ShowsRequests (d : Rules) (l : LinuxRequests) : Type 0 where
  pub accepted : d.accepted ≡ length l.requests.accepted
  pub outstanding : d.outstanding ≡ outstanding_in l.requests
  pub running : d.running ≡ running_in l.requests
  pub held : StandsFor d.held l

-- the same numbers of requests, and no less room
pub record IsSameCount (old new : Rules) : Type 0 where
  pub linux : new.linux ≡ old.linux
  pub accepted : new.accepted ≡ old.accepted
  pub outstanding : new.outstanding ≡ old.outstanding
  pub running : new.running ≡ old.running
  pub room : old.room ≤ new.room

-- one more request was accepted
pub record HasAccepted (old new : Rules) : Type 0 where
  pub linux : new.linux ≡ old.linux
  pub accepted : new.accepted ≡ old.accepted + 1
  pub outstanding : new.outstanding ≡ old.outstanding + 1
  pub running : new.running ≡ old.running
  pub room : new.room + 1 ≡ old.room

-- a call accepted so many requests
pub record HasCalled (count : ℕ) (old new : Rules) : Type 0 where
  pub linux : new.linux ≡ old.linux
  pub accepted : new.accepted ≡ old.accepted + count
  pub outstanding : new.outstanding ≡ old.outstanding + count
  pub running : new.running ≡ old.running
  pub room : old.accepted + old.room ≤ new.accepted + new.room

-- one of the outstanding requests was started
pub record HasStarted (old new : Rules) : Type 0 where
  pub linux : new.linux ≡ old.linux
  pub accepted : new.accepted ≡ old.accepted
  pub outstanding : new.outstanding ≡ old.outstanding
  pub running : new.running ≡ old.running + 1
  pub room : old.room ≤ new.room
  pub between : new.is_between_calls ≡ old.is_between_calls

-- one of the outstanding requests ended, which wasn't running
pub record HasEnded (old new : Rules) : Type 0 where
  pub linux : new.linux ≡ old.linux
  pub accepted : new.accepted ≡ old.accepted
  pub outstanding : new.outstanding + 1 ≡ old.outstanding
  pub running : new.running ≡ old.running
  pub room : old.room ≤ new.room
  pub between : new.is_between_calls ≡ old.is_between_calls

-- one of the running requests ended
pub record HasFinished (old new : Rules) : Type 0 where
  pub linux : new.linux ≡ old.linux
  pub accepted : new.accepted ≡ old.accepted
  pub outstanding : new.outstanding + 1 ≡ old.outstanding
  pub running : new.running + 1 ≡ old.running
  pub room : old.room ≤ new.room
  pub between : new.is_between_calls ≡ old.is_between_calls

-- what an issue with this answer changes in the numbers; a refusal changes nothing
abbrev pub IssueCounts : IssuedPosting → Rules → Rules → Type 0
IssueCounts (Run op) old new = HasStarted old new
IssueCounts (Ended res posted) old new = HasEnded old new
IssueCounts _ old new = new ≡ old

-- what an end changes in the numbers, if the request was running; else nothing changes
abbrev pub EndCounts : Option Posts → Rules → Rules → Type 0
EndCounts None old new = new ≡ old
EndCounts (Some posted) old new = HasFinished old new
