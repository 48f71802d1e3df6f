-- Glue. The dispatcher as its callers see it.
use Rattle.std.specs.Prelude.{◌≡◌, ℕ, ◌+◌, ◌≤◌, Bool, true, Option, Some, None, length}
use Rattle.uring_entry.specs.Requests.{Requests, outstanding_in, running_in}
use Rattle.uring_dispatch.specs.Window.{Window, end_of}
use Rattle.uring_dispatch.specs.Groups.{Groups}
use Rattle.uring_dispatch.specs.Held.{AreHeld}
use Rattle.uring_dispatch.specs.Outstanding.{HasRoom}
use Rattle.uring_dispatch.specs.declared.answers.Issued.{Issued}
use Rattle.uring_dispatch.specs.declared.answers.Issued.TheVariants.{Run, Ended}
use Rattle.uring_dispatch.specs.declared.answers.Finished.{Finished}
use Rattle.uring_dispatch.specs.declared.answers.Finished.TheVariants as finish
use Rattle.uring_dispatch.specs.declared.answers.Posts.{Posts}
use Rattle.uring_dispatch.specs.declared.outstanding.Outstanding.{Outstanding}

-- what the dispatcher keeps of the requests. Only `ShowsRequests` says what it means
pub record Held : Type 0 where
  pub window : Window
  pub groups : Groups

-- The dispatcher: numbers, and what it keeps.
pub record Dispatch : Type 0 where
  -- the requests accepted
  pub accepted : ℕ
  -- those of them that haven't ended
  pub outstanding : ℕ
  -- those of them that were started and haven't ended
  pub running : ℕ
  -- how many more can be accepted before memory is to be reserved
  pub room : ℕ
  -- whether the last call's end was told since the last request was accepted, or none was accepted yet
  pub is_between_calls : Bool
  pub held : Held

-- the dispatcher that keeps these. What more each of them has room for is not told
abbrev pub dispatch_of : Window → Groups → ℕ → Bool → Dispatch
dispatch_of w g room between = record {
  accepted = end_of w;
  outstanding = w.outstanding;
  running = w.running;
  room = room;
  is_between_calls = between;
  held = record { window = record w { room = 0 }; groups = record g { room = 0 } };
}

-- What is so whatever happened: there is the room that is told, and nothing joins a group between calls.
pub record IsDispatch (d : Outstanding) (room : ℕ) (between : Bool) : Type 0 where
  pub memory : HasRoom d room
  pub closed : between ≡ true → d.grouped.groups.last ≡ None

-- what is kept stands for these requests
unfoldable pub StandsFor : Held → Requests → Type 0
StandsFor held r = AreHeld held.window held.groups r

-- The dispatcher shows these requests: everything it answers is as the definitions on them say.
pub record ShowsRequests (d : Dispatch) (r : Requests) : Type 0 where
  pub accepted : d.accepted ≡ length r.accepted
  pub outstanding : d.outstanding ≡ outstanding_in r
  pub running : d.running ≡ running_in r
  pub held : StandsFor d.held r

-- the same numbers of requests, and no less room
pub record IsSameCount (old new : Dispatch) : Type 0 where
  pub accepted : new.accepted ≡ old.accepted
  pub outstanding : new.outstanding ≡ old.outstanding
  pub running : new.running ≡ old.running
  pub room : old.room ≤ new.room

-- one more request was accepted
pub record HasAccepted (old new : Dispatch) : Type 0 where
  pub accepted : new.accepted ≡ old.accepted + 1
  pub outstanding : new.outstanding ≡ old.outstanding + 1
  pub running : new.running ≡ old.running
  pub room : new.room + 1 ≡ old.room

-- one of the outstanding requests was started
pub record HasStarted (old new : Dispatch) : Type 0 where
  pub accepted : new.accepted ≡ old.accepted
  pub outstanding : new.outstanding ≡ old.outstanding
  pub running : new.running ≡ old.running + 1
  pub room : old.room ≤ new.room
  pub between : new.is_between_calls ≡ old.is_between_calls

-- one of the outstanding requests ended, which wasn't running
pub record HasEnded (old new : Dispatch) : Type 0 where
  pub accepted : new.accepted ≡ old.accepted
  pub outstanding : new.outstanding + 1 ≡ old.outstanding
  pub running : new.running ≡ old.running
  pub room : old.room ≤ new.room
  pub between : new.is_between_calls ≡ old.is_between_calls

-- one of the running requests ended
pub record HasFinished (old new : Dispatch) : Type 0 where
  pub accepted : new.accepted ≡ old.accepted
  pub outstanding : new.outstanding + 1 ≡ old.outstanding
  pub running : new.running + 1 ≡ old.running
  pub room : old.room ≤ new.room
  pub between : new.is_between_calls ≡ old.is_between_calls

-- what an issue with this answer changes in the numbers; a refusal changes nothing
abbrev pub IssueCounts : Issued → Dispatch → Dispatch → Type 0
IssueCounts (Run op) old new = HasStarted old new
IssueCounts (Ended res) old new = HasEnded old new
IssueCounts _ old new = new ≡ old

-- what a finish with this answer changes in the numbers; a refusal changes nothing
abbrev pub FinishCounts : Finished → Dispatch → Dispatch → Type 0
FinishCounts finish.Ended old new = HasFinished old new
FinishCounts finish.NotRunning old new = new ≡ old

-- what an end changes in the numbers, if the request was running; else nothing changes
abbrev pub EndCounts : Option Posts → Dispatch → Dispatch → Type 0
EndCounts None old new = new ≡ old
EndCounts (Some posted) old new = HasFinished old new
