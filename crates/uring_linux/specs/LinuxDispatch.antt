-- Glue. The dispatcher as its callers see it.
use Rattle.std.specs.Prelude.{◌≡◌, ℕ, ◌<◌, ◌≤◌, Bool, true, length}
use Rattle.uring_entry.specs.Requests.{entry_of, outstanding_in, running_in}
use Rattle.uring_entry.specs.Below.{some_below}
use Rattle.uring_linux.specs.Drains.{Drains}
use Rattle.uring_linux.specs.KeptDrains.{KeptDrains}
use Rattle.uring_linux.specs.LinuxRequests.{LinuxRequests, asks_to_skip}
use Rattle.uring_linux.specs.Window.{Window, Shows, end_of, unended_among, running_among}

-- what the dispatcher keeps of the requests. Only `ShowsRequests` says what it means
pub record Held : Type 0 where
  pub window : Window
  pub drains : Drains
  pub has_skipped : Bool

-- The dispatcher: numbers, and what it keeps.
pub record LinuxDispatch : Type 0 where
  -- the requests accepted
  pub accepted : ℕ
  -- those of them that haven't ended
  pub outstanding : ℕ
  -- those of them that were started and haven't ended
  pub running : ℕ
  -- how many more can be accepted before memory is to be reserved
  pub room : ℕ
  -- whether the last call's end was told since the last request was accepted, or none was accepted yet
  pub is_between_calls : Bool
  pub held : Held

-- the dispatcher that keeps these. What more each of them has room for is not told
abbrev pub dispatch_of : Window → KeptDrains → (has_skipped : Bool) → (room : ℕ) → (between : Bool) → LinuxDispatch
dispatch_of s d has_skipped room between = record {
  accepted = end_of s;
  outstanding = unended_among s.items;
  running = running_among s.items;
  room = room;
  is_between_calls = between;
  held = record { window = record s { room = 0 }; drains = d.drains; has_skipped = has_skipped };
}

-- What is so whatever happened: there is the room that is told, also for the group that is amid, and between calls none is; and the counts are right.
pub record IsDispatch (s : Window) (d : KeptDrains) (unended going room : ℕ) (between : Bool) : Type 0 where
  pub outstanding : unended ≡ unended_among s.items
  pub running : going ≡ running_among s.items
  pub window : room ≤ s.room
  pub groups : room ≤ d.room
  pub amid : d.drains.from < end_of s → room < d.room
  pub low : s.first ≤ d.drains.from
  pub high : d.drains.from ≤ end_of s
  pub few : length d.drains.deferred ≤ d.drains.from
  pub closed : between ≡ true → end_of s ≤ d.drains.from

-- what is kept stands for these requests
pub record StandsFor (held : Held) (l : LinuxRequests) : Type 0 where
  pub window : Shows held.window l.requests
  pub drains : held.drains ≡ l.drains
  pub skipped : held.has_skipped
      ≡ some_below (λ m. asks_to_skip (entry_of l.requests m)) (length l.requests.accepted)

-- The dispatcher shows these requests: everything it answers is as the definitions on them say.
pub record ShowsRequests (d : LinuxDispatch) (l : LinuxRequests) : Type 0 where
  pub accepted : d.accepted ≡ length l.requests.accepted
  pub outstanding : d.outstanding ≡ outstanding_in l.requests
  pub running : d.running ≡ running_in l.requests
  pub held : StandsFor d.held l
