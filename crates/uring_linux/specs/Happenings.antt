-- What happens to the requests of a ring: submission calls, starts and ends, one after the other. Our own rule.
use Rattle.std.specs.Prelude.{◌≡◌, ℕ, ℤ, true, ◌||◌, List, [], ◌∷◌}
use Rattle.uring_entry.specs.Layout.{Sqe}
use Rattle.uring_entry.specs.Requests.{is_running}
use Rattle.uring_linux.specs.LinuxRequests.{LinuxRequests, is_issuable, no_request, with_accepted, with_cut, with_started, with_ended}

pub data Happening : Type 0 where
  -- a submission call accepts these entries, and closes
  Call : List Sqe → Happening
  -- a request starts
  Start : ℕ → Happening
  -- a request ends with this result and these bytes
  End : ℕ → ℤ → List ℕ → Happening

-- these entries are accepted, one after the other
abbrev pub with_entries : LinuxRequests → List Sqe → LinuxRequests
with_entries l [] = l
with_entries l (e ∷ rest) = with_entries (with_accepted l e) rest

-- what one of them makes of the requests
abbrev pub after : LinuxRequests → Happening → LinuxRequests
after l (Call entries) = with_cut (with_entries l entries)
after l (Start n) = with_started l n
after l (End n res bytes) = with_ended l n res bytes

-- what all of them have made, the newest first
abbrev pub made_by : List Happening → LinuxRequests
made_by [] = no_request
made_by (h ∷ earlier) = after (made_by earlier) h

-- A request starts only if it can be issued, and ends only if it runs or can be issued.
abbrev pub MayHappen : LinuxRequests → Happening → Type 0
MayHappen l (Call entries) = Unit {0}
MayHappen l (Start n) = is_issuable l n ≡ true
MayHappen l (End n res bytes) = (is_running l.requests n || is_issuable l n) ≡ true

-- each of these, the newest first, may have happened after the earlier ones
abbrev pub MayHaveHappened : List Happening → Type 0
MayHaveHappened [] = Unit {0}
MayHaveHappened (h ∷ earlier) = MayHappen (made_by earlier) h × MayHaveHappened earlier
