-- Glue. How the drains stand, and how many groups more can be deferred.
use Rattle.std.specs.Prelude.{ℕ, Bool, not, ◌&&◌, nat_lt, List, length, if◌then◌else◌}
use Rattle.uring_entry.specs.Requests.{Requests, is_drain}
use Rattle.uring_linux.specs.declared.request.Request.{Request}
use Rattle.uring_linux.specs.declared.deferred.Deferred.{Deferred}
use Rattle.uring_linux.specs.Drains.{Drains, with_entry}
use Rattle.uring_linux.specs.LinuxRequests.{is_past, with_group}

pub record KeptDrains : Type 0 where
  pub drains : Drains
  pub room : ℕ

abbrev pub drains_of : (ring owed : Bool) (from : ℕ) (group : Bool) → List Deferred → Drains
drains_of ring owed from group deferred = record {
  ring = ring;
  owed = owed;
  from = from;
  group = group;
  deferred = deferred;
}

-- the entry of this request is taken
abbrev pub with_request : Drains → (is_first : Bool) → Request → Drains
with_request d is_first q =
    with_entry d is_first (is_past q.entry && not q.is_refused) (is_drain q.entry && (is_past q.entry && not q.is_refused))

-- the last entry was taken, and its group is accepted if it has no link flag
abbrev pub accepted_drains : Requests → (linked : Bool) → Drains → Drains
accepted_drains r linked d = if linked then d else with_group r d

-- a call closed
abbrev pub cut_drains : Requests → Drains → Drains
cut_drains r d = if nat_lt d.from (length r.accepted) then with_group r d else d
