-- Glue. What is kept of a group with its first member.
use Rattle.std.specs.Prelude.{◌≡◌, ℕ, suc, ◌+◌, ◌<◌, ◌≤◌, Bool, true, false, ◌==◌, nat_lt, Option, Some, None, if◌then◌else◌}
use Rattle.uring_entry.specs.Below.{found_or}
use Rattle.uring_entry.specs.Groups.{IsGroup, first_member, first_broken, earlier_of}
use Rattle.uring_entry.specs.Requests.{Requests, is_last, has_ended}
use Rattle.uring_linux.specs.declared.group.Group.{Group}
use Rattle.uring_linux.specs.LinuxRequests.{has_fault}

-- what is kept of a group is so
pub record TellsGroup (g : Group) (r : Requests) : Type 0 where
  pub group : IsGroup r g.from g.end
  pub low : g.from ≤ g.least
  pub high : g.least ≤ g.end
  pub ended : (k : ℕ) → g.from ≤ k → k < g.least → has_ended r k ≡ true
  pub fault : g.fault ≡ first_member (has_fault r) g.from g.end
  pub broken : g.broken ≡ first_broken r g.from g.end

-- the group of n begins here
pub record Starts (r : Requests) (n from : ℕ) : Type 0 where
  pub low : from ≤ n
  pub begins : (k : ℕ) → suc k ≡ from → is_last r k ≡ true
  pub joined : (k : ℕ) → from ≤ k → k < n → is_last r k ≡ false

-- what is kept of n's group says where it begins, and if n is the first member what is to be known of the group
pub record IsGrouped (g : Group) (r : Requests) (n : ℕ) : Type 0 where
  pub starts : Starts r n g.from
  pub told : g.from ≡ n → TellsGroup g r

-- n is a member of this group
pub record IsMember (r : Requests) (n : ℕ) (g : Group) : Type 0 where
  pub told : TellsGroup g r
  pub low : g.from ≤ n
  pub high : n < g.end

-- the group of the next request n: the one that is open, with one member more, or a new one
abbrev pub with_member : Option Group → ℕ → (is_faulty : Bool) → Group
with_member None n is_faulty = record {
  from = n;
  end = n + 1;
  least = n;
  fault = found_or None is_faulty n;
  broken = None;
}
with_member (Some g) n is_faulty = record g { end = n + 1; fault = found_or g.fault is_faulty n }

-- the group, once its member n has ended, which breaks it or not
abbrev pub with_end : Group → ℕ → (breaks : Bool) → Group
with_end g n breaks = record g {
  least = if g.least == n then n + 1 else g.least;
  broken = earlier_of g.broken breaks n;
}

-- this number, if it is before n
abbrev pub if_before : Option ℕ → ℕ → Option ℕ
if_before None n = None
if_before (Some m) n = if nat_lt m n then Some m else None
