-- Glue. Which requests can be issued, from who waits.
use Rattle.std.specs.Prelude.{◌≡◌, ℕ, ◌<◌, Bool, ◌&&◌, ◌||◌, nat_lt, Option, Some, None, if◌then◌else◌}
use Rattle.uring_entry.specs.Requests.{Requests, is_ready}
use Rattle.uring_number_set.specs.NumberSet.{NumberSet, holds, IsLeastFrom}
use Rattle.uring_dispatch.specs.declared.request.Request.{Request}
use Rattle.uring_dispatch.specs.declared.group.Group.{Group}
use Rattle.uring_dispatch.specs.declared.waiting.Waiting.{Waiting}
use Rattle.uring_dispatch.specs.Window.{Window, at}
use Rattle.uring_dispatch.specs.Groups.{Groups, group_at}

-- the lesser of two numbers, as far as they are there
abbrev pub lesser_of : Option ℕ → Option ℕ → Option ℕ
lesser_of None b = b
lesser_of (Some m) None = Some m
lesser_of (Some m) (Some n) = if nat_lt n m then Some n else Some m

-- Of those that wait at the head of their group, the ones below this number may start, and no others.
abbrev pub IsLimit : Window → Groups → Requests → ℕ → Type 0
IsLimit w g r limit = (n : ℕ) (q : Request) (p : Group) → at w n ≡ Some q
    → group_at g q.group ≡ Some p → p.least ≡ n → is_ready r n ≡ nat_lt n limit

-- whether n can be issued: it waits and is doomed, or waits at the head of its group below this number
abbrev pub can_go : Waiting → ℕ → ℕ → Bool
can_go s limit n = holds s.doomed n || (holds s.heads n && nat_lt n limit)

-- m is the least number of the set from n on, and below this one
pub record IsLeastBelow (s : NumberSet) (n limit m : ℕ) : Type 0 where
  pub least : IsLeastFrom s n m
  pub below : m < limit
