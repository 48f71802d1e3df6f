-- In which order requests are looked at by who looks for one of them by user data that several may have. What Linux 6.18 does; by the manual pages' rules the oldest goes first, our own rule.
use Rattle.std.specs.Prelude.{◌≤◌, ◌==◌, ◌&&◌, not, nat_lt, max, ℕ, Bool, if◌then◌else◌}
use Rattle.uring_enter.specs.declared.cancels.cancel.Sought.{Sought}
use Rattle.uring_enter.specs.Cancels.Cancels.{is_of_all, goes_by_user_data}

-- the last rank: that of all requests, where ranks count for nothing
abbrev pub last_rank : ℕ
last_rank = 2

-- what waits for its descriptor stands in a table that a kernel looks through first; of the timeouts (11) those with a count stand first in its list
abbrev pub rank_of : (code : ℕ) → (is_stream : Bool) → (count : ℕ) → ℕ
rank_of code is_stream count =
    if is_stream then 0 else
    if code == 11 && nat_lt 0 count then 1 else last_rank

-- ranks count where one request is looked for, by user data and by Linux's rules. Who looks for all finds them in any order, and by a file a kernel's table has no order that a program knows
abbrev pub is_ranked : Sought → (linux : Bool) → Bool
is_ranked s linux = linux && goes_by_user_data s && not (is_of_all s)

-- the first rank that is looked at. Those after it follow, up to the last
abbrev pub first_rank : Sought → (linux : Bool) → ℕ
first_rank s linux = if is_ranked s linux then 0 else last_rank

-- the rank of a request for who begins with this one
abbrev pub rank_from : (first : ℕ) → (code : ℕ) → (is_stream : Bool) → (count : ℕ) → ℕ
rank_from first code is_stream count = max first (rank_of code is_stream count)

-- of what waits for its descriptor the newest goes first, which stands first in that table; of others the oldest
abbrev pub is_newest_first : (rank : ℕ) → Bool
is_newest_first rank = rank == 0

-- each request has its turn: none has a rank before the first that is looked at, nor one behind the last
abbrev pub RanksAll : Type 0
RanksAll = (s : Sought) (linux : Bool) (code : ℕ) (is_stream : Bool) (count : ℕ)
    → (first_rank s linux ≤ rank_from (first_rank s linux) code is_stream count)
    × (rank_from (first_rank s linux) code is_stream count ≤ last_rank)
