-- Glue. The requests that are kept, by their numbers.
use Rattle.std.specs.Prelude.{◌≡◌, ℕ, suc, ◌+◌, ◌-◌, ◌<◌, ◌≤◌, Bool, true, false, not, ◌&&◌, ◌||◌, ◌==◌, nat_lt, List, length, slice_get, Option, Some, None, if◌then◌else◌}
use Rattle.std.specs.List.{list_any}
use Rattle.uring_entry.specs.Layout.{Sqe, user_data_of}
use Rattle.uring_entry.specs.Below.{count_below}
use Rattle.uring_entry.specs.Preparation.{is_faulty}
use Rattle.uring_entry.specs.Requests.{Requests, entry_of, is_linked, is_last, is_running, has_started, has_ended, has_failed}
use Rattle.uring_linux.specs.declared.request.Request.{Request}
use Rattle.uring_linux.specs.declared.request.Test.{Test}
use Rattle.uring_linux.specs.declared.request.Test.TheVariants.{Unended, Faulty, Runs}
use Rattle.uring_dispatch.specs.Window.{one_if}
use Rattle.uring_linux.specs.declared.group.Group.{Group}
use Rattle.uring_linux.specs.Groups.{with_member, TellsGroup, IsGrouped}
use Rattle.uring_linux.specs.LinuxRequests.{asks_to_drain, is_refused_drain, has_fault}

-- What is kept: the first number, the requests from there on, and how many more can be pushed.
pub record Window : Type 0 where
  pub first : ℕ
  pub items : List Request
  pub room : ℕ

-- the number after the last request
abbrev pub end_of : Window → ℕ
end_of s = s.first + length s.items

-- the request n, if it is kept
unfoldable pub at : Window → ℕ → Option Request
at s n = if nat_lt n s.first then None else slice_get s.items (n - s.first)

-- n is kept
pub record IsWithin (s : Window) (n : ℕ) : Type 0 where
  pub low : s.first ≤ n
  pub high : n < end_of s

-- whether a request is there that hasn't ended
abbrev pub is_unended : Option Request → Bool
is_unended None = false
is_unended (Some q) = not q.has_ended

-- whether a request is there that runs
abbrev pub runs : Option Request → Bool
runs None = false
runs (Some q) = q.is_running && not q.has_ended

-- how many of these haven't ended
unfoldable pub unended_among : List Request → ℕ
unended_among items = count_below (λ k. is_unended (slice_get items k)) (length items)

-- how many of these run
unfoldable pub running_among : List Request → ℕ
running_among items = count_below (λ k. runs (slice_get items k)) (length items)

-- what is kept of n is of a request that hasn't ended, and runs or doesn't
pub record IsOpen (s : Window) (n : ℕ) (is_running : Bool) : Type 0 where
  pub unended : is_unended (at s n) ≡ true
  pub running : runs (at s n) ≡ is_running

-- what is kept of a new request n of this entry, in a ring that has used skipped success or not, in a group of its own
abbrev pub new_request : Sqe → (has_skipped : Bool) → ℕ → Request
new_request e has_skipped n = record {
  entry = e;
  is_faulty = is_faulty e;
  is_refused = asks_to_drain e && has_skipped;
  is_last = not (is_linked e);
  is_running = false;
  has_ended = false;
  has_failed = false;
  group = with_member None n (is_faulty e || (asks_to_drain e && has_skipped));
}

-- whether what is kept passes a test
abbrev pub passes : Test → Request → Bool
passes Unended q = not q.has_ended
passes Faulty q = q.is_faulty || q.is_refused
passes (Runs user_data) q = q.is_running && (user_data_of q.entry == user_data)

-- whether a request passes a test
abbrev pub said : Test → Requests → ℕ → Bool
said Unended r n = not (has_ended r n)
said Faulty r n = has_fault r n
said (Runs user_data) r n = is_running r n && (user_data_of (entry_of r n) == user_data)

-- what is kept of n is so
pub record Tells (q : Request) (r : Requests) (n : ℕ) : Type 0 where
  pub entry : q.entry ≡ entry_of r n
  pub faulty : q.is_faulty ≡ is_faulty (entry_of r n)
  pub refused : q.is_refused ≡ is_refused_drain r n
  pub last : q.is_last ≡ is_last r n
  pub running : q.is_running ≡ is_running r n
  pub ended : q.has_ended ≡ has_ended r n
  pub failed : q.has_failed ≡ has_failed r n

-- nothing happened to n
pub record IsNew (r : Requests) (n : ℕ) : Type 0 where
  pub started : has_started r n ≡ false
  pub ended : has_ended r n ≡ false
  pub cut : list_any (λ cut. cut == n + 1) r.cuts ≡ false

-- What is kept shows these requests: those before the first have ended, in whole groups.
pub record Shows (s : Window) (r : Requests) : Type 0 where
  pub count : end_of s ≡ length r.accepted
  pub told : (n : ℕ) (q : Request) → at s n ≡ Some q → Tells q r n
  pub gone : (n : ℕ) → n < s.first → has_ended r n ≡ true
  pub begins : (k : ℕ) → suc k ≡ s.first → is_last r k ≡ true
  pub later : (n : ℕ) → length r.accepted ≤ n → IsNew r n
  pub grouped : (n : ℕ) (q : Request) → at s n ≡ Some q → IsGrouped q.group r n

-- what is kept before this number has ended, in whole groups
pub record IsOver (s : Window) (to : ℕ) : Type 0 where
  pub low : s.first ≤ to
  pub high : to ≤ end_of s
  pub ended : (n : ℕ) (q : Request) → n < to → at s n ≡ Some q → q.has_ended ≡ true
  pub last : (n : ℕ) (q : Request) → suc n ≡ to → at s n ≡ Some q → q.is_last ≡ true

-- this is kept of a group that the last request is a member of, and not the last
pub record IsOpenGroup (s : Window) (r : Requests) (g : Group) : Type 0 where
  pub told : TellsGroup g r
  pub end : g.end ≡ length r.accepted
  pub kept : s.first ≤ g.from
  pub amid : (k : ℕ) → suc k ≡ length r.accepted → is_last r k ≡ false

-- The group that the next request joins, if there is one: the last request is no last member, and this is kept of its group.
abbrev pub IsAmid : Window → Requests → Option Group → Type 0
IsAmid s r None = (k : ℕ) → suc k ≡ length r.accepted → is_last r k ≡ true
IsAmid s r (Some g) = IsOpenGroup s r g

-- what an end of a request changes in the numbers of what is kept
pub record Lessens (s t : Window) (q : Request) : Type 0 where
  pub end : end_of t ≡ end_of s
  pub first : t.first ≡ s.first
  pub room : t.room ≡ s.room
  pub outstanding : unended_among t.items + 1 ≡ unended_among s.items
  pub running : running_among t.items + one_if q.is_running ≡ running_among s.items
