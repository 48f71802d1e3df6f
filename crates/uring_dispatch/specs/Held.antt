-- Glue. What the dispatcher holds: the outstanding requests and their groups.
use Rattle.std.specs.Prelude.{◌≡◌, ℕ, ◌+◌, suc, ◌<◌, ◌≤◌, Bool, true, false, not, ◌&&◌, ◌==◌, nat_le, nat_lt, length, Option, Some, None, is_some, if◌then◌else◌}
use Rattle.std.specs.List.{list_any}
use Rattle.uring_entry.specs.Layout.{Sqe}
use Rattle.uring_entry.specs.declared.operation.Op.{Op}
use Rattle.uring_entry.specs.Preparation.{is_faulty, operation_of}
use Rattle.uring_entry.specs.Requests.{Requests, entry_of, has_started, has_ended, is_last, is_cancelled, outstanding_in, running_in}
use Rattle.uring_entry.specs.Groups.{IsGroup, first_fault, first_drain, first_broken}
use Rattle.uring_dispatch.specs.declared.request.Request.{Request}
use Rattle.uring_dispatch.specs.declared.group.Group.{Group}
use Rattle.uring_dispatch.specs.Window.{Window, at, end_of}
use Rattle.uring_dispatch.specs.Groups.{Groups, group_at, IsBeyond}

-- what an entry asks for, if it has no fault
abbrev pub op_of : Sqe → Option Op
op_of e = if is_faulty e then None else Some (operation_of e)

-- Under this key the group of request n is kept.
pub record HasGroup (g : Groups) (key n : ℕ) : Type 0 where
  pub group : Group
  pub found : group_at g key ≡ Some group
  pub from : group.from ≤ n
  pub to : n < group.end

-- The least outstanding member of a kept group is told.
pub record IsKept (w : Window) (q : Group) : Type 0 where
  pub from : q.from ≤ q.least
  pub to : q.least < q.end
  pub end : q.end ≤ end_of w
  pub over : (m : ℕ) → q.from ≤ m → m < q.least → is_some (at w m) ≡ false
  pub here : is_some (at w q.least) ≡ true

-- whether this group has the member n
abbrev pub has_member : Option Group → ℕ → Bool
has_member None n = false
has_member (Some q) n = nat_le q.from n && nat_lt n q.end

-- What is so of the requests and the groups together, whatever happened.
pub record IsSound (w : Window) (g : Groups) : Type 0 where
  pub linked : (n : ℕ) (q : Request) → at w n ≡ Some q → has_member (group_at g q.group) n ≡ true
  pub members : (key : ℕ) (q : Group) (n : ℕ) (request : Request) → group_at g key ≡ Some q
      → q.from ≤ n → n < q.end → at w n ≡ Some request → request.group ≡ key
  pub kept : (key : ℕ) (q : Group) → group_at g key ≡ Some q → IsKept w q
  pub beyond : IsBeyond g.barriers (end_of w)
  pub last : (key : ℕ) (q : Group) → g.last ≡ Some key → group_at g key ≡ Some q → q.end ≡ end_of w

-- A kept request is the request n of the lists.
pub record IsShown (r : Requests) (n : ℕ) (q : Request) : Type 0 where
  pub entry : q.entry ≡ entry_of r n
  pub op : q.op ≡ op_of (entry_of r n)
  pub unended : has_ended r n ≡ false
  pub cancelled : q.is_cancelled ≡ is_cancelled r n
  pub running : q.is_running ≡ has_started r n
  -- only what is without fault was started
  pub sound : q.is_running ≡ true → is_faulty (entry_of r n) ≡ false

-- A kept group is one of the lists.
pub record IsShownGroup (r : Requests) (q : Group) : Type 0 where
  pub group : IsGroup r q.from q.end
  pub fault : q.fault ≡ first_fault r q.from q.end
  pub drain : q.drain ≡ first_drain r q.from q.end
  pub broken : q.broken ≡ first_broken r q.from q.end

-- Nothing happened to a number that wasn't given.
pub record IsUntouched (r : Requests) (n : ℕ) : Type 0 where
  pub started : has_started r n ≡ false
  pub ended : has_ended r n ≡ false
  pub cancelled : is_cancelled r n ≡ false
  pub cut : list_any (λ cut. cut == n + 1) r.cuts ≡ false

-- What is held is what the lists say.
pub record AreHeld (w : Window) (g : Groups) (r : Requests) : Type 0 where
  pub count : length r.accepted ≡ end_of w
  pub outstanding : w.outstanding ≡ outstanding_in r
  pub running : w.running ≡ running_in r
  pub ended : (n : ℕ) → at w n ≡ None → n < length r.accepted → has_ended r n ≡ true
  pub shown : (n : ℕ) (q : Request) → at w n ≡ Some q → IsShown r n q
  pub groups : (key : ℕ) (q : Group) → group_at g key ≡ Some q → IsShownGroup r q
  pub last : (k : ℕ) → suc k ≡ length r.accepted → is_last r k ≡ not (is_some g.last)
  pub untouched : (n : ℕ) → length r.accepted ≤ n → IsUntouched r n

-- The least outstanding number from this one on and below the end, or else the end.
pub record IsNext (w : Window) (from end n : ℕ) : Type 0 where
  pub from_on : from ≤ n
  pub up_to : n ≤ end
  pub over : (m : ℕ) → from ≤ m → m < n → at w m ≡ None
  pub here : n < end → is_some (at w n) ≡ true

-- One request fewer is outstanding, and so many fewer are running.
pub record HasLost (old new : Window) (running : ℕ) : Type 0 where
  pub end : end_of new ≡ end_of old
  pub outstanding : new.outstanding + 1 ≡ old.outstanding
  pub runs : new.running + running ≡ old.running
  pub room : new.room ≡ old.room
