-- Glue. What accepting an entry makes of the outstanding requests and their groups.
use Rattle.std.specs.Prelude.{◌≡◌, ℕ, ◌+◌, false, Some, None, is_some, if◌then◌else◌}
use Rattle.uring_entry.specs.Layout.{Sqe}
use Rattle.uring_entry.specs.Preparation.{is_faulty}
use Rattle.uring_entry.specs.Requests.{is_linked, is_drain}
use Rattle.uring_dispatch.specs.declared.request.Request.{Request}
use Rattle.uring_dispatch.specs.Window.{Window, end_of, Changes}
use Rattle.uring_dispatch.specs.Groups.{Groups, group_at, last_group, with_member, Exchanges, IsBeyond}
use Rattle.uring_dispatch.specs.Held.{op_of}

-- the request of an entry, when it was just accepted into the group of this key
abbrev pub new_request : Sqe → ℕ → Request
new_request e key =
    record { entry = e; op = op_of e; group = key; is_cancelled = false; is_running = false }

-- An entry is accepted: what the window and the groups are before and after.
pub record Accepts (w v : Window) (g h : Groups) (entry : Sqe) (request : Request) : Type 0 where
  pub changes : Changes w v (end_of w) (Some request)
  pub end : end_of v ≡ end_of w + 1
  pub joins : group_at g request.group ≡ last_group g.records g.last
  pub key : (k : ℕ) → g.last ≡ Some k → request.group ≡ k
  pub kept : is_some (last_group g.records g.last) ≡ is_some g.last
  pub exchange : Exchanges g h request.group (Some (with_member (last_group g.records g.last) (end_of w) (is_drain entry) (is_faulty entry)))
  pub beyond : IsBeyond h.barriers (end_of w + 1)
  pub last : h.last ≡ (if is_linked entry then Some request.group else None)
