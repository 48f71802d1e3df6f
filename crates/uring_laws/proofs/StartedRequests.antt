-- What a start leaves as it was, by either's rules: who is doomed, who may start, who posts and how the drains stand. Only who runs changes.
use Rattle.std.proofs.Common.{◌≡◌, ◌≢◌, ℕ, ℤ, Bool, true, false, List, refl, arith}
use Rattle.uring_laws.proofs.Common.{LinuxRequests, Requests, Setup, Sqe, World, drains_called, drains_ended, ends_doomed, entry_of, first_of, is_after_failure, is_alone, is_cancel, is_doomed, is_in_turn, is_joined, is_outstanding, is_ready, is_running, is_running_started_other, issue_answer, may_start, posts, requests_of, some_member, is_in_faulty_group, ◌↔◌}
use Rattle.uring_linux.specs.LinuxRequests.{with_started}
use Rattle.uring_entry.specs.Requests as manual
use Rattle.uring_core.specs.declared.answer.Answer.TheVariants as answer
use Rattle.uring_laws.proofs.AlikeDrains.{called_same}

pub ends_doomed_started : (linux : Bool) (r : Requests) (m n : ℕ)
    → ends_doomed linux (manual.with_started r m) n ≡ ends_doomed linux r n
unfolding is_in_turn is_after_failure is_in_faulty_group is_doomed some_member is_joined
ends_doomed_started linux r m n = refl

pub ready_started : (r : Requests) (m n : ℕ) → is_ready (manual.with_started r m) n ≡ is_ready r n
unfolding is_ready some_member is_joined
ready_started r m n = refl

pub posts_started : (linux : Bool) (r : Requests) (m n : ℕ) (res : ℤ)
    → posts linux (manual.with_started r m) n res ≡ posts linux r n res
unfolding is_in_faulty_group first_of is_joined
posts_started linux r m n res = refl

pub drains_ended_started : (linux : Bool) (l : LinuxRequests) (m n : ℕ) (res : ℤ)
    → drains_ended linux (with_started l m) n res ≡ drains_ended linux l n res
unfolding is_alone
drains_ended_started linux l m n res = refl

pub drains_called_started : (linux : Bool) (l : LinuxRequests) (m : ℕ) (entries : List Sqe)
    → drains_called linux (with_started l m) entries ≡ drains_called linux l entries
drains_called_started linux l m entries = grind (arith, called_same)

-- Who can start.

-- what an issue asks for before it starts a request
pub record CanStart (linux : Bool) (l : LinuxRequests) (n : ℕ) : Type 0 where
  pub outstanding : is_outstanding l.requests n ≡ true
  pub idle : is_running l.requests n ≡ false
  pub spared : ends_doomed linux l.requests n ≡ false
  pub ready : may_start linux l n ≡ true
  pub no_cancel : is_cancel (entry_of l.requests n) ≡ false

pub can_start : (g : Setup) (w : World) (n : ℕ) → answer.Run ≡ issue_answer g w n
    → CanStart g.linux (requests_of w) n
can_start g w n e = grind arith

pub start_called : (g : Setup) (w : World) (n : ℕ) → CanStart g.linux (requests_of w) n
    → answer.Run ≡ issue_answer g w n
start_called g w n c = rw (c.outstanding, c.idle, c.spared, c.ready, c.no_cancel)

-- a request can start once another did exactly if it could before it
pub start_beside : (linux : Bool) (l : LinuxRequests) (m n : ℕ) → n ≢ m
    → CanStart linux l n ↔ CanStart linux (with_started l m) n
unfolding is_in_turn is_ready some_member is_joined
start_beside linux l m n differ = grind (arith, is_running_started_other, ends_doomed_started)
