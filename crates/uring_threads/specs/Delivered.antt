-- Glue. What a delivery makes of the completion ring.
use Rattle.std.specs.Prelude.{◌≡◌, List}
use Rattle.uring_entry.specs.Layout.{Cqe}
use Rattle.uring_entry.specs.Completions.{Completions}
use Rattle.uring_core.specs.World.{World}

-- the world with another completion ring
abbrev pub on_completions : World → Completions → World
on_completions w l = record w { completions = l }

-- the completion ring after these in all were reaped
abbrev pub with_reaped_all : Completions → List Cqe → Completions
with_reaped_all l reaped = record l { reaped = reaped }

-- Everything but the completion ring stays.
pub record KeepsAllBut (w v : World) : Type 0 where
  pub submission : v.submission ≡ w.submission
  pub requests : v.requests ≡ w.requests
  pub drains : v.drains ≡ w.drains
  pub is_closed : v.is_closed ≡ w.is_closed
  pub posted : v.completions.posted ≡ w.completions.posted

-- Requests were issued or ended, and nothing else happened: the submission ring stays, no request was accepted, and of the completions only more were posted.
pub record OnlyPosts (w v : World) : Type 0 where
  pub submission : v.submission ≡ w.submission
  pub accepted : v.requests.accepted ≡ w.requests.accepted
  pub is_closed : v.is_closed ≡ w.is_closed
  pub reaped : v.completions.reaped ≡ w.completions.reaped
  pub head : v.completions.head ≡ w.completions.head
