-- Whether the end of a request posts a completion.
use Rattle.std.specs.Prelude.{ℕ, ℤ, Bool, true, false, Option, Some, None, if◌then◌else◌}
use Rattle.uring_entry.specs.Requests.{Requests, is_outstanding}
use Rattle.uring_dispatch.specs.declared.answers.Posts.{Posts}
use Rattle.uring_dispatch.specs.declared.answers.Posts.TheVariants.{Completion, Nothing}
use Rattle.uring_linux.specs.LinuxRequests.{posts_after, breaker_of}

-- whether the end of n with this result posts a completion, if n is outstanding
abbrev pub would_post : Requests → ℕ → ℤ → Option Bool
would_post r n res =
    if is_outstanding r n then Some (posts_after r (breaker_of r n) n res) else None

-- whether it is a completion
abbrev pub is_completion : Posts → Bool
is_completion (Completion user_data) = true
is_completion Nothing = false
