-- Whether the end of a request posts a completion, by the rules of a set-up.
use Rattle.std.specs.Prelude.{ℕ, ℤ, Bool, Option, Some, None, if◌then◌else◌}
use Rattle.uring_entry.specs.Requests.{Requests, is_outstanding}
use Rattle.uring_rules.specs.Rules.{posts}

-- whether the end of n with this result posts a completion, if n is outstanding
abbrev pub would_post : (is_linux : Bool) → Requests → ℕ → ℤ → Option Bool
would_post is_linux r n res =
    if is_outstanding r n then Some (posts is_linux r n res) else None
