-- Which requests can be issued: those that an issue starts or ends. Our own rule.
use Rattle.std.specs.Prelude.{ℕ, ◌&&◌, nat_le, List, length, Option}
use Rattle.uring_entry.specs.Below.{least_below, all_below}
use Rattle.uring_entry.specs.Requests.{Requests, is_issuable}

-- the requests that can be issued, in order
abbrev pub issuables_of : Requests → List ℕ
issuables_of r = all_below (is_issuable r) (length r.accepted)

-- the least request from n on that can be issued
abbrev pub issuable_from : Requests → ℕ → Option ℕ
issuable_from r n = least_below (λ k. nat_le n k && is_issuable r k) (length r.accepted)
