-- Which requests can be issued: those that an issue starts or ends. Our own rule.
use Rattle.std.specs.Prelude.{ℕ, ◌&&◌, nat_le, List, length, Option}
use Rattle.uring_entry.specs.Below.{least_below, all_below}
use Rattle.uring_linux.specs.LinuxRequests.{LinuxRequests, is_issuable}

-- the requests that can be issued, in order
abbrev pub issuables_of : LinuxRequests → List ℕ
issuables_of l = all_below (is_issuable l) (length l.requests.accepted)

-- the least request from n on that can be issued
abbrev pub issuable_from : LinuxRequests → ℕ → Option ℕ
issuable_from l n = least_below (λ k. nat_le n k && is_issuable l k) (length l.requests.accepted)
