use Rattle.std.proofs.Common.{◌≡◌, ◌++◌}
use Rattle.uring_trace.proofs.Common.{History, codes, decimal, outstanding_in, requests_of, rows_below, string_bytes, world}
use Rattle.uring_core.specs.Core.{FitsApart}
use Rattle.uring_trace.proofs.requests_text.push_requests.Given as goal

-- the requests so far
abbrev pub invariant-loop-number : goal.invariant-loop-number
invariant-loop-number g l =
    (h : History) → FitsApart l.fn.core h
    → string_bytes l.text
    ≡ string_bytes l.fn.text ++ codes "requests " ++ decimal (outstanding_in (world l.fn.core.setup h).requests) ++ rows_below l.fn.core.setup.linux (requests_of (world l.fn.core.setup h)) l.number
