use Rattle.std.proofs.Common.{◌≡◌, ◌++◌}
use Rattle.uring_pictures.proofs.Common.{History, Keeps, arrows_below, is_linux_at, linux_at, member_before, requests_at, string_bytes}
use Rattle.uring_pictures.proofs.graph_text.push_arrows.Given as goal

-- the lines so far, and the member before the next request
abbrev pub invariant-loop-number : goal.invariant-loop-number
invariant-loop-number g l = record {
  arrows : (h : History) → Keeps l.fn.accepted h → string_bytes l.text ≡ string_bytes l.fn.text ++ arrows_below (is_linux_at l.fn.accepted) (linux_at l.fn.accepted h) l.number;
  chain : (h : History) → Keeps l.fn.accepted h → l.before ≡ member_before (requests_at l.fn.accepted h) l.number;
}
