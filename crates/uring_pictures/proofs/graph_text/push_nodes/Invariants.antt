use Rattle.std.proofs.Common.{◌≡◌, ◌++◌}
use Rattle.uring_pictures.proofs.Common.{History, Keeps, first_of, is_linux_at, linux_at, nodes_below, requests_at, string_bytes}
use Rattle.uring_pictures.proofs.graph_text.push_nodes.Given as goal

-- the lines so far, and the first member of the chain of the next request
abbrev pub invariant-loop-number : goal.invariant-loop-number
invariant-loop-number g l = record {
  nodes : (h : History) → Keeps l.fn.accepted h → string_bytes l.text ≡ string_bytes l.fn.text ++ nodes_below (is_linux_at l.fn.accepted) (linux_at l.fn.accepted h) l.number;
  chain : (h : History) → Keeps l.fn.accepted h → l.first ≡ first_of (requests_at l.fn.accepted h) l.number;
}
