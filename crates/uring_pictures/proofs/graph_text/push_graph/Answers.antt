use Rattle.std.proofs.Common.{◌≡◌, ◌++◌, append_assoc}
use Rattle.uring_pictures.proofs.Common.{codes, on_ok_weaker, string_bytes}
use Rattle.uring_pictures.proofs.graph_text.push_graph.Goals as goal

pub returns-clause-graph : goal.returns-clause-graph
returns-clause-graph g c =
    on_ok_weaker c.push_text-2.result
    (λ (end : string_bytes c.push_text-2.new.text ≡ string_bytes c.push_arrows.new.text ++ codes "}\n") h keeps. rw (end, c.in_ok-push_arrows.ensures.arrows h keeps, c.in_ok-push_nodes.ensures.nodes h keeps, c.in_ok-push_text.ensures.bytes) (simp append_assoc)) c.push_text-2.ensures.bytes
