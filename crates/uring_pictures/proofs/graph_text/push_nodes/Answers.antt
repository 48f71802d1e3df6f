use Rattle.std.proofs.Common.{◌≡◌, Bool, true, false, sym, ◌∙◌, add-one, append_assoc, rules}
use Rattle.uring_pictures.proofs.Common.{is_linux_at, linux_at, nodes_below, requests_at, row_text, string_bytes}
use Rattle.uring_pictures.proofs.Arrows.{first_next}
use Rattle.uring_pictures.proofs.graph_text.push_nodes.Goals as goal
use Rattle.uring_pictures.proofs.graph_text.push_nodes.Goals.{then-ends_chain, else-ends_chain}

pub loop-number-preserved : goal.loop-number-preserved
loop-number-preserved g c = record {
  nodes = λ h keeps. rw (c.in_ok-push_row.ensures.row h keeps (c.loop-number.invariant.chain h keeps), c.loop-number.invariant.nodes h keeps, add-one) (append_assoc (string_bytes c.args.text.now) (nodes_below (is_linux_at c.args.accepted.now) (linux_at c.args.accepted.now h) c.loop-number.number) (row_text (is_linux_at c.args.accepted.now) (linux_at c.args.accepted.now h) c.loop-number.number));
  chain = λ h keeps.
      let next = λ (last : Bool) (ends : c.ends_chain.result ≡ last). first_next (requests_at c.args.accepted.now h) c.loop-number.number last _ (sym ends ∙ c.ends_chain.ensures h keeps) (c.loop-number.invariant.chain h keeps) in
      elim c.if-ends_chain.branch [
        | then-ends_chain w ↦ w.first-is ∙ next true w.if-ends_chain.true
        | else-ends_chain w ↦ w.first-is ∙ next false w.if-ends_chain.false
      ];
}

pub returns-clause-nodes : goal.returns-clause-nodes
returns-clause-nodes g c =
    let last : c.loop-number.number ≡ c.count-number-end.result = search rules in
    λ h keeps. rw (last ∙ c.count-number-end.ensures h keeps) at (c.loop-number.invariant.nodes h keeps)
