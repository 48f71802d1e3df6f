use Rattle.std.proofs.Common.{Bool, refl, sym, ap, ◌++◌, ◌∙◌}
use Rattle.uring_pictures.proofs.Common.{codes, decimal, in_chain, node_text, on_ok_weaker, placed_text, string_bytes}
use Rattle.uring_pictures.proofs.Arrows.{framed, framed_twice}
use Rattle.uring_pictures.proofs.node_text.push_placed.Goals as goal
use Rattle.uring_pictures.proofs.node_text.push_placed.Goals.{then-place, else-place}

pub returns-clause-line : goal.returns-clause-line
returns-clause-line g c =
    let old = string_bytes c.args.text.now in
    let place = c.args.place in
    let call = decimal place.call in
    let first = decimal place.first in
    let node = node_text c.args.number c.args.entry.now c.args.why in
    on_ok_weaker c.push_text.result
    (λ end. elim c.if-place.branch [
      | then-place w ↦
          framed_twice old _ _ _ (codes "  subgraph cluster_call_") call (codes " { label=\"call ") call (codes "\"; ") (codes "subgraph cluster_chain_") first (codes " { label=\"chain from ") first (codes "\"; ") node (codes " }") (codes " }\n") ((rw w.before-is at c.in_ok-push_form.ensures.text) refl) c.in_ok-push_node.ensures.node (rw w.after-is at end)
          ∙ ap (λ (b : Bool). old ++ placed_text place.call (in_chain b place.first node)) (sym w.if-place.true)
      | else-place w ↦
          framed old _ _ _ (codes "  subgraph cluster_call_") call (codes " { label=\"call ") call (codes "\"; ") node (codes " }\n") ((rw w.before-is at c.in_ok-push_form.ensures.text) refl) c.in_ok-push_node.ensures.node (rw w.after-is at end)
          ∙ ap (λ (b : Bool). old ++ placed_text place.call (in_chain b place.first node)) (sym w.if-place.false)
    ])
    c.push_text.ensures.bytes
