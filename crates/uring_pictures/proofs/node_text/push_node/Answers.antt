use Rattle.std.proofs.Common.{ℕ, List, refl, ap, ◌++◌, ◌∙◌}
use Rattle.uring_pictures.proofs.Common.{codes, decimal, flag_text, on_ok_weaker, shape_of, string_bytes, user_data_of}
use Rattle.uring_entry.specs.Flags.{io_drain, io_link, io_hardlink, skip_success}
use Rattle.uring_text.specs.Forms.{operation_text}
use Rattle.uring_trace.specs.Reasons.{why_text}
use Rattle.uring_pictures.proofs.Arrows.{node_parts}
use Rattle.uring_pictures.proofs.node_text.push_node.Goals as goal

pub returns-clause-node : goal.returns-clause-node
returns-clause-node g c =
    let n = decimal c.args.number in
    let e = c.args.entry.now in
    let why = c.args.why in
    on_ok_weaker c.push_form.result (λ writes.
    rw c.user_data.ensures at (rw c.shape_of.ensures at (writes refl))
    ∙ ap (λ (l : List ℕ). string_bytes c.args.text.now ++ l) (node_parts n (codes " [shape=") (shape_of why) (codes ", label=\"") n (codes ": ") (operation_text e) (flag_text io_drain (codes "drain") e) (flag_text io_link (codes "link") e) (flag_text io_hardlink (codes "hard link") e) (flag_text 16 (codes "async") e) (flag_text skip_success (codes "skip success") e) (codes "\\nuser data ") (decimal (user_data_of e)) (codes "\\n") (why_text why) (codes "\"];")))
    c.push_form.ensures.text
