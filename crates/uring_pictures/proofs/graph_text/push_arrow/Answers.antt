use Rattle.std.proofs.Common.{ℕ, List, refl, ap, ◌++◌, ◌∙◌}
use Rattle.uring_pictures.proofs.Common.{codes, decimal, on_ok_weaker, string_bytes}
use Rattle.uring_pictures.proofs.Arrows.{arrow_parts}
use Rattle.uring_pictures.proofs.graph_text.push_arrow.Goals as goal

pub returns-clause-line : goal.returns-clause-line
returns-clause-line g c =
    on_ok_weaker c.push_form.result (λ writes. writes refl ∙ ap (λ (l : List ℕ). string_bytes c.args.text.now ++ l) (arrow_parts (codes "  ") (decimal c.args.number) (codes " -> ") (decimal c.args.other) c.args.end.now)) c.push_form.ensures.text
