use Rattle.std.proofs.lemmas.Result.{IfOk-weaker}
use Rattle.uring_pictures.proofs.drawing.graph_in.Goals as goal

pub returns-clause-drawn : goal.returns-clause-drawn
returns-clause-drawn g c = IfOk-weaker c.draw_all-drawn.result _ _ (λ bad drawn. drawn c.args.at c.in-Ok.ensures.ok) c.draw_all-drawn.ensures.drawn
