use Rattle.uring_walk.proofs.Visiting.{at_first}
use Rattle.uring_walk.proofs.visits.walk.Goals as goal

pub take_paths-requires : goal.take_paths-requires
take_paths-requires g c =
    let m = c.args.moves.now in
    at_first (g.W.Moves.due m) (g.W.Moves.can m) (g.W.Moves.sought m) (g.W.Moves.stands m) (g.W.Moves.keeps m) (g.W.Moves.noted m) c.in_ok-start.field-0 c.new-todo.result.items c.args.notes.now c.args.most c.new-todo.ensures.items c.in_ok-start.ensures.stands c.requires
