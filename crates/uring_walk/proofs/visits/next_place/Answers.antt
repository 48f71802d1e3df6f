use Rattle.std.proofs.Common.{sym, ◌∙◌}
use Rattle.uring_walk.proofs.Keeping.{waits_popped}
use Rattle.uring_walk.proofs.visits.next_place.Goals as goal

pub resume-requires : goal.resume-requires
resume-requires g c =
    let l = waits_popped (g.W.Moves.stands c.args.moves.now) (g.W.Moves.keeps c.args.moves.now) c.args.here.now c.args.todo.now.items c.pop.new.self.items c.in-Some-pop.spot c.requires.0 (sym c.take.ensures.value ∙ c.in_default.is) c.in-Some-pop.ensures.items c.requires.1 in
    (l.path, l.keeps_it)

pub returns-clause-some : goal.returns-clause-some
returns-clause-some g c = λ paths waits.
    let l = waits_popped (g.W.Moves.stands c.args.moves.now) (g.W.Moves.keeps c.args.moves.now) c.args.here.now c.args.todo.now.items c.pop.new.self.items c.in-Some-pop.spot paths (sym c.take.ensures.value ∙ c.in_default.is) c.in-Some-pop.ensures.items waits in
    record { before = l.before; path = l.path; is = l.is; at = c.in_ok-resume.ensures.stands l.path l.keeps_it; kept = l.kept }
