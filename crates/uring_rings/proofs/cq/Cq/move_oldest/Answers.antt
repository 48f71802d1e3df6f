use Rattle.std.proofs.Common.{◌≡◌, [], ◌<◌, ◌+◌, arith, rules}
use Rattle.uring_rings.proofs.CompletionSteps.{put_above, put_shows, stays}
use Rattle.uring_rings.proofs.cq.Cq.move_oldest.Goals as goal

pub returns-in-Some-clause-shows : goal.returns-in-Some-clause-shows
returns-in-Some-clause-shows c = rw (← c.self.view_is, c.put.ensures) (λ g l s.
    let above = put_above g _ l c.distance.result c.self.invariant.0 s (search rules) (search rules) in
    let near : l.put < l.seen_head + g.cq = omega (arith, s.size) in
    put_shows g _ l c.in-Some.completion _ _ c.self.invariant.0 s near c.in-Some.ensures.items)

pub returns-in-None-clause-answer : goal.returns-in-None-clause-answer
returns-in-None-clause-answer c =
    let none : c.self.inside.overflow.items ≡ [] = search rules in
    rw (← c.self.view_is) (λ g l s. stays g _ l s none)
