use Rattle.std.proofs.Common.{◌∷◌, ◌++◌, [], map, subst}
use Rattle.std.specs.Prelude.{Contains}
use Rattle.uring_walk.specs.Amid.{AreKept}
use Rattle.uring_walk.proofs.Keeping.{waits_on, first_of, last_of}
use Rattle.uring_walk.proofs.visits.go_on.Goals as goal

pub keep_all-requires : goal.keep_all-requires
keep_all-requires g c = (
  c.requires.path,
  c.requires.at c.in-Some.last (last_of c.args.next.items c.pop.new.self.items c.in-Some.last c.in-Some.ensures.items),
  λ x there. c.requires.each x (first_of c.args.next.items c.pop.new.self.items c.in-Some.last x c.in-Some.ensures.items (subst (λ xs. Contains xs x) c.as_slice.ensures.value there)),
)

pub make-requires : goal.make-requires
make-requires g c = (
  c.requires.path,
  c.requires.at c.in-Some.last (last_of c.args.next.items c.pop.new.self.items c.in-Some.last c.in-Some.ensures.items),
  c.requires.each c.in-Some.last (last_of c.args.next.items c.pop.new.self.items c.in-Some.last c.in-Some.ensures.items),
)

pub returns-clause-goes : goal.returns-clause-goes
returns-clause-goes g c = λ path paths each kept.
    let last = last_of c.args.next.items c.pop.new.self.items c.in-Some.last c.in-Some.ensures.items in
    let stands = (each c.in-Some.last last).0 in
    let others = c.in_ok-keep_all.ensures.kept path paths stands (λ x there. (each x (first_of c.args.next.items c.pop.new.self.items c.in-Some.last x c.in-Some.ensures.items (subst (λ xs. Contains xs x) c.as_slice.ensures.value there))).1) kept in
    waits_on (g.W.Moves.stands c.args.moves.now) (g.W.Moves.keeps c.args.moves.now) c.in_ok-make.field-0 c.keep_all.new.todo.items paths path c.args.next.items c.pop.new.self.items c.in-Some.last c.in-Some.ensures.items (c.in_ok-make.ensures.made path stands (each c.in-Some.last last).1)
    (subst (λ ms. AreKept (g.W.Moves.keeps c.args.moves.now) c.keep_all.new.todo.items (paths ++ map (λ x. path ++ x ∷ []) ms)) c.as_slice.ensures.value others)
