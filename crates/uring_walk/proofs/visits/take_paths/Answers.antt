use Rattle.std.proofs.Common.{◌++◌, ◌∷◌, [], IfSome, subst, arith, rules}
use Rattle.uring_walk.specs.Amid.{StandsLast, Takes}
use Rattle.uring_walk.proofs.Keeping.{waits_none}
use Rattle.uring_walk.proofs.Visiting.{at_next, ends_all, ends_found, ends_limit, one_waits, is_empty, not_empty, not_none}
use Rattle.uring_walk.proofs.visits.take_paths.Goals as goal
use Rattle.uring_walk.proofs.visits.take_paths.Goals.{else-is_none-via-then-is_none+else-is_empty, else-is_none-via-else-is_none}

pub next_place-requires : goal.next_place-requires
next_place-requires g c = (c.paths.invariant.todo, c.paths.invariant.waits)

pub returns-then-branch-clause-walked : goal.returns-then-branch-clause-walked
returns-then-branch-clause-walked g c =
    let i = c.paths.invariant in
    let m = c.args.moves.now in
    let last = subst (λ o. IfSome o (λ p. StandsLast (g.W.Moves.stands m) (g.W.Moves.keeps m) p c.next_place.new.todo.items i.todo)) c.in-Some.is (c.in_ok-place.ensures.some i.todo i.waits) in
    let t = c.in_ok-take_path.ensures.takes i.todo i.seen last i.notes_are in (
      i.seen ++ last.path ∷ [],
      ends_found (g.W.Moves.due m) (g.W.Moves.can m) (g.W.Moves.sought m) (g.W.Moves.stands m) (g.W.Moves.keeps m) (g.W.Moves.noted m) c.args.most i.todo i.seen c.in-Some.place c.next_place.new.todo.items last c.take_path.new.here c.take_path.new.todo.items (let low = c.paths-test.true in let many = i.many in omega arith) i.amid
          (subst (λ b. Takes (g.W.Moves.due m) (g.W.Moves.can m) (g.W.Moves.sought m) (g.W.Moves.stands m) (g.W.Moves.keeps m) last.before last.path c.take_path.new.here c.take_path.new.todo.items b) c.if-branch.true t.0),
      t.1,
    )

pub paths-preserved : goal.paths-preserved
paths-preserved g c =
    let i = c.paths.invariant in
    let m = c.args.moves.now in
    let last = subst (λ o. IfSome o (λ p. StandsLast (g.W.Moves.stands m) (g.W.Moves.keeps m) p c.next_place.new.todo.items i.todo)) c.in-Some.is (c.in_ok-place.ensures.some i.todo i.waits) in
    let t = c.in_ok-take_path.ensures.takes i.todo i.seen last i.notes_are in
    at_next (g.W.Moves.due m) (g.W.Moves.can m) (g.W.Moves.sought m) (g.W.Moves.stands m) (g.W.Moves.keeps m) (g.W.Moves.noted m) i.todo i.seen c.in-Some.place c.next_place.new.todo.items last c.take_path.new.here c.take_path.new.todo.items c.take_path.new.notes c.args.most c.paths.done i.amid i.many c.paths-test.true
    (subst (λ b. Takes (g.W.Moves.due m) (g.W.Moves.can m) (g.W.Moves.sought m) (g.W.Moves.stands m) (g.W.Moves.keeps m) last.before last.path c.take_path.new.here c.take_path.new.todo.items b) c.if-branch.false t.0)
    t.1

pub returns-else-is_none-clause-walked : goal.returns-else-is_none-clause-walked
returns-else-is_none-clause-walked g c =
    let i = c.paths.invariant in
    let m = c.args.moves.now in
    let one = one_waits (g.W.Moves.due m) (g.W.Moves.can m) (g.W.Moves.sought m) (g.W.Moves.stands m) (g.W.Moves.keeps m) (g.W.Moves.noted m) c.paths.here c.paths.todo.items i.todo i.waits
    (λ both. elim c.else-is_none.branch [
      | else-is_none-via-then-is_none+else-is_empty w ↦ not_empty c.paths.todo.items c.paths.todo.len w.is_empty.result c.paths.todo.ok.0 w.is_empty.ensures w.if-is_empty.false both.1
      | else-is_none-via-else-is_none w ↦ not_none c.paths.here c.is_none.result c.is_none.ensures w.if-is_none.false both.0
    ]) in (
      i.seen,
      ends_limit (g.W.Moves.due m) (g.W.Moves.can m) (g.W.Moves.sought m) (g.W.Moves.stands m) (g.W.Moves.keeps m) (g.W.Moves.noted m) c.args.most i.todo i.seen one.0 one.1 (let test = c.paths-test.false in let many = i.many in let few = i.few in omega arith) i.amid,
      i.notes_are,
    )

pub returns-then-is_empty-clause-walked : goal.returns-then-is_empty-clause-walked
returns-then-is_empty-clause-walked g c =
    let i = c.paths.invariant in
    let m = c.args.moves.now in (
      i.seen,
      ends_all (g.W.Moves.due m) (g.W.Moves.can m) (g.W.Moves.sought m) (g.W.Moves.stands m) (g.W.Moves.keeps m) (g.W.Moves.noted m) c.args.most i.todo i.seen (waits_none (g.W.Moves.stands m) (g.W.Moves.keeps m) c.paths.here c.paths.todo.items i.todo (search rules) (is_empty c.paths.todo.items c.paths.todo.len c.is_empty.result c.paths.todo.ok.0 c.is_empty.ensures c.if-is_empty.true) i.waits) (let many = i.many in let few = i.few in omega arith) i.amid,
      i.notes_are,
    )
