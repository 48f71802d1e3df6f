use Rattle.std.proofs.Common.{sym, subst, ◌∷◌, ◌++◌, [], ◌+◌, arith}
use Rattle.uring_reconstruct.proofs.Common.{IfOk-weaker, IsFilling, IsSearch, false≢true, history_of, paths_of}
use Rattle.uring_reconstruct.proofs.search.follow.Goals as goal

pub visit-found-requires : goal.visit-found-requires
visit-found-requires g c = record {
  fits = c.in_ok-core.ensures.fits;
  told = c.requires.told;
  stands = subst (λ s. IsSearch s c.args.seen.now (paths_of c.args.todo.now.items ++ c.args.path.now ∷ []) c.args.reach.now.events.items c.args.reach.now.place) (sym c.in_ok-core.ensures.setup) c.requires.stands;
}

pub returns-in_err-core-clause-granted : goal.returns-in_err-core-clause-granted
returns-in_err-core-clause-granted g c = λ all.
    let s = c.args.setup.now in
    absurd (false≢true (c.in_err-core.ensures.granted (s.sq + s.cq) (all _) (omega arith) (omega arith)))

pub returns-clause-found : goal.returns-clause-found
returns-clause-found g c =
    IfOk-weaker c.visit-found.result _ _ (λ b f e. subst (λ s. IsFilling s c.args.seen.now (history_of c.visit-found.new.reach.events.items)) c.in_ok-core.ensures.setup (f e)) c.visit-found.ensures.found

pub returns-clause-on : goal.returns-clause-on
returns-clause-on g c =
    IfOk-weaker c.visit-found.result _ _ (λ b f e. subst (λ s. IsSearch s c.args.seen.now (paths_of c.visit-found.new.todo.items) c.visit-found.new.reach.events.items c.visit-found.new.reach.place) c.in_ok-core.ensures.setup (f e)) c.visit-found.ensures.on
