use Rattle.std.proofs.Common.{◌≡◌, ◌++◌, ◌∷◌, [], sym, ap, ◌∙◌}
use Rattle.uring_outcomes.proofs.Common.{entries_of}
use Rattle.uring_outcomes.proofs.Covering.{spot_longer}
use Rattle.uring_outcomes.proofs.stage.CallMovesMoves.keep.Goals as goal

pub returns-clause-kept : goal.returns-clause-kept
returns-clause-kept g c = λ path stands can. (
  c.in_ok-path.path,
  c.push_reserved.ensures.items ∙ ap (λ xs. xs ++ c.in_ok-path.path ∷ []) c.reserve.ensures.items,
  spot_longer c.args.self.now.setup.now (entries_of c.args.self.now.calls.now) path c.args.next c.args.stage.now c.in_ok-path.path.items stands can (c.in_ok-path.ensures.longer ∙ ap (λ p. p ++ c.args.next ∷ []) c.as_slice.ensures.value),
)
