use Rattle.std.proofs.Common.{◌+◌, ◌*◌, inl, inr, arith}
use Rattle.uring_volume.specs.Images.{is_on}
use Rattle.uring_volume.proofs.IssuedWays.{filter_issued}
use Rattle.uring_volume.proofs.Painting.{below_or_from, in_unit}
use Rattle.uring_volume.proofs.crash.leave_unit.Goals as goal

pub returns-clause-others : goal.returns-clause-others
returns-clause-others g c = λ k apart.
    elim (below_or_from k (c.args.unit * c.args.i)) [
      | inl before ↦ c.write_all.ensures.before k before
      | inr from ↦ elim (below_or_from k (c.args.unit * c.args.i + c.args.unit)) [
        | inl inside ↦ absurd (apart (in_unit c.args.unit c.args.i k from inside))
        | inr after ↦ c.write_all.ensures.after k (omega arith)
      ]
    ]

pub choose-requires : goal.choose-requires
choose-requires g c = filter_issued c.args.past.now.history (is_on c.args.unit c.args.i) _ c.in_ok-on.ensures.pieces
