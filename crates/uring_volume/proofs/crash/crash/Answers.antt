use Rattle.std.proofs.Common.{rules, length, sym, subst, ap, ◌∙◌, arith}
use Rattle.uring_volume.specs.Choices.{issued, chosen, IsLeftBy}
use Rattle.uring_volume.proofs.ReadBack.{len_grows}
use Rattle.uring_volume.proofs.Painting.{written_back}
use Rattle.uring_volume.proofs.Leaving.{left_by}
use Rattle.uring_volume.proofs.crash.crash.Goals as goal

pub grown-requires : goal.grown-requires
grown-requires g c =
    omega (arith, c.in_ok-len.ensures.length, len_grows (length c.args.first.now) (chosen c.args.past.now.history (issued c.args.past.now.history) c.first_part.result.0.now))

pub returns-clause-left : goal.returns-clause-left
returns-clause-left g c =
    subst (λ now. IsLeftBy c.args.unit c.args.first.now c.args.past.now.history c.args.choice.now now)
    (sym (written_back c.leave_units.new.now c.in_ok-now.now.items c.in_ok-now.now.len (search rules) (c.leave_units.auto.now ∙ ap length c.deref_mut.ensures.value)))
    (left_by c.args.unit c.args.first.now c.args.past.now.history c.args.choice.now c.first_part.result.0.now c.first_part.result.1.now
    c.deref_mut.result.now c.leave_units.new.now c.in_ok-len.len
    c.first_part.ensures.first c.first_part.ensures.rest
    c.in_ok-len.ensures.length (c.deref_mut.ensures.value ∙ c.in_ok-now.ensures.bytes) c.leave_units.auto.now c.in_ok-leave_units.ensures.left)
