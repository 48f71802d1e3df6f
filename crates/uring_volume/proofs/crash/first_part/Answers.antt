use Rattle.std.proofs.Common.{◌+◌, ◌∙◌, length, drop, ap, add-one, arith}
use Rattle.uring_volume.proofs.Common.{drop_all, part}
use Rattle.uring_volume.proofs.Parts.{NoneBelow, part_first, part_later, part_all, part_none, all_after}
use Rattle.uring_volume.proofs.crash.first_part.Goals as goal

pub returns-then-n-eq0-clause-first : goal.returns-then-n-eq0-clause-first
returns-then-n-eq0-clause-first c =
    part_first c.args.choice.now c.loop-i.i c.loop-i.invariant c.loop-i-test.true c.if-n-eq0.true

pub returns-then-n-eq0-clause-rest : goal.returns-then-n-eq0-clause-rest
returns-then-n-eq0-clause-rest c =
    λ j. ap (λ ns. part ns j) (all_after c.args.choice.now (c.loop-i.i + 1) ∙ ap (λ n. drop n c.args.choice.now) (add-one c.loop-i.i))
    ∙ part_later c.args.choice.now c.loop-i.i c.loop-i.invariant c.loop-i-test.true c.if-n-eq0.true j

pub returns-clause-first : goal.returns-clause-first
returns-clause-first c =
    let none : NoneBelow c.args.choice.now (length c.args.choice.now) = λ k below. c.loop-i.invariant k (omega arith) in
    part_all c.args.choice.now none

pub returns-clause-rest : goal.returns-clause-rest
returns-clause-rest c =
    let none : NoneBelow c.args.choice.now (length c.args.choice.now) = λ k below. c.loop-i.invariant k (omega arith) in
    λ j. ap (λ ns. part ns j) (all_after c.args.choice.now (length c.args.choice.now) ∙ drop_all (length c.args.choice.now) c.args.choice.now (omega arith))
    ∙ part_none c.args.choice.now none j
