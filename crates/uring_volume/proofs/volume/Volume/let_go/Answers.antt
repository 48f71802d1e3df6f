use Rattle.std.proofs.Common.{subst, arith}
use Rattle.uring_volume.proofs.Common.{IsSound}
use Rattle.uring_volume.proofs.Folded.{folded_more}
use Rattle.uring_volume.proofs.KeptFolds.{none_under}
use Rattle.uring_volume.proofs.volume.Volume.let_go.Goals as goal

pub returns-then-not-let_one_go-clause-folded : goal.returns-then-not-let_one_go-clause-folded
returns-then-not-let_one_go-clause-folded c =
    let sound : IsSound c.args.self.now = subst IsSound c.self.view_is (record { unit = c.self.invariant; lawful = c.is_past.ensures.lawful; numbered = c.is_past.ensures.numbered }) in
    folded_more c.args.self.now c.loop-step.self c.let_one_go.new.self sound.lawful c.loop-step.invariant.folded c.let_one_go.ensures.folded

pub loop-step-preserved : goal.loop-step-preserved
loop-step-preserved c =
    let sound : IsSound c.args.self.now = subst IsSound c.self.view_is (record { unit = c.self.invariant; lawful = c.is_past.ensures.lawful; numbered = c.is_past.ensures.numbered }) in
    record {
      folded = folded_more c.args.self.now c.loop-step.self c.let_one_go.new.self sound.lawful c.loop-step.invariant.folded c.let_one_go.ensures.folded;
      room = omega (arith, c.loop-step.invariant.room, c.let_one_go.ensures.fewer c.if-not-let_one_go.false);
    }

pub returns-clause-none : goal.returns-clause-none
returns-clause-none c = λ w lost under. none_under c.loop-step.self.history w (omega (arith, c.loop-step.invariant.room)) under

pub returns-then-not-let_one_go-clause-none : goal.returns-then-not-let_one_go-clause-none
returns-then-not-let_one_go-clause-none c = c.let_one_go.ensures.none c.if-not-let_one_go.true
