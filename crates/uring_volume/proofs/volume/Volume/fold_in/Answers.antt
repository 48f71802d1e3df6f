use Rattle.std.proofs.Common.{[], sym, ap, ◌∙◌, arith}
use Rattle.uring_volume.proofs.Common.{IsSound, Ok}
use Rattle.uring_volume.proofs.Folded.{folded_more, under_back}
use Rattle.uring_volume.proofs.KeptFolds.{none_foldable}
use Rattle.uring_volume.proofs.volume.Volume.fold_in.Goals as goal

pub returns-in_err-fold_one-clause-folded : goal.returns-in_err-fold_one-clause-folded
returns-in_err-fold_one-clause-folded g c =
    let sound : IsSound c.args.self.now = c.is_sound.ensures in
    folded_more c.args.self.now c.loop-step.self c.fold_one.new.self sound.lawful c.loop-step.invariant.folded c.fold_one.ensures.folded

pub returns-then-not-branch-clause-folded : goal.returns-then-not-branch-clause-folded
returns-then-not-branch-clause-folded g c =
    let sound : IsSound c.args.self.now = c.is_sound.ensures in
    folded_more c.args.self.now c.loop-step.self c.fold_one.new.self sound.lawful c.loop-step.invariant.folded c.fold_one.ensures.folded

pub loop-step-preserved : goal.loop-step-preserved
loop-step-preserved g c =
    let sound : IsSound c.args.self.now = c.is_sound.ensures in
    record {
      folded = folded_more c.args.self.now c.loop-step.self c.fold_one.new.self sound.lawful c.loop-step.invariant.folded c.fold_one.ensures.folded;
      under = λ w lost u. c.loop-step.invariant.under w (sym (c.fold_one.ensures.folded.safe [] w (c.loop-step.invariant.folded.lawful [] sound.lawful) u.issued) ∙ lost) (under_back c.loop-step.self c.fold_one.new.self w (c.loop-step.invariant.folded.lawful [] sound.lawful) c.fold_one.ensures.folded u);
      room = omega (arith, c.loop-step.invariant.room, c.fold_one.ensures.fewer (c.in_ok-fold_one.was ∙ ap Ok c.if-not-branch.false));
    }

pub returns-clause-none_left : goal.returns-clause-none_left
returns-clause-none_left g c = λ w foldable. none_foldable c.loop-step.self.history w (omega (arith, c.loop-step.invariant.room)) foldable

pub returns-then-not-branch-clause-none_under : goal.returns-then-not-branch-clause-none_under
returns-then-not-branch-clause-none_under g c = λ w lost u.
    let sound : IsSound c.args.self.now = c.is_sound.ensures in
    c.loop-step.invariant.under w (sym (c.fold_one.ensures.folded.safe [] w (c.loop-step.invariant.folded.lawful [] sound.lawful) u.issued) ∙ lost) (under_back c.loop-step.self c.fold_one.new.self w (c.loop-step.invariant.folded.lawful [] sound.lawful) c.fold_one.ensures.folded u)

pub returns-clause-none_under : goal.returns-clause-none_under
returns-clause-none_under g c = λ w lost u. c.loop-step.invariant.under w lost u
