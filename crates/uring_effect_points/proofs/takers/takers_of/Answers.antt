use Rattle.std.proofs.Common.{◌≡◌, ap, sym, subst, ◌∙◌, ◌+◌, ◌++◌, ◌∷◌, [], arith, get_or, take, List, None}
use Rattle.uring_effect_points.proofs.Common.{Adds, FileContents, Running, Taker, take_all, take_more}
use Rattle.uring_entry.specs.declared.operation.Op.TheVariants.{Nop}
use Rattle.uring_effect_points.proofs.Adding.{MayBe, SoFar, so_far_all, so_far_more, so_far_same}
use Rattle.uring_effect_points.proofs.takers.takers_of.Goals as goal
use Rattle.uring_effect_points.proofs.takers.takers_of.Goals.{then-one-awaited+in_ok-add_takers, else-one-awaited}

abbrev none : Running
none = record { number = 0; op = Nop; taken = None }

pub loop-one-preserved : goal.loop-one-preserved
loop-one-preserved g c =
    let grown : take (c.loop-one.one-index + 1) c.args.running.now ≡ take c.loop-one.one-index c.args.running.now ++ get_or c.args.running.now c.loop-one.one-index none ∷ [] =
    let low = c.loop-one-test.true in take_more c.args.running.now c.loop-one.one-index none (omega (arith, low)) in
    elim c.if-one-awaited.branch [
      | then-one-awaited+in_ok-add_takers w ↦ record {
        same = w.files-is ∙ w.in_ok-add_takers.ensures.same ∙ c.loop-one.invariant.same;
        so_far = subst (λ (some : List Running). SoFar c.args.files.now c.args.running.now c.args.left.now c.args.awaited some c.if-one-awaited.takers.items) (sym grown) (subst (λ (xs : List Taker). SoFar c.args.files.now c.args.running.now c.args.left.now c.args.awaited (take c.loop-one.one-index c.args.running.now ++ get_or c.args.running.now c.loop-one.one-index none ∷ []) xs) (ap (λ v. v.items) (sym w.takers-is)) (so_far_more c.args.files.now c.args.running.now c.args.left.now c.args.awaited (take c.loop-one.one-index c.args.running.now) c.loop-one.takers.items w.add_takers.new.takers.items (get_or c.args.running.now c.loop-one.one-index none) c.loop-one.invariant.so_far (subst (λ (fs : List FileContents). Adds (MayBe fs c.args.running.now c.args.left.now (get_or c.args.running.now c.loop-one.one-index none).number) c.loop-one.takers.items w.add_takers.new.takers.items) c.loop-one.invariant.same w.in_ok-add_takers.ensures.adds)));
      }
      | else-one-awaited w ↦ record {
        same = w.files-is ∙ c.loop-one.invariant.same;
        so_far = subst (λ (some : List Running). SoFar c.args.files.now c.args.running.now c.args.left.now c.args.awaited some c.if-one-awaited.takers.items) (sym grown) (subst (λ (xs : List Taker). SoFar c.args.files.now c.args.running.now c.args.left.now c.args.awaited (take c.loop-one.one-index c.args.running.now ++ get_or c.args.running.now c.loop-one.one-index none ∷ []) xs) (ap (λ v. v.items) (sym w.takers-is)) (so_far_same c.args.files.now c.args.running.now c.args.left.now c.args.awaited (take c.loop-one.one-index c.args.running.now) c.loop-one.takers.items (get_or c.args.running.now c.loop-one.one-index none) c.loop-one.invariant.so_far w.if-one-awaited.false));
      }
    ]

pub returns-clause-takers : goal.returns-clause-takers
returns-clause-takers g c =
    let past = c.loop-one-test.false in
    so_far_all c.args.files.now c.args.running.now c.args.left.now c.args.awaited c.loop-one.takers.items c.add_takers-2.new.takers.items
    (subst (λ (some : List Running). SoFar c.args.files.now c.args.running.now c.args.left.now c.args.awaited some c.loop-one.takers.items) (take_all c.loop-one.one-index c.args.running.now (omega (arith, past))) c.loop-one.invariant.so_far)
    (subst (λ (fs : List FileContents). Adds (MayBe fs c.args.running.now c.args.left.now c.args.awaited) c.loop-one.takers.items c.add_takers-2.new.takers.items) c.loop-one.invariant.same c.in_ok-add_takers-2.ensures.adds)
