use Rattle.std.proofs.Common.{ℕ, [], ◌∷◌, ◌++◌, map, Vec, Global, arith, ap, sym, ◌∙◌}
use Rattle.uring_crash_outcomes.proofs.Common.{Crash, take_all, with_file}
use Rattle.uring_crash_outcomes.proofs.Lists.{map_more, map_map}
use Rattle.uring_crash_outcomes.proofs.crash.spread_one.Goals as goal

pub loop-image-preserved : goal.loop-image-preserved
loop-image-preserved g c =
    map_more (λ (b : Vec ℕ Global). with_file c.args.crash.now b.items) c.args.images.now c.loop-image.image-index c.image-item.result c.args.wider.now.items _ _ (omega arith) c.image-item.is c.loop-image.invariant
    (c.in_ok-push.ensures.items ∙ ap (λ (d : Crash). c.loop-image.wider.items ++ d ∷ []) (c.in_ok-more.ensures.wider ∙ ap (with_file c.args.crash.now) c.as_slice.ensures.value))

pub returns-clause-wider : goal.returns-clause-wider
returns-clause-wider g c =
    c.loop-image.invariant
    ∙ ap (λ bs. c.args.wider.now.items ++ bs) (ap (map (λ (b : Vec ℕ Global). with_file c.args.crash.now b.items)) (take_all c.loop-image.image-index c.args.images.now (omega arith)) ∙ sym (map_map (with_file c.args.crash.now) (λ (b : Vec ℕ Global). b.items) c.args.images.now))
