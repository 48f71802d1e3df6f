use Rattle.std.proofs.Common.{◌≡◌, ◌<◌, length, subst, sym, refl, ap, ◌∙◌, arith}
use Rattle.uring_threads.proofs.Common.{Appends, Setup, Stands, World, all_published_as, items_row, now, published_as, take_all, with_item_put, with_items_published, with_items_put}
use Rattle.uring_core.specs.declared.step.Step.TheVariants as step
use Rattle.uring_threads.proofs.ItemSteps.{put_stands, items_more, published_now}
use Rattle.uring_threads.proofs.Recording.{items_recorded}
use Rattle.uring_threads.proofs.TraceSteps.{appends_one, appends_then, grown_length}
use Rattle.uring_threads.proofs.calls.publish_items.Goals as goal

pub put_item-requires-clause-stands : goal.put_item-requires-clause-stands
put_item-requires-clause-stands c =
    subst (λ (w : World). Stands w.submission w.submission.fresh 0) (sym c.loop-item.invariant.world) (put_stands (now c.args.kept.now) c.args.items.now c.loop-item.item-index c.requires.stands (omega arith)).0

pub put_item-requires-clause-few : goal.put_item-requires-clause-few
put_item-requires-clause-few c =
    subst (λ (w : World). length w.submission.fresh < c.loop-item.kept.setup.sq) (sym c.loop-item.invariant.world)
    (omega (arith, (put_stands (now c.args.kept.now) c.args.items.now c.loop-item.item-index c.requires.stands (omega arith)).1, ap (λ (s : Setup). s.sq) c.loop-item.invariant.row.setup))

pub loop-item-preserved : goal.loop-item-preserved
loop-item-preserved c =
    let i = c.loop-item.invariant in
    record {
      slot = omega (arith, i.slot);
      events = omega (arith, i.events, c.put_item.ensures.length);
      world = c.put_item.ensures.world ∙ ap (λ w. with_item_put w c.loop-item.slot (published_as c.item-item.result)) i.world ∙ items_more (now c.args.kept.now) c.args.items.now c.loop-item.item-index c.loop-item.slot c.item-item.result i.slot (omega arith) c.item-item.is;
      row = items_recorded c.args.kept.now c.loop-item.kept c.put_item.new.kept c.args.items.now c.loop-item.item-index c.loop-item.slot c.item-item.result i.slot (omega arith) c.item-item.is i.row c.put_item.ensures.row;
    }

pub returns : goal.returns
returns c =
    let i = c.loop-item.invariant in
    let k = c.loop-item.kept in
    let items = c.args.items.now in
    let w = now c.args.kept.now in
    let grows = c.step_reserved.ensures.grows in
    let many : c.loop-item.item-index ≡ length items = omega (arith, c.loop-item-test.false, c.loop-item.auto.item-index-end) in
    let all = take_all c.loop-item.item-index items c.loop-item-test.false in
    let made = published_now k c.step_reserved.new.self w items c.step_reserved.result c.requires.stands (i.world ∙ ap (λ xs. with_items_put w (all_published_as xs)) all) grows in
    record {
      world = made.0 ∙ ap (λ (g : Setup). with_items_published g.sq w (all_published_as items)) i.row.setup;
      stands = made.1;
      row = appends_then (subst (λ xs. Appends c.args.kept.now k (items_row 0 xs)) all i.row) (appends_one k c.step_reserved.new.self step.StoreTail c.step_reserved.result grows refl);
      length = omega (arith, i.events, many, grown_length k c.step_reserved.new.self _ grows);
    }
