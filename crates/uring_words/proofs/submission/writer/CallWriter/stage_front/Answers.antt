use Rattle.std.proofs.Common.{[], ◌∷◌, ◌++◌, length, map, take, arith, sym, ap, ◌∙◌, length-append, length-take-le}
use Rattle.std.proofs.lemmas.List.{take_more, map-append, length-map}
use Rattle.uring_ports.proofs.AppEndLemmas.{item_at}
use Rattle.uring_words.specs.Submission.Calls.{item_of}
use Rattle.uring_words.specs.Submission.Ends.{End, app_knows}
use Rattle.uring_words.proofs.CallLemmas.{goes_on_snoc}
use Rattle.uring_words.proofs.submission.writer.CallWriter.stage_front.Goals as goal

pub stage_item-requires-clause-room : goal.stage_item-requires-clause-room
stage_item-requires-clause-room c =
    let inv = c.loop-item.invariant in
    let a = c.args.self.now.knows.app in
    let staged = c.loop-item.self.knows.app.staged in
    rw inv.is (omega (arith, length-append a.published staged, ap length inv.staged, length-map staged item_of, length-take-le c.loop-item.item-index c.args.items.now (omega arith), c.requires.room))

pub stage_item-requires-clause-item : goal.stage_item-requires-clause-item
stage_item-requires-clause-item c = rw c.loop-item.invariant.is (item_at c.args.self.now.knows.app.size c.args.items.now c.loop-item.item-index c.item-item.result c.loop-item-test.true c.item-item.is c.requires.items)

pub loop-item-preserved : goal.loop-item-preserved
loop-item-preserved c =
    let inv = c.loop-item.invariant in
    let e = c.args.self.now in
    let s = c.stage_item.ensures in
    let old = c.loop-item.self.knows.app.staged in
    let p = s.position in
    let new = ap (λ (x : End). x.knows.app.staged) s.is in
    record {
      is = s.is ∙ ap (λ (x : End). app_knows x (record x.knows.app { staged = old ++ p ∷ [] })) inv.is ∙ ap (λ l. app_knows e (record e.knows.app { staged = l })) (sym new);
      goes_on = rw new (goes_on_snoc old p inv.goes_on s.open_ s.ends);
      staged = ap (map item_of) new ∙ map-append item_of old (p ∷ []) ∙ ap (λ l. l ++ item_of p ∷ []) inv.staged ∙ ap (λ x. take c.loop-item.item-index c.args.items.now ++ x ∷ []) (s.item ∙ c.item-item.is) ∙ sym (take_more c.args.items.now c.loop-item.item-index c.item-item.result c.loop-item-test.true);
    }
