use Rattle.std.proofs.Common.{◌≡◌, ◌+◌, ◌-◌, ◌*◌, sym, ◌∙◌, ap, refl, arith, count_ones}
use Rattle.uring_dispatch.proofs.Common.{can_go, count_below, eq-eqb}
use Rattle.uring_dispatch.proofs.Counting.{block_counted, block_before}
use Rattle.uring_dispatch.proofs.IssuableLemmas.{count_start, count_end, nth_is, nth_past}
use Rattle.uring_dispatch.proofs.outstanding.Outstanding.nth.Goals as goal

pub loop-place-init : goal.loop-place-init
loop-place-init c =
    let none = count_start c.limit-limit.result c.first-place.result c.args.self.now.told c.first-place.ensures.before in
    ap (λ t. c.args.k + t) none ∙ omega arith

pub returns-then-left-count : goal.returns-then-left-count
returns-then-left-count c = λ r h.
    let so_far : c.loop-place.left + count_below (can_go c.args.self.now.waiting c.limit-limit.result) (64 * c.loop-place.place) ≡ c.args.k = c.loop-place.invariant in
    let within = c.nth_bit.ensures.within in
    let before = block_before (can_go c.args.self.now.waiting c.limit-limit.result) c.block-block.result c.loop-place.place c.nth_bit.result (λ j lt. c.block-block.ensures j (omega arith)) in
    let told = sym (c.block-block.ensures c.nth_bit.result within) ∙ eq-eqb _ 1 c.nth_bit.ensures.here in
    nth_is c.limit-limit.result c.args.self.now.grouped.fits h c.args.self.now.told (c.limit-limit.ensures r h) told (before ∙ omega (arith, so_far, c.nth_bit.ensures.before))

pub loop-place-preserved : goal.loop-place-preserved
loop-place-preserved c =
    let step = block_counted (can_go c.args.self.now.waiting c.limit-limit.result) c.block-block.result c.loop-place.place 64 refl c.block-block.type_inv c.block-block.ensures in
    let so_far : c.loop-place.left + count_below (can_go c.args.self.now.waiting c.limit-limit.result) (64 * c.loop-place.place) ≡ c.args.k = c.loop-place.invariant in
    let ones : c.from-count.result ≡ count_ones c.block-block.result = c.from-count.ensures in
    let enough = c.if-left-count.false in
    ap (λ t. c.loop-place.left - c.from-count.result + t) step ∙ omega arith

pub returns : goal.returns
returns c = λ r h.
    let so_far : c.loop-place.left + count_below (can_go c.args.self.now.waiting c.limit-limit.result) (64 * c.loop-place.place) ≡ c.args.k = c.loop-place.invariant in
    let all = count_end c.limit-limit.result c.args.self.now.grouped.fits h c.args.self.now.told (c.limit-limit.ensures r h) (64 * c.loop-place.place) (omega (arith, c.end.ensures.value)) in
    nth_past r c.args.k (omega arith)
