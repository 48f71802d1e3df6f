use Rattle.std.proofs.Common.{◌≡◌, ◌+◌, ◌*◌, sym, ◌∙◌, refl, arith, count_ones}
use Rattle.uring_dispatch.proofs.Common.{can_go, count_below}
use Rattle.uring_dispatch.proofs.Counting.{block_counted, count_below_within}
use Rattle.uring_dispatch.proofs.IssuableLemmas.{count_start, count_end}
use Rattle.uring_dispatch.proofs.outstanding.Outstanding.count.Goals as goal

pub loop-place-init : goal.loop-place-init
loop-place-init c = sym (count_start c.limit-limit.result c.first-place.result c.args.self.now.told c.first-place.ensures.before)

pub overflow_add-total : goal.overflow_add-total
overflow_add-total c =
    let step = block_counted (can_go c.args.self.now.waiting c.limit-limit.result) c.block.result c.loop-place.place 64 refl c.block.type_inv c.block.ensures in
    let few = count_below_within (can_go c.args.self.now.waiting c.limit-limit.result) (64 * (c.loop-place.place + 1)) in
    let so_far : c.loop-place.total ≡ count_below (can_go c.args.self.now.waiting c.limit-limit.result) (64 * c.loop-place.place) = c.loop-place.invariant in
    let ones : c.from-total.result ≡ count_ones c.block.result = c.from-total.ensures in
    omega (arith, c.end.ensures.limit)

pub returns : goal.returns
returns c = λ r h.
    c.loop-place.invariant
    ∙ count_end c.limit-limit.result c.args.self.now.grouped.fits h c.args.self.now.told (c.limit-limit.ensures r h) (64 * c.loop-place.place) (omega (arith, c.end.ensures.value))
