use Rattle.std.proofs.Common.{◌∙◌, sym, pos_of_ne-zero}
use Rattle.uring_number_set.proofs.BlockLemmas.{none_from, least_within, least_after}
use Rattle.uring_number_set.proofs.blocks.Blocks.least_from.Goals as goal

pub returns-in-Some : goal.returns-in-Some
returns-in-Some c = least_within c.args.self.now c.args.n c.block.result c.in-Some.m c.block.ensures.value c.in-Some.ensures

pub returns-in_err-place : goal.returns-in_err-place
returns-in_err-place c = rw c.from_residual.ensures (none_from c.args.self.now c.args.n c.block.result c.block.ensures.value c.in_default.ensures c.in_err-place.ensures)

pub lowest-requires : goal.lowest-requires
lowest-requires c =
    let some = pos_of_ne-zero (λ e. c.in_ok-place.ensures.filled (sym c.block-2.ensures.value ∙ e)) in
    record { some = some; fits = c.block-2.ensures.fits some }

pub returns : goal.returns
returns c =
    let some = pos_of_ne-zero (λ e. c.in_ok-place.ensures.filled (sym c.block-2.ensures.value ∙ e)) in
    rw c.lowest.ensures
    (least_after c.args.self.now c.args.n c.block.result c.in_ok-place.place c.block-2.result c.block.ensures.value c.in_default.ensures c.block-2.ensures.value some c.block-2.type_inv c.in_ok-place.ensures.from_on c.in_ok-place.ensures.before)
