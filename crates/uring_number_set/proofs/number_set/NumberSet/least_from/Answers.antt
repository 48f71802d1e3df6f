use Rattle.std.proofs.Common.{◌∙◌, sym, pos_of_ne-zero}
use Rattle.uring_number_set.proofs.BlockLemmas.{none_from, least_within, least_after}
use Rattle.uring_number_set.proofs.FilledBlocks.{filled_none, filled_some, limit_least}
use Rattle.uring_number_set.proofs.number_set.NumberSet.least_from.Goals as goal

pub returns-in-Some : goal.returns-in-Some
returns-in-Some c =
    rw (← c.self.view_is) (limit_least c.self.inside.numbers _ _ _ (least_within c.self.inside.numbers c.args.n c.block.result c.in-Some.m c.block.ensures.value c.in-Some.ensures))

pub returns-in_err-place : goal.returns-in_err-place
returns-in_err-place c =
    rw (← c.self.view_is, c.from_residual.ensures) (none_from _ c.args.n c.block.result c.block.ensures.value c.in_default.ensures (λ i le. filled_none c.self.inside.numbers c.self.inside.filled i c.self.invariant (c.in_err-place.ensures i le)))

pub lowest-requires : goal.lowest-requires
lowest-requires c =
    let some = pos_of_ne-zero (λ e. filled_some c.self.inside.numbers c.self.inside.filled c.in_ok-place.place c.self.invariant c.in_ok-place.ensures.here (sym c.block-2.ensures.value ∙ e)) in
    record { some = some; fits = c.block-2.ensures.fits some }

pub returns : goal.returns
returns c =
    let some = pos_of_ne-zero (λ e. filled_some c.self.inside.numbers c.self.inside.filled c.in_ok-place.place c.self.invariant c.in_ok-place.ensures.here (sym c.block-2.ensures.value ∙ e)) in
    let least = least_after c.self.inside.numbers c.args.n c.block.result c.in_ok-place.place c.block-2.result c.block.ensures.value c.in_default.ensures c.block-2.ensures.value some c.block-2.type_inv c.in_ok-place.ensures.from
    (λ k le lt. filled_none c.self.inside.numbers c.self.inside.filled k c.self.invariant (c.in_ok-place.ensures.before k le lt))
    in rw (← c.self.view_is) (rw c.lowest.ensures (limit_least c.self.inside.numbers _ _ _ least))
