use Rattle.std.proofs.Common.{refl, ◌∙◌}
use Rattle.uring_volume.proofs.Results.{on_value}
use Rattle.uring_volume.proofs.Seeking.{padded_from}
use Rattle.uring_volume.proofs.listing.bytes_from.Goals as goal

pub returns-clause-bytes : goal.returns-clause-bytes
returns-clause-bytes g c =
    on_value c.grown.result _ _ (λ bytes is. is ∙ padded_from c.args.first.now _ c.args.from c.args.count c.min-start.result c.min-end.result c.min-start.ensures c.min-end.ensures refl) c.grown.ensures.bytes
