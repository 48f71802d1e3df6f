use Rattle.std.proofs.Common.{refl, ap, Err}
use Rattle.uring_options.proofs.Refusals.{too_small}
use Rattle.uring_options.proofs.values.setup_over.Goals as goal

pub returns-in-Ok-clause-err : goal.returns-in-Ok-clause-err
returns-in-Ok-clause-err c = tt

pub returns-in-Err-BadCq-clause-err : goal.returns-in-Err-BadCq-clause-err
returns-in-Err-BadCq-clause-err c =
    let bad = (c.in-Err-BadCq.ensures.bad_cq.0 (ap (λ e. Err e) c.in-Err-BadCq.field-0-is)).1 in
    (refl, too_small _ c.requires (rw c.unwrap_or-sq.ensures at bad))
