use Rattle.std.proofs.Common.{rules, ◌==◌, not}
use Rattle.std.proofs.lemmas.Fn.{filter_same}
use Rattle.uring_volume.proofs.past.take_sync.Goals as goal

pub returns-clause-taken : goal.returns-clause-taken
returns-clause-taken c =
    filter_same _ (λ t. not (t.number == c.args.s)) _ (λ x b f' k. search rules) _ _ c.retain.ensures.filtered
