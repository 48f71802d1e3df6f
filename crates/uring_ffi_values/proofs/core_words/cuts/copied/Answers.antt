use Rattle.std.proofs.Common.{◌++◌, List, ap, ◌∙◌}
use Rattle.uring_ffi_values.proofs.core_words.cuts.copied.Goals as goal

pub returns-clause-values : goal.returns-clause-values
returns-clause-values g c =
    c.in-Ok-extend_from_slice.ensures.items ∙ ap (λ (xs : List g.row.T.Denot). xs ++ c.args.values.now) c.in-Ok.ensures.items
