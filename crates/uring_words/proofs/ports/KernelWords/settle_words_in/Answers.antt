use Rattle.std.proofs.Common.{sym, ap, ◌∙◌}
use Rattle.uring_words.specs.PortViews.{AppWords, KernelWords}
use Rattle.uring_words.proofs.Tables.{same_tables}
use Rattle.uring_words.proofs.ports.KernelWords.settle_words_in.Goals as goal

pub take_unsent-requires-clause-table : goal.take_unsent-requires-clause-table
take_unsent-requires-clause-table g c =
    let numbers = ap (λ (p : KernelWords). p.pairing) c.self.view_is ∙ c.requires ∙ sym (ap (λ (p : AppWords). p.pairing) c.app.view_is) in
    sym (same_tables c.self.inside.calls.table c.self.inside.completions.table c.app.inside.calls.table c.app.inside.completions.table numbers).0

pub take_undelivered-requires-clause-table : goal.take_undelivered-requires-clause-table
take_undelivered-requires-clause-table g c =
    let numbers = ap (λ (p : KernelWords). p.pairing) c.self.view_is ∙ c.requires ∙ sym (ap (λ (p : AppWords). p.pairing) c.app.view_is) in
    sym (same_tables c.self.inside.calls.table c.self.inside.completions.table c.app.inside.calls.table c.app.inside.completions.table numbers).1
