use Rattle.std.proofs.Common.{ℕ, [], ◌∷◌, ◌++◌, sym, subst}
use Rattle.uring_pictures.proofs.watching.watch_byte.Goals as goal

pub returns-in_default-end_line-clause-followed : goal.returns-in_default-end_line-clause-followed
returns-in_default-end_line-clause-followed g c = λ first before f.
    subst (λ (b : ℕ). g.W.Watcher.follows first c.end_line.new.self (before ++ b ∷ [])) (sym c.if-byte-eq10.true) (c.in_default-end_line.ensures.taken first before (c.in_default.ensures.mark c.if-byte-eq10.true first before f))
