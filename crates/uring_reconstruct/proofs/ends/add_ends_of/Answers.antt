use Rattle.std.proofs.Common.{sym, ◌∙◌}
use Rattle.uring_reconstruct.proofs.Common.{IfOk-weaker, world}
use Rattle.uring_reconstruct.proofs.Adding.{entry_told, idle_ends, no_ends, running_ends}
use Rattle.uring_reconstruct.proofs.ends.add_ends_of.Goals as goal

pub returns-in_default-clause-all : goal.returns-in_default-clause-all
returns-in_default-clause-all g c = λ seen h at.
    no_ends c.args.core.now.setup seen h c.args.number c.args.next.now.items at.fits.lawful (sym c.in_default.is ∙ c.entry.ensures h at.fits)

pub returns-then-runs-clause-all : goal.returns-then-runs-clause-all
returns-then-runs-clause-all g c =
    IfOk-weaker c.add_finishes.result _ _
    (λ done there. λ seen h at. running_ends c.args.core.now seen c.args.wanted.now h c.args.number c.in-Some.entry c.add_finishes.new.next.items at (sym (c.runs.ensures h at.fits) ∙ c.if-runs.true) (entry_told (world c.args.core.now.setup h).requests c.args.number c.in-Some.entry (c.in-Some.ensures h at.fits)) there)
    c.add_finishes.ensures.all

pub returns-else-runs-clause-all : goal.returns-else-runs-clause-all
returns-else-runs-clause-all g c =
    IfOk-weaker c.add_issues.result _ _
    (λ done there. λ seen h at. idle_ends c.args.core.now seen c.args.wanted.now h c.args.number c.add_issues.new.next.items at (sym (c.runs.ensures h at.fits) ∙ c.if-runs.false) (λ res bytes p. there seen h res bytes at p))
    c.add_issues.ensures.all
