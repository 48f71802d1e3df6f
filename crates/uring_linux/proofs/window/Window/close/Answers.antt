use Rattle.std.proofs.Common.{arith, refl, sym, ◌∙◌, ap, subst}
use Rattle.uring_linux.proofs.Common.{Shows, Window, running_among, unended_among, with_cut}
use Rattle.uring_linux.proofs.WindowLemmas.{not_none}
use Rattle.uring_linux.proofs.WindowCounts.{count_same, unended_counts, running_counts}
use Rattle.uring_linux.proofs.GroupsShown.{cut_shows, cut_shows_none}
use Rattle.uring_linux.proofs.window.Window.close.Goals as goal

pub returns-then-end-self-clause-shows : goal.returns-then-end-self-clause-shows
returns-then-end-self-clause-shows c = λ r h.
    let first = ap (λ (s : Window). s.first) c.self.view_is in
    cut_shows_none _ r h (omega arith)

pub returns-in_default-clause-shows : goal.returns-in_default-clause-shows
returns-in_default-clause-shows c = λ r h.
    let first = ap (λ (s : Window). s.first) c.self.view_is in
    absurd (not_none _ _ (record { low = omega arith; high = omega arith }) (sym c.in_default.is ∙ c.copy.ensures))

pub returns-clause-shows : goal.returns-clause-shows
returns-clause-shows c = λ r h.
    let first = ap (λ (s : Window). s.first) c.self.view_is in
    subst (λ (s : Window). Shows s (with_cut r)) (sym c.write.ensures.written)
    (cut_shows _ c.in-Some.request r _ h (sym c.in-Some.ensures) (omega arith))

pub returns-clause-outstanding : goal.returns-clause-outstanding
returns-clause-outstanding c =
    ap (λ (s : Window). unended_among s.items) c.write.ensures.written ∙ count_same unended_counts _ _ c.in-Some.request _ (sym c.in-Some.ensures) refl

pub returns-clause-running : goal.returns-clause-running
returns-clause-running c =
    ap (λ (s : Window). running_among s.items) c.write.ensures.written ∙ count_same running_counts _ _ c.in-Some.request _ (sym c.in-Some.ensures) refl
