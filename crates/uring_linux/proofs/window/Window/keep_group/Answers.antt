use Rattle.std.proofs.Common.{◌≡◌, Some, refl, sym, ◌∙◌, ap}
use Rattle.uring_linux.proofs.Common.{Request, Window, at, running_among, unended_among}
use Rattle.uring_linux.proofs.WindowCounts.{count_same, unended_counts, running_counts}
use Rattle.uring_linux.proofs.WindowEvents.{at_within, at_set_here, at_set_other}
use Rattle.uring_linux.proofs.window.Window.keep_group.Goals as goal

pub write-requires : goal.write-requires
write-requires c = at_within _ _ c.in-Some.first (sym c.in-Some.ensures)

pub returns-in-Some-clause-here : goal.returns-in-Some-clause-here
returns-in-Some-clause-here c = λ q e.
    let here = sym c.in-Some.ensures in
    let same : c.in-Some.first ≡ q = let f : Some c.in-Some.first ≡ Some q = c.in-Some.ensures ∙ e in cc in
    ap (λ (s : Window). at s c.args.group.from) c.write.ensures.written
    ∙ at_set_here _ (record c.in-Some.first { group = c.args.group }) c.args.group.from (at_within _ _ c.in-Some.first here)
    ∙ ap (λ (x : Request). Some (record x { group = c.args.group })) same

pub returns-in-Some-clause-others : goal.returns-in-Some-clause-others
returns-in-Some-clause-others c = λ k ne.
    let w = at_within _ _ c.in-Some.first (sym c.in-Some.ensures) in
    ap (λ (s : Window). at s k) c.write.ensures.written ∙ at_set_other _ (record c.in-Some.first { group = c.args.group }) c.args.group.from k w.low ne

pub returns-in-Some-clause-outstanding : goal.returns-in-Some-clause-outstanding
returns-in-Some-clause-outstanding c =
    ap (λ (s : Window). unended_among s.items) c.write.ensures.written ∙ count_same unended_counts _ _ c.in-Some.first _ (sym c.in-Some.ensures) refl

pub returns-in-Some-clause-running : goal.returns-in-Some-clause-running
returns-in-Some-clause-running c =
    ap (λ (s : Window). running_among s.items) c.write.ensures.written ∙ count_same running_counts _ _ c.in-Some.first _ (sym c.in-Some.ensures) refl
