use Rattle.std.proofs.Common.{length, ◌∙◌, ap, subst, ◌++◌, ◌∷◌, [], ◌≡◌}
use Rattle.uring_linux.proofs.Common.{Faulty, Group, running_among, unended_among, with_accepted, with_member}
use Rattle.uring_linux.proofs.GroupsShown.{Regroups, pushed_shows}
use Rattle.uring_linux.proofs.WindowCounts.{count_pushed, unended_counts, running_counts}
use Rattle.uring_linux.proofs.WindowLemmas.{agrees}
use Rattle.uring_linux.proofs.window.Window.push.Goals as goal

pub returns-clause-shows : goal.returns-clause-shows
returns-clause-shows c = λ r e h tells.
    let k = c.keep_group.ensures in
    let is : c.with_member-group.result ≡ with_member c.open_group.result (length r.accepted) c.passes.result =
    c.with_member-group.ensures ∙ ap (λ n. with_member c.open_group.result n c.passes.result) (c.end-n.ensures.value ∙ h.count)
    in
    pushed_shows _ c.append.new.self c.keep_group.new.self c.args.request r e c.open_group.result c.passes.result h (c.open_group.ensures r h)
    (c.passes.ensures ∙ agrees Faulty c.args.request (with_accepted r e) (length r.accepted) tells) tells c.append.ensures.first
    (c.append.ensures.items ∙ ap (λ (g : Group). c.args.self.now.items ++ record c.args.request { group = g } ∷ []) is)
    (subst (Regroups c.append.new.self c.keep_group.new.self) is (record { here = k.here; others = k.others; first = k.first; end = k.end }))

pub returns-clause-outstanding : goal.returns-clause-outstanding
returns-clause-outstanding c = c.keep_group.ensures.outstanding ∙ ap unended_among c.append.ensures.items ∙ count_pushed unended_counts _ _

pub returns-clause-running : goal.returns-clause-running
returns-clause-running c = c.keep_group.ensures.running ∙ ap running_among c.append.ensures.items ∙ count_pushed running_counts _ _
