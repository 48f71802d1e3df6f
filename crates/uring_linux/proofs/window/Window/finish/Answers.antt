use Rattle.std.proofs.Common.{◌+◌, ◌∙◌, ap, subst, arith, length-set}
use Rattle.uring_linux.proofs.Common.{Request, Window, end_of}
use Rattle.uring_linux.proofs.GroupsShown.{Regroups, finished_shows}
use Rattle.uring_linux.proofs.Tallies.{lessens}
use Rattle.uring_linux.proofs.WindowEvents.{at_within}
use Rattle.uring_linux.proofs.window.Window.finish.Goals as goal

pub write-requires : goal.write-requires
write-requires c = at_within _ c.args.n c.args.request c.requires

pub with_end-requires : goal.with_end-requires
with_end-requires c =
    let w = at_within _ c.args.n c.args.request c.requires in
    let long = ap (λ (s : Window). end_of s) c.write.ensures.written in
    omega (arith, w.high, length-set {A = Request}, c.write.ensures.limit)

pub returns-clause-shows : goal.returns-clause-shows
returns-clause-shows c = λ r res bytes h going is.
    let k = c.keep_group.ensures in
    finished_shows _ c.write.new.self c.keep_group.new.self c.args.request r c.args.n res bytes c.args.has_failed _ c.group_of-group.result h c.requires going is
    c.breaks.ensures
    (c.group_of-group.ensures.member r c.args.n h c.requires) (c.group_of-group.ensures.from r c.args.n h c.requires) (c.group_of-group.ensures.kept r c.args.n h c.requires)
    c.write.ensures.written
    (subst (Regroups c.write.new.self c.keep_group.new.self) c.with_end.ensures (record { here = k.here; others = k.others; first = k.first; end = k.end }))

pub returns-clause-counts : goal.returns-clause-counts
returns-clause-counts c = λ going.
    let k = c.keep_group.ensures in
    let l = lessens _ c.write.new.self c.args.n c.args.request c.args.has_failed c.requires going c.write.ensures.written in
    record {
      end = k.end ∙ l.end;
      first = k.first ∙ l.first;
      room = k.room ∙ l.room;
      outstanding = ap (λ x. x + 1) k.outstanding ∙ l.outstanding;
      running = let a = k.running in let b = l.running in omega arith;
    }
