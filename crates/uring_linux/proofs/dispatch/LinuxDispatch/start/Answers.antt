use Rattle.std.proofs.Common.{arith, sym, ◌∙◌, subst, false}
use Rattle.uring_linux.proofs.Common.{HasStarted, IsOpen, LinuxDispatch, ShowsRequests, both_ways, dispatch_of}
use Rattle.uring_linux.proofs.Tallies.{open_from, never_open, started_counts, started_dispatch}
use Rattle.uring_linux.proofs.WindowCounts.{count_within, running_counts}
use Rattle.uring_linux.proofs.WindowEvents.{at_within}
use Rattle.uring_linux.proofs.Standings.{shown, outside_ended, dispatch_started}
use Rattle.uring_linux.proofs.dispatch.LinuxDispatch.start.Goals as goal

pub write-requires : goal.write-requires
write-requires c = at_within _ c.args.n c.in-Some.request (sym c.in-Some.ensures)

pub returns-in-Some-clause-shows : goal.returns-in-Some-clause-shows
returns-in-Some-clause-shows c = λ l g going.
    dispatch_started c.self.inside.window c.write.new.self c.self.inside.drains c.self.inside.has_skipped c.self.inside.room _ c.self.inside.is_between_calls _ l c.args.n c.in-Some.request
    (subst (λ (d : LinuxDispatch). ShowsRequests d l) (sym c.self.view_is) g) (sym c.in-Some.ensures) going c.write.ensures.written

pub returns-in_default-clause-shows : goal.returns-in_default-clause-shows
returns-in_default-clause-shows c = λ l g going.
    let h = shown c.self.inside.window c.self.inside.drains c.self.inside.has_skipped c.self.inside.room c.self.inside.is_between_calls l (subst (λ (d : LinuxDispatch). ShowsRequests d l) (sym c.self.view_is) g) in
    absurd (both_ways _ (outside_ended _ l.requests c.args.n h (sym c.in_default.is ∙ c.copy.ensures)) going)

pub returns-in-Some-clause-counts : goal.returns-in-Some-clause-counts
returns-in-Some-clause-counts c =
    let here = sym c.in-Some.ensures in
    let is = open_from c.self.inside.window c.args.n c.in-Some.request false (subst (λ (d : LinuxDispatch). IsOpen d.held.window c.args.n false) (sym c.self.view_is) c.requires) here in
    subst (λ (d : LinuxDispatch). HasStarted d (dispatch_of c.write.new.self c.self.inside.drains c.self.inside.has_skipped c.self.inside.room c.self.inside.is_between_calls)) c.self.view_is
    (started_counts c.self.inside.window c.write.new.self c.self.inside.drains c.self.inside.has_skipped c.self.inside.room c.self.inside.is_between_calls c.args.n c.in-Some.request here is.0 is.1 c.write.ensures.written)

pub invariant_of-self : goal.invariant_of-self
invariant_of-self c =
    let here = sym c.in-Some.ensures in
    let is = open_from c.self.inside.window c.args.n c.in-Some.request false (subst (λ (d : LinuxDispatch). IsOpen d.held.window c.args.n false) (sym c.self.view_is) c.requires) here in
    started_dispatch c.self.inside.window c.write.new.self c.self.inside.drains c.self.inside.outstanding c.self.inside.running c.self.inside.room c.self.inside.is_between_calls c.args.n c.in-Some.request c.self.invariant here is.0 is.1 c.write.ensures.written

pub returns-in_default-clause-counts : goal.returns-in_default-clause-counts
returns-in_default-clause-counts c =
    let is = subst (λ (d : LinuxDispatch). IsOpen d.held.window c.args.n false) (sym c.self.view_is) c.requires in
    absurd (never_open c.self.inside.window c.args.n is.unended (sym c.in_default.is ∙ c.copy.ensures))

pub overflow_add-self : goal.overflow_add-self
overflow_add-self c =
    let here = sym c.in-Some.ensures in
    let is = open_from c.self.inside.window c.args.n c.in-Some.request false (subst (λ (d : LinuxDispatch). IsOpen d.held.window c.args.n false) (sym c.self.view_is) c.requires) here in
    let counted = (started_counts c.self.inside.window c.write.new.self c.self.inside.drains c.self.inside.has_skipped c.self.inside.room c.self.inside.is_between_calls c.args.n c.in-Some.request here is.0 is.1 c.write.ensures.written).running in
    let few = count_within running_counts c.write.new.self.items in
    omega (arith, c.self.invariant.running, c.write.ensures.limit)
