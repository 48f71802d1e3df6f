use Rattle.std.proofs.Common.{◌≡◌, rules, w32, arith, ◌&&◌, true, false, not, sym, ◌∙◌, ap, subst}
use Rattle.uring_linux.proofs.Common.{HasEnded, HasFinished, IsOpen, LinuxDispatch, ShowsRequests, and-true, at, both_ways, dispatch_of, is_unended, not-true, one_if, to_z-of_z}
use Rattle.uring_linux.proofs.Tallies.{open_from, never_open, ended_counts, finished_counts, ended_dispatch}
use Rattle.uring_linux.proofs.WindowCounts.{at_roomed, unended_one, count_some, running_counts}
use Rattle.uring_linux.proofs.Standings.{shown, outside_ended, dispatch_ended}
use Rattle.uring_linux.proofs.dispatch.LinuxDispatch.end.Goals as goal

pub returns-in-Some-clause-shows : goal.returns-in-Some-clause-shows
returns-in-Some-clause-shows c = λ l bytes g going.
    let succeeded = rw (to_z-of_z w32 c.args.res (search rules)) at c.succeeded-has_failed.ensures in
    dispatch_ended c.self.inside.window c.finish.new.self c.self.inside.drains c.go_on.new.self c.self.inside.has_skipped c.self.inside.room _ c.self.inside.is_between_calls _ l c.args.n c.in-Some.request c.args.res bytes (not c.succeeded-has_failed.result)
    (subst (λ (d : LinuxDispatch). ShowsRequests d l) (sym c.self.view_is) g) (sym c.in-Some.ensures) going (ap not succeeded) c.finish.ensures.shows c.go_on.ensures.drains

pub returns-in_default-clause-shows : goal.returns-in_default-clause-shows
returns-in_default-clause-shows c = λ l bytes g going.
    let h = shown c.self.inside.window c.self.inside.drains c.self.inside.has_skipped c.self.inside.room c.self.inside.is_between_calls l (subst (λ (d : LinuxDispatch). ShowsRequests d l) (sym c.self.view_is) g) in
    absurd (both_ways _ (outside_ended _ l.requests c.args.n h (sym c.in_default.is ∙ c.copy.ensures)) going)

pub returns-in-Some-clause-waited : goal.returns-in-Some-clause-waited
returns-in-Some-clause-waited c = λ opened.
    let here = sym c.in-Some.ensures in
    let is = open_from c.self.inside.window c.args.n c.in-Some.request false (subst (λ (d : LinuxDispatch). IsOpen d.held.window c.args.n false) (sym c.self.view_is) opened) here in
    subst (λ (d : LinuxDispatch). HasEnded d (dispatch_of c.finish.new.self c.go_on.new.self c.self.inside.has_skipped c.self.inside.room c.self.inside.is_between_calls)) c.self.view_is
    (ended_counts c.self.inside.window c.finish.new.self c.self.inside.drains c.go_on.new.self c.self.inside.has_skipped c.self.inside.room c.self.inside.is_between_calls c.in-Some.request is.1 (c.finish.ensures.counts is.0))

pub returns-in-Some-clause-ran : goal.returns-in-Some-clause-ran
returns-in-Some-clause-ran c = λ opened.
    let here = sym c.in-Some.ensures in
    let is = open_from c.self.inside.window c.args.n c.in-Some.request true (subst (λ (d : LinuxDispatch). IsOpen d.held.window c.args.n true) (sym c.self.view_is) opened) here in
    subst (λ (d : LinuxDispatch). HasFinished d (dispatch_of c.finish.new.self c.go_on.new.self c.self.inside.has_skipped c.self.inside.room c.self.inside.is_between_calls)) c.self.view_is
    (finished_counts c.self.inside.window c.finish.new.self c.self.inside.drains c.go_on.new.self c.self.inside.has_skipped c.self.inside.room c.self.inside.is_between_calls c.in-Some.request is.1 (c.finish.ensures.counts is.0))

pub returns-in_default-clause-waited : goal.returns-in_default-clause-waited
returns-in_default-clause-waited c = λ opened.
    let open_ = subst (λ (d : LinuxDispatch). is_unended (at d.held.window c.args.n) ≡ true) (sym c.self.view_is) c.requires in
    absurd (never_open c.self.inside.window c.args.n open_ (sym c.in_default.is ∙ c.copy.ensures))

pub returns-in_default-clause-ran : goal.returns-in_default-clause-ran
returns-in_default-clause-ran c = λ opened.
    let open_ = subst (λ (d : LinuxDispatch). is_unended (at d.held.window c.args.n) ≡ true) (sym c.self.view_is) c.requires in
    absurd (never_open c.self.inside.window c.args.n open_ (sym c.in_default.is ∙ c.copy.ensures))

pub overflow_sub-self : goal.overflow_sub-self
overflow_sub-self c =
    let here = sym c.in-Some.ensures in
    let open_ = subst (λ (d : LinuxDispatch). is_unended (at d.held.window c.args.n) ≡ true) (sym c.self.view_is) c.requires in
    let some = unended_one c.self.inside.window c.args.n c.in-Some.request here (ap is_unended (sym (at_roomed c.self.inside.window 0 c.args.n ∙ here)) ∙ open_) in
    omega (arith, c.self.invariant.outstanding)

pub less_if-self-inside-requires : goal.less_if-self-inside-requires
less_if-self-inside-requires c =
    let here = sym c.in-Some.ensures in
    let open_ = subst (λ (d : LinuxDispatch). is_unended (at d.held.window c.args.n) ≡ true) (sym c.self.view_is) c.requires in
    let unended = not-true _ (ap is_unended (sym (at_roomed c.self.inside.window 0 c.args.n ∙ here)) ∙ open_) in
    let one = count_some running_counts c.self.inside.window c.args.n c.in-Some.request here in
    let same = ap (λ b. one_if (c.in-Some.request.is_running && not b)) unended ∙ ap one_if (and-true c.in-Some.request.is_running) in
    omega (arith, c.self.invariant.running)

pub invariant_of-self : goal.invariant_of-self
invariant_of-self c =
    let here = sym c.in-Some.ensures in
    let open_ = subst (λ (d : LinuxDispatch). is_unended (at d.held.window c.args.n) ≡ true) (sym c.self.view_is) c.requires in
    let unended = not-true _ (ap is_unended (sym (at_roomed c.self.inside.window 0 c.args.n ∙ here)) ∙ open_) in
    let some = unended_one c.self.inside.window c.args.n c.in-Some.request here (ap not unended) in
    let was = c.self.invariant.outstanding in
    ended_dispatch c.self.inside.window c.finish.new.self c.self.inside.drains c.go_on.new.self c.self.inside.outstanding _ c.self.inside.running _ c.self.inside.room c.self.inside.is_between_calls c.in-Some.request
    c.self.invariant (c.finish.ensures.counts unended) c.go_on.ensures.room c.go_on.ensures.from c.go_on.ensures.few (omega arith) c.less_if-self-inside.ensures
