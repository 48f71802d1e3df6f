use Rattle.uring_linux.proofs.Common.{Drains, IsOpen, LinuxDispatch, ShowsRequests, ended_with, is_in_some, option_copied, to_z-of_z}
use Rattle.std.proofs.Common.{rules, w32, arith, sym, ◌∙◌, ap, subst, true, false, refl}
use Rattle.uring_linux.proofs.WindowCounts.{open_at}
use Rattle.uring_linux.proofs.WindowEvents.{at_within}
use Rattle.uring_linux.proofs.Standings.{shown, outside_ended, outstanding_ended, outstanding_going, asked, healthy}
use Rattle.uring_linux.proofs.dispatch.LinuxDispatch.answer.Goals as goal

pub returns-in_default-clause-issued : goal.returns-in_default-clause-issued
returns-in_default-clause-issued c = λ l g.
    let h = shown c.self.inside.window c.self.inside.drains c.self.inside.has_skipped c.self.inside.room c.self.inside.is_between_calls l (subst (λ (d : LinuxDispatch). ShowsRequests d l) (sym c.self.view_is) g) in
    sym (asked l c.args.n false _ _ _ _ (outside_ended _ l.requests c.args.n h (ap option_copied (sym c.in_default.is) ∙ c.get.ensures)) refl refl refl refl)

pub returns-then-request-clause-issued : goal.returns-then-request-clause-issued
returns-then-request-clause-issued c = λ l g.
    let h = shown c.self.inside.window c.self.inside.drains c.self.inside.has_skipped c.self.inside.room c.self.inside.is_between_calls l (subst (λ (d : LinuxDispatch). ShowsRequests d l) (sym c.self.view_is) g) in
    let t = h.told c.args.n c.in-Some.request.now (sym c.in-Some.ensures) in
    sym (asked l c.args.n false _ _ _ _ (outstanding_ended _ l.requests c.args.n t c.if-request.true) refl refl refl refl)

pub returns-then-request-2-clause-issued : goal.returns-then-request-2-clause-issued
returns-then-request-2-clause-issued c = λ l g.
    let h = shown c.self.inside.window c.self.inside.drains c.self.inside.has_skipped c.self.inside.room c.self.inside.is_between_calls l (subst (λ (d : LinuxDispatch). ShowsRequests d l) (sym c.self.view_is) g) in
    let here = sym c.in-Some.ensures in
    let t = h.told c.args.n c.in-Some.request.now here in
    sym (asked l c.args.n true true _ _ _ (outstanding_going _ _ l.requests c.args.n h here c.if-request.false) (sym t.running ∙ c.if-request-2.true) refl refl refl)

pub is_right_after-requires : goal.is_right_after-requires
is_right_after-requires c = at_within _ c.args.n c.in-Some.request.now (sym c.in-Some.ensures)

pub returns-then-is_right_after-clause-issued : goal.returns-then-is_right_after-clause-issued
returns-then-is_right_after-clause-issued c = λ l g.
    let h = shown c.self.inside.window c.self.inside.drains c.self.inside.has_skipped c.self.inside.room c.self.inside.is_between_calls l (subst (λ (d : LinuxDispatch). ShowsRequests d l) (sym c.self.view_is) g) in
    let here = sym c.in-Some.ensures in
    let t = h.told c.args.n c.in-Some.request.now here in
    sym
    (asked l c.args.n true false false _ _ (outstanding_going _ _ l.requests c.args.n h here c.if-request.false) (sym t.running ∙ c.if-request-2.false)
    (c.is_right_after.ensures l.requests h c.if-is_right_after.true) refl refl)

pub returns-then-not-is_in_turn-clause-issued : goal.returns-then-not-is_in_turn-clause-issued
returns-then-not-is_in_turn-clause-issued c = λ l g.
    let h = shown c.self.inside.window c.self.inside.drains c.self.inside.has_skipped c.self.inside.room c.self.inside.is_between_calls l (subst (λ (d : LinuxDispatch). ShowsRequests d l) (sym c.self.view_is) g) in
    let here = sym c.in-Some.ensures in
    let t = h.told c.args.n c.in-Some.request.now here in
    let m = c.group_of-group.ensures.member l.requests c.args.n h here in
    let kept = c.group_of-group.ensures.kept l.requests c.args.n h here in
    sym
    (asked l c.args.n true false false _ _ (outstanding_going _ _ l.requests c.args.n h here c.if-request.false) (sym t.running ∙ c.if-request-2.false)
    (sym (c.is_in_turn.ensures l.requests h m kept) ∙ c.if-not-is_in_turn.true) refl refl)

pub returns-then-is_doomed-clause-issued : goal.returns-then-is_doomed-clause-issued
returns-then-is_doomed-clause-issued c = λ l g.
    let h = shown c.self.inside.window c.self.inside.drains c.self.inside.has_skipped c.self.inside.room c.self.inside.is_between_calls l (subst (λ (d : LinuxDispatch). ShowsRequests d l) (sym c.self.view_is) g) in
    let here = sym c.in-Some.ensures in
    let t = h.told c.args.n c.in-Some.request.now here in
    let m = c.group_of-group.ensures.member l.requests c.args.n h here in
    let kept = c.group_of-group.ensures.kept l.requests c.args.n h here in
    let ended = rw (to_z-of_z w32 c.doomed_result.result (search rules)) at c.ended.ensures in
    ended l.requests h t m kept
    ∙ ap (ended_with l.requests c.args.n) (c.doomed_result.ensures l.requests c.args.n t)
    ∙ sym
    (asked l c.args.n true false true true _ (outstanding_going _ _ l.requests c.args.n h here c.if-request.false) (sym t.running ∙ c.if-request-2.false)
    (sym (c.is_in_turn.ensures l.requests h m kept) ∙ c.if-not-is_in_turn.false) (sym (c.is_doomed.ensures l.requests m) ∙ c.if-is_doomed.true) refl)

pub returns-then-is_deferred-clause-issued : goal.returns-then-is_deferred-clause-issued
returns-then-is_deferred-clause-issued c = λ l g.
    let f = subst (λ (d : LinuxDispatch). ShowsRequests d l) (sym c.self.view_is) g in
    let h = shown c.self.inside.window c.self.inside.drains c.self.inside.has_skipped c.self.inside.room c.self.inside.is_between_calls l f in
    let here = sym c.in-Some.ensures in
    let t = h.told c.args.n c.in-Some.request.now here in
    let m = c.group_of-group.ensures.member l.requests c.args.n h here in
    let kept = c.group_of-group.ensures.kept l.requests c.args.n h here in
    sym
    (asked l c.args.n true false true false true (outstanding_going _ _ l.requests c.args.n h here c.if-request.false) (sym t.running ∙ c.if-request-2.false)
    (sym (c.is_in_turn.ensures l.requests h m kept) ∙ c.if-not-is_in_turn.false) (sym (c.is_doomed.ensures l.requests m) ∙ c.if-is_doomed.false)
    (ap (λ (d : Drains). is_in_some d.deferred c.args.n) (sym f.held.drains) ∙ sym c.is_deferred.ensures ∙ c.if-is_deferred.true))

pub returns-clause-issued : goal.returns-clause-issued
returns-clause-issued c = λ l g.
    let f = subst (λ (d : LinuxDispatch). ShowsRequests d l) (sym c.self.view_is) g in
    let h = shown c.self.inside.window c.self.inside.drains c.self.inside.has_skipped c.self.inside.room c.self.inside.is_between_calls l f in
    let here = sym c.in-Some.ensures in
    let t = h.told c.args.n c.in-Some.request.now here in
    let m = c.group_of-group.ensures.member l.requests c.args.n h here in
    let kept = c.group_of-group.ensures.kept l.requests c.args.n h here in
    let idle = sym t.running ∙ c.if-request-2.false in
    let free = sym (c.is_doomed.ensures l.requests m) ∙ c.if-is_doomed.false in
    c.ready.ensures l.requests h t m kept (healthy l.requests c.args.n (omega (arith, m.high, m.told.group.accepted, h.count)) free)
    ∙ sym
    (asked l c.args.n true false true false false (outstanding_going _ _ l.requests c.args.n h here c.if-request.false) idle
    (sym (c.is_in_turn.ensures l.requests h m kept) ∙ c.if-not-is_in_turn.false) free
    (ap (λ (d : Drains). is_in_some d.deferred c.args.n) (sym f.held.drains) ∙ sym c.is_deferred.ensures ∙ c.if-is_deferred.false))

pub returns-then-is_doomed-clause-open : goal.returns-then-is_doomed-clause-open
returns-then-is_doomed-clause-open c = λ e.
    subst (λ (d : LinuxDispatch). IsOpen d.held.window c.args.n false) c.self.view_is
    (open_at c.self.inside.window c.args.n c.in-Some.request.now false (sym c.in-Some.ensures) c.if-request.false c.if-request-2.false)

pub returns-clause-open : goal.returns-clause-open
returns-clause-open c = λ e.
    subst (λ (d : LinuxDispatch). IsOpen d.held.window c.args.n false) c.self.view_is
    (open_at c.self.inside.window c.args.n c.in-Some.request.now false (sym c.in-Some.ensures) c.if-request.false c.if-request-2.false)
