use Rattle.std.proofs.Common.{◌≡◌, ◌≤◌, ◌∙◌, sym, Some, arith, ℕ}
use Rattle.uring_dispatch.proofs.Common.{AreHeld, Group, Groups, IsFirstDraining, Requests, Window, drain_of, first_member_inside, group_at}
use Rattle.uring_dispatch.proofs.WhyHeld.{first_of_all, first_draining_is, first_own}
use Rattle.uring_dispatch.proofs.HeldLemmas.{in_group}
use Rattle.uring_dispatch.proofs.grouped.Grouped.first_holder.Goals as goal

-- no group drains from a number before this one on, if the first that drains doesn't begin before it
first_after : (w : Window) (g : Groups) (r : Requests) (b : Group) (from : ℕ) → AreHeld w g r
    → IsFirstDraining g b → from ≤ b.from → (key number : ℕ)
    → drain_of (group_at g key) ≡ Some number → from ≤ number
first_after w g r b from h f le key number d =
    let shown = h.groups f.key b f.here in
    let member = first_member_inside _ b.from b.end f.number (sym shown.drain ∙ f.drains) in
    let least = f.first key number d in
    omega (arith, member.0)

pub returns-in-Some-clause-holds : goal.returns-in-Some-clause-holds
returns-in-Some-clause-holds c = λ r h.
    first_of_all (in_group c.args.self.now.fits h c.requires c.group_of-group.ensures.group) (sym c.is_some.ensures ∙ c.if-is_some.true) c.in-Some.ensures

pub returns-in-Some-first_draining-clause-holds : goal.returns-in-Some-first_draining-clause-holds
returns-in-Some-first_draining-clause-holds c = λ r h.
    let i = in_group c.args.self.now.fits h c.requires c.group_of-group.ensures.group in
    first_draining_is i (sym c.is_some.ensures ∙ c.if-is_some.false) c.in-Some-first_draining.ensures c.if-first-group.true

pub returns-in-Some-2-clause-holds : goal.returns-in-Some-2-clause-holds
returns-in-Some-2-clause-holds c = λ r h.
    let i = in_group c.args.self.now.fits h c.requires c.group_of-group.ensures.group in
    first_own i (sym c.is_some.ensures ∙ c.if-is_some.false)
    (first_after _ _ r c.in-Some-first_draining.first.now c.group_of-group.result.from h c.in-Some-first_draining.ensures c.if-first-group.false)

pub returns-in-None-first_draining-clause-holds : goal.returns-in-None-first_draining-clause-holds
returns-in-None-first_draining-clause-holds c = λ r h.
    let i = in_group c.args.self.now.fits h c.requires c.group_of-group.ensures.group in
    first_own i (sym c.is_some.ensures ∙ c.if-is_some.false) (λ key number d. absurd (c.in-None-first_draining.ensures key number d))
