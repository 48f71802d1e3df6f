use Rattle.std.proofs.Common.{sym, ◌∙◌, ap}
use Rattle.uring_dispatch.proofs.Common.{fault_of, is_before, le-ltb}
use Rattle.uring_dispatch.proofs.WhyHeld.{doom_own, doom_member, doom_failed, doom_else}
use Rattle.uring_dispatch.proofs.HeldLemmas.{in_group}
use Rattle.uring_dispatch.proofs.grouped.Grouped.doom.Goals as goal

pub returns-in-Err : goal.returns-in-Err
returns-in-Err c = λ r h.
    sym (doom_own r c.args.n c.in-Err.fault (ap fault_of (sym (h.shown c.args.n c.args.request.now c.requires).entry) ∙ c.in-Err.ensures.faulty))

pub returns-in-Some : goal.returns-in-Some
returns-in-Some c = λ r h.
    let i = in_group c.args.self.now.fits h c.requires c.group_of-group.ensures.group in
    sym (doom_member i c.in_default.ensures.right.0 c.in-Some.is)

pub returns-in-Some-broken : goal.returns-in-Some-broken
returns-in-Some-broken c = λ r h.
    let i = in_group c.args.self.now.fits h c.requires c.group_of-group.ensures.group in
    sym (doom_failed i c.in_default.ensures.right.0 c.in_default-fault.is c.in-Some-broken.is c.if-m-n.true)

pub returns-in_default-broken : goal.returns-in_default-broken
returns-in_default-broken c = λ r h.
    let i = in_group c.args.self.now.fits h c.requires c.group_of-group.ensures.group in
    let past = ap (λ o. is_before o c.args.n) c.in-Some-broken.is ∙ le-ltb c.in-Some-broken.m c.args.n c.if-m-n.false in
    sym (doom_else i c.in_default.ensures.right.0 c.in_default-fault.is past)

pub returns-in_default-broken-2 : goal.returns-in_default-broken-2
returns-in_default-broken-2 c = λ r h.
    let i = in_group c.args.self.now.fits h c.requires c.group_of-group.ensures.group in
    sym (doom_else i c.in_default.ensures.right.0 c.in_default-fault.is (ap (λ o. is_before o c.args.n) c.in_default-broken.is))
