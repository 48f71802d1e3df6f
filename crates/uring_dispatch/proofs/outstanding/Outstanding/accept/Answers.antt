use Rattle.std.proofs.Common.{arith, sym, ◌∙◌}
use Rattle.std.proofs.lemmas.Option.{same_Some}
use Rattle.uring_dispatch.proofs.AcceptsListed.{accept_listed, low_member, starts_least}
use Rattle.uring_dispatch.proofs.ByData.{found_on, goes_accepted}
use Rattle.uring_dispatch.proofs.outstanding.Outstanding.accept.Goals as goal

pub accept-requires-clause-low : goal.accept-requires-clause-low
accept-requires-clause-low c = λ p is.
    let a = c.accept-group.ensures.accepts in
    let l = c.args.self.now.told in
    rw (same_Some p _ (sym is ∙ a.exchange.here))
    (low_member _ _ _ _ _ (omega (arith, l.heads.start, l.doomed.start, c.end-number.ensures.value))
    (λ q last. starts_least c.args.self.now.grouped.window c.args.self.now.grouped.groups c.args.self.now.waiting c.accept-group.result q c.args.self.now.grouped.fits l (a.joins ∙ last)))

pub invariant_of-self : goal.invariant_of-self
invariant_of-self c =
    let e = c.accept.ensures in
    record {
      told = accept_listed _ _ _ _ c.args.entry _ c.args.self.now.waiting c.accept.new.self c.end-number.result c.args.self.now.grouped.fits c.args.self.now.told c.accept-group.ensures.accepts c.end-number.ensures.value e.own e.members e.told e.heads_reach e.doomed_reach;
      found = let end = c.accept-group.ensures.accepts.end in found_on _ _ _ c.args.self.now.found (goes_accepted _ _ _ _ _ _ c.accept-group.ensures.accepts) (omega (arith, end, c.requires.places));
    }
