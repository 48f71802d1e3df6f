use Rattle.std.proofs.Common.{arith, refl}
use Rattle.uring_dispatch.proofs.Common.{at, chosen, is_some_value}
use Rattle.uring_dispatch.proofs.Changes.{write_sound, choose_held}
use Rattle.uring_dispatch.proofs.WaitingLemmas.{tell_outstanding, restarted_listed}
use Rattle.uring_dispatch.proofs.ByData.{found_on, goes_changed}
use Rattle.uring_dispatch.proofs.outstanding.Outstanding.choose.Goals as goal

pub invariant_of-self : goal.invariant_of-self
invariant_of-self c =
    let q = is_some_value (at c.args.self.now.grouped.window c.args.m) c.requires in
    (write_sound c.args.self.now.grouped.fits q.1 (c.choose.ensures.changes q.0 q.1) refl c.choose.ensures.same.end, tt)

pub relist-requires : goal.relist-requires
relist-requires c = tell_outstanding _ _ _ c.args.m c.args.self.now.told c.requires

pub invariant_of-self-2 : goal.invariant_of-self-2
invariant_of-self-2 c =
    let found = is_some_value (at c.args.self.now.grouped.window c.args.m) c.requires in
    record {
      told = restarted_listed _ _ _ _ _ _ c.args.m (chosen found.0) c.args.self.now.told c.requires (c.choose.ensures.changes found.0 found.1) c.choose.ensures.same.end refl c.relist.ensures.keeps c.relist.ensures.here;
      found = let end = c.choose.ensures.same.end in found_on _ _ _ c.args.self.now.found (goes_changed found.1 (c.choose.ensures.changes found.0 found.1) end refl) (omega (arith, end, c.args.self.now.found.places));
    }

pub returns-clause-shows : goal.returns-clause-shows
returns-clause-shows c = λ r h.
    let q = is_some_value (at c.args.self.now.grouped.window c.args.m) c.requires in
    choose_held h q.1 (c.choose.ensures.changes q.0 q.1) c.choose.ensures.same c.choose.ensures.running
