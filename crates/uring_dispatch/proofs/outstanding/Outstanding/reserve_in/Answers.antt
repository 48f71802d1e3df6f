use Rattle.std.proofs.Common.{arith}
use Rattle.uring_dispatch.proofs.Common.{end_of}
use Rattle.uring_dispatch.proofs.Alike.{listed_alike, alike_records}
use Rattle.uring_dispatch.proofs.AcceptsListed.{same_listed}
use Rattle.uring_dispatch.proofs.ByData.{found_on, found_renewed, goes_alike}
use Rattle.uring_dispatch.proofs.outstanding.Outstanding.reserve_in.Goals as goal

pub invariant_of-self : goal.invariant_of-self
invariant_of-self g c =
    let alike = alike_records _ _ c.reserve_in.ensures.same in
    record {
      told = listed_alike _ _ _ _ _ alike c.args.self.now.told;
      found = found_on _ _ _ c.args.self.now.found (goes_alike _ _ _ _ alike) (omega (arith, alike.end, c.args.self.now.found.places));
    }

pub invariant_of-self-5 : goal.invariant_of-self-5
invariant_of-self-5 g c =
    let alike = alike_records _ _ c.reserve_in.ensures.same in
    let was = found_on _ _ _ c.args.self.now.found (goes_alike _ _ _ _ alike) (omega (arith, alike.end, c.args.self.now.found.places)) in
    record {
      told = same_listed _ _ _ _ (listed_alike _ _ _ _ _ alike c.args.self.now.told) c.reserve_in-2.ensures.same_heads c.reserve_in-2.ensures.same_doomed;
      found = found_renewed _ _ _ c.first-first.result was c.reserve_in-3.ensures.same c.first-first.ensures.within c.first-first.ensures.before
          (c.reserve_in-3.ensures.kept (end_of c.reserve_in.new.self.window) (omega (arith, c.end.ensures.value)) was.places);
    }

pub invariant_of-self-in-Err-reserve_in-2 : goal.invariant_of-self-in-Err-reserve_in-2
invariant_of-self-in-Err-reserve_in-2 g c =
    let alike = alike_records _ _ c.reserve_in.ensures.same in
    record {
      told = same_listed _ _ _ _ (listed_alike _ _ _ _ _ alike c.args.self.now.told) c.reserve_in-2.ensures.same_heads c.reserve_in-2.ensures.same_doomed;
      found = found_on _ _ _ c.args.self.now.found (goes_alike _ _ _ _ alike) (omega (arith, alike.end, c.args.self.now.found.places));
    }
