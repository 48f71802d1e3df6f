use Rattle.std.proofs.Common.{length, take, subst, sym}
use Rattle.uring_ffi_values.proofs.Common.{Core, IsSomeAnd, ReapedApart, core_in}
use Rattle.uring_ffi_values.proofs.cores.core_place.CorePlace.reap_all.Goals as goal

pub returns-clause-made : goal.returns-clause-made
returns-clause-made c =
    let count = c.reap_all-count.result in
    let R : Core → Core → Type 0 = ReapedApart (length c.args.into.now) count (take count c.reap_all-count.new.into) in
    subst (λ o. IsSomeAnd o (λ old. IsSomeAnd (core_in c.put.new.self) (R old))) (sym c.take_full-core.ensures.taken)
    (subst (λ old. IsSomeAnd (core_in c.put.new.self) (R old)) c.deref_mut.ensures.value
    (subst (λ o. IsSomeAnd o (R c.deref_mut.result.now)) (sym c.put.ensures) (record {
      setup = c.reap_all-count.ensures.setup;
      fits = c.reap_all-count.ensures.fits;
      within = c.reap_all-count.ensures.within;
      all = c.reap_all-count.ensures.all;
      memory = c.reap_all-count.ensures.memory;
    })))
