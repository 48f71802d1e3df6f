use Rattle.std.proofs.Common.{subst, sym}
use Rattle.uring_ffi_values.proofs.Common.{Core, IsSomeAnd, SubmittedApart, core_in}
use Rattle.uring_ffi_values.proofs.cores.core_place.CorePlace.submit_in.Goals as goal

pub returns-clause-made : goal.returns-clause-made
returns-clause-made g c =
    let R : Core → Core → Type 0 = SubmittedApart c.args.entries.now c.submit_in-made.result in
    subst (λ o. IsSomeAnd o (λ old. IsSomeAnd (core_in c.put.new.self) (R old))) (sym c.take_full-core.ensures.taken)
    (subst (λ old. IsSomeAnd (core_in c.put.new.self) (R old)) c.deref_mut.ensures.value
    (subst (λ o. IsSomeAnd o (R c.deref_mut.result.now)) (sym c.put.ensures) (record {
      setup = c.submit_in-made.ensures.setup;
      fits = c.submit_in-made.ensures.fits;
      refused = c.submit_in-made.ensures.refused;
      not_made = c.submit_in-made.ensures.not_made;
      again = c.submit_in-made.ensures.again;
      memory = c.submit_in-made.ensures.memory;
    })))
