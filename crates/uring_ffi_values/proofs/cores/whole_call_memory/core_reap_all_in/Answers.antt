use Rattle.std.proofs.Common.{◌≡◌, ◌≤◌, ℕ, List, length, take, refl, sym, subst, ap, ◌∙◌}
use Rattle.uring_ffi_values.proofs.Common.{Core, Cqe, IsSomeAnd, Option, ReapedApart, core_in, length-replicate, take_at}
use Rattle.uring_ffi_values.proofs.Exits.{apart, some_not_none}
use Rattle.uring_ffi_values.proofs.cores.whole_call_memory.core_reap_all_in.Goals as goal

-- the same, by other words
reaped_as : (place after : Option Core) (room count many : ℕ) (told given : List Cqe) → room ≡ many → told ≡ given
    → IsSomeAnd place (λ core. IsSomeAnd after (ReapedApart room count told core)) → IsSomeAnd place (λ core. IsSomeAnd after (ReapedApart many count given core))
reaped_as place after room count many told given same is made =
    subst (λ (cs : List Cqe). IsSomeAnd place (λ core. IsSomeAnd after (ReapedApart many count cs core))) is
    (subst (λ (n : ℕ). IsSomeAnd place (λ core. IsSomeAnd after (ReapedApart n count told core))) same made)

pub give_completions-requires-2-clause-room : goal.give_completions-requires-2-clause-room
give_completions-requires-2-clause-room g c =
    subst (λ (n : ℕ). c.reap_all-reaped-2.result ≤ n) (ap (λ (cs : List Cqe). length cs) (c.deref_mut.ensures.value ∙ c.in-Ok.ensures.items) ∙ length-replicate _ _) c.reap_all-reaped-2.ensures.within

pub returns : goal.returns
returns g c =
    let count = c.reap_all-reaped-2.result in
    let many = ap (λ (cs : List Cqe). length cs) (c.deref_mut.ensures.value ∙ c.in-Ok.ensures.items) ∙ length-replicate _ _ in
    let all = c.deref.ensures.value ∙ take_at _ _ _ (c.reap_all-reaped-2.ensures.length ∙ c.deref_mut.ensures.len) in
    record {
      empty = (apart _ _ refl, some_not_none _ _ c.reap_all-reaped-2.ensures.made);
      results = λ done. absurd (done refl);
      single = λ _. apart _ _ refl;
      kept = λ done. absurd (done refl);
      granted = λ n has few. apart _ _ refl;
      made = λ _. record { given = take count c.deref.result.now; told = c.give_completions-2.ensures.given; rest = c.give_completions-2.ensures.rest; made = reaped_as (core_in c.args.place.now) (core_in c.reap_all-reaped-2.new.self) _ count _ _ _ many (ap (λ (cs : List Cqe). take count cs) (sym all)) c.reap_all-reaped-2.ensures.made };
    }
