use Rattle.std.proofs.Common.{◌+◌, refl, sym, ◌∙◌, ap, arith, Err, inl, inr}
use Rattle.uring_core.specs.declared.answer.Answer.TheVariants as answer
use Rattle.uring_core.proofs.Common.{requests_of, world}
use Rattle.uring_core.proofs.CoreSteps.{core_after}
use Rattle.uring_core.proofs.CoreCalls.{opens_within, opens_with, again_goes, call_goes, on_success, not_refused, on_failure}
use Rattle.uring_core.proofs.Elements.{few_wanted}
use Rattle.uring_core.proofs.cores.Core.begin.Goals as goal

pub unreachable-requires : goal.unreachable-requires
unreachable-requires g c =
    let told = rw (← c.self.view_is) at c.in-Call.ensures in
    let within = opens_within _ c.args.count c.in-Call.length (λ h f. sym (told h f)) c.self.invariant.1.1 c.self.invariant.1.2 in
    let above = c.reserve_in.ensures.spent.0 (c.in-Err-Spent.is ∙ ap Err c.in-Err-Spent.field-0-is) in
    let same = c.from-length.ensures in
    omega arith

pub returns-in-Err-NoMemory-clause-fits : goal.returns-in-Err-NoMemory-clause-fits
returns-in-Err-NoMemory-clause-fits g c =
    let told = rw (← c.self.view_is) at c.in-Call.ensures in
    rw (← c.self.view_is) (again_goes _ c.reserve_in.new.self _ c.args.count c.from-length.result
    (λ h f. sym (told h f) ∙ ap (λ k. answer.Call k) (sym c.from-length.ensures))
    c.reserve_in.ensures.counts c.reserve_in.ensures.between c.reserve_in.ensures.shows refl (inl (c.reserve_in.ensures.no_memory (c.in-Err-NoMemory.is ∙ ap Err c.in-Err-NoMemory.field-0-is))))

pub returns-in-Err-NoMemory-clause-granted : goal.returns-in-Err-NoMemory-clause-granted
returns-in-Err-NoMemory-clause-granted g c =
    let told = rw (← c.self.view_is) at c.in-Call.ensures in
    rw (← c.self.view_is)
    (λ h n f grants few again.
    let positions = opens_with _ c.args.count c.from-length.result (λ k fits. sym (told k fits) ∙ ap (λ j. answer.Call j) (sym c.from-length.ensures)) h f in
    c.reserve_in.ensures.granted (requests_of (world c.self.inside.setup h)) n f.shows.requests grants (omega arith) (c.in-Err-NoMemory.is ∙ ap Err c.in-Err-NoMemory.field-0-is))

pub invariant_of-self-2 : goal.invariant_of-self-2
invariant_of-self-2 g c =
    let told = rw (← c.self.view_is) at c.in-Call.ensures in (
      c.self.invariant.0,
      core_after _ _ _ refl (call_goes _ c.begin.new.self c.reserve_in-2.new.self c.reserve_in.new.self c.args.count c.from-length.result c.begin.result
          (λ h f. sym (told h f) ∙ ap (λ k. answer.Call k) (sym c.from-length.ensures))
          c.reserve_in.ensures.counts c.in-Ok.ensures.ok c.reserve_in.ensures.between c.reserve_in.ensures.shows c.reserve_in-2.ensures.shows
          (on_success c.reserve_in-2.result _ (sym c.is_err.ensures.value ∙ c.if-is_err.false) c.reserve_in-2.ensures.ok ∙ ap (λ n. n + c.from-length.result) c.outstanding.ensures.value) c.reserve_in-2.ensures.memory
          c.begin.ensures.answer c.begin.ensures.shows) c.self.invariant.1,
    )

pub returns-clause-fits : goal.returns-clause-fits
returns-clause-fits g c =
    let told = rw (← c.self.view_is) at c.in-Call.ensures in
    rw (c.from.ensures, ← c.self.view_is) (call_goes _ c.begin.new.self c.reserve_in-2.new.self c.reserve_in.new.self c.args.count c.from-length.result c.begin.result
    (λ h f. sym (told h f) ∙ ap (λ k. answer.Call k) (sym c.from-length.ensures))
    c.reserve_in.ensures.counts c.in-Ok.ensures.ok c.reserve_in.ensures.between c.reserve_in.ensures.shows c.reserve_in-2.ensures.shows
    (on_success c.reserve_in-2.result _ (sym c.is_err.ensures.value ∙ c.if-is_err.false) c.reserve_in-2.ensures.ok ∙ ap (λ n. n + c.from-length.result) c.outstanding.ensures.value) c.reserve_in-2.ensures.memory
    c.begin.ensures.answer c.begin.ensures.shows)

pub returns-then-is_err-clause-granted : goal.returns-then-is_err-clause-granted
returns-then-is_err-clause-granted g c =
    let told = rw (← c.self.view_is) at c.in-Call.ensures in
    rw (← c.self.view_is)
    (λ h n f grants few again.
    let positions = opens_with _ c.args.count c.from-length.result (λ k fits. sym (told k fits) ∙ ap (λ j. answer.Call j) (sym c.from-length.ensures)) h f in
    let outstanding = c.outstanding.ensures.value in
    not_refused c.reserve_in-2.result (c.reserve_in-2.ensures.granted n grants (omega arith)) (sym c.is_err.ensures.value ∙ c.if-is_err.true))

pub returns-then-is_err-clause-fits : goal.returns-then-is_err-clause-fits
returns-then-is_err-clause-fits g c =
    let told = rw (← c.self.view_is) at c.in-Call.ensures in
    let failed = sym c.is_err.ensures.value ∙ c.if-is_err.true in
    let short = on_failure c.reserve_in-2.result _ failed c.reserve_in-2.ensures.short in
    rw (← c.self.view_is) (again_goes _ c.reserve_in.new.self c.reserve_in-2.new.self c.args.count c.from-length.result
    (λ h f. sym (told h f) ∙ ap (λ k. answer.Call k) (sym c.from-length.ensures))
    c.reserve_in.ensures.counts c.reserve_in.ensures.between c.reserve_in.ensures.shows (on_failure c.reserve_in-2.result _ failed c.reserve_in-2.ensures.err) (inr (rw c.outstanding.ensures.value at short)))

pub returns-in-Err-NoMemory-clause-by_steps : goal.returns-in-Err-NoMemory-clause-by_steps
returns-in-Err-NoMemory-clause-by_steps g c =
    let told = rw (← c.self.view_is) at c.in-Call.ensures in
    rw (← c.self.view_is)
    (λ h n f grants enough again.
    let refused = c.in-Err-NoMemory.is ∙ ap Err c.in-Err-NoMemory.field-0-is in
    let positions = opens_with _ c.args.count c.from-length.result (λ k fits. sym (told k fits) ∙ ap (λ j. answer.Call j) (sym c.from-length.ensures)) h f in
    let few = few_wanted _ h c.args.count c.from-length.result f positions in
    let some = c.reserve_in.ensures.no_memory refused in
    c.reserve_in.ensures.granted (requests_of (world c.self.inside.setup h)) n f.shows.requests grants (omega (arith, enough, few.requests, some)) refused)

pub returns-then-is_err-clause-by_steps : goal.returns-then-is_err-clause-by_steps
returns-then-is_err-clause-by_steps g c =
    let told = rw (← c.self.view_is) at c.in-Call.ensures in
    let failed = sym c.is_err.ensures.value ∙ c.if-is_err.true in
    let short = on_failure c.reserve_in-2.result _ failed c.reserve_in-2.ensures.short in
    rw (← c.self.view_is)
    (λ h n f grants enough again.
    let positions = opens_with _ c.args.count c.from-length.result (λ k fits. sym (told k fits) ∙ ap (λ j. answer.Call j) (sym c.from-length.ensures)) h f in
    let few = few_wanted _ h c.args.count c.from-length.result f positions in
    let outstanding = c.outstanding.ensures.value in
    not_refused c.reserve_in-2.result (c.reserve_in-2.ensures.granted n grants (omega (arith, enough, few.ends, short, outstanding))) failed)
