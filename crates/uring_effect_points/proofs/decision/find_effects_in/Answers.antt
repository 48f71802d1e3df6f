use Rattle.std.proofs.Common.{◌≡◌, ℕ, true, [], List, ap, sym, subst, ◌∙◌, ◌+◌, arith, rules}
use Rattle.uring_effect_points.proofs.Common.{IsFated, IsFound, IsLawfulApart, Mark, Setup, history_of, marks_after, false≢true, not-false}
use Rattle.uring_effect_points.proofs.Timelines.{decided}
use Rattle.uring_effect_points.proofs.decision.find_effects_in.Goals as goal

pub returns-clause-found : goal.returns-clause-found
returns-clause-found g c =
    let made : c.in_ok-lawful.field-0 ≡ true = search (rules, not-false) in
    let lawful = subst (λ (s : Setup). IsLawfulApart s (history_of c.args.events.now)) c.in_ok-core.ensures.setup (c.in_ok-lawful.ensures.lawful made) in
    let fated = subst (λ (ms : List Mark). IsFated c.files.result ms c.in_ok-fate.fate) (c.as_slice.ensures.value ∙ c.in_ok-lawful.ensures.marks made ∙ ap (λ (s : Setup). marks_after s [] c.args.events.now) c.in_ok-core.ensures.setup) c.in_ok-fate.ensures.fate in
    subst (IsFound c.args.setup.now (history_of c.args.events.now)) (sym c.found_by.ensures) (decided c.args.setup.now c.args.events.now c.in_ok-fate.fate lawful (subst (λ (n : ℕ). IsFated n (marks_after c.args.setup.now [] c.args.events.now) c.in_ok-fate.fate) c.files.ensures.value fated))

pub returns-in_err-core-clause-granted : goal.returns-in_err-core-clause-granted
returns-in_err-core-clause-granted g c = λ all.
    let s = c.args.setup.now in
    absurd (false≢true (c.in_err-core.ensures.granted (s.sq + s.cq) (all _) (omega arith) (omega arith)))
