use Rattle.std.proofs.Common.{◌≡◌, [], ℕ, List, true, false, ap, sym, subst, ◌∙◌, ◌+◌, arith, rules}
use Rattle.uring_effect_points.proofs.Common.{IsFated, IsFoundBare, IsLawfulApart, IssuesMeet, Mark, Setup, history_of, known_marks, false≢true, not-false, not-true}
use Rattle.uring_effect_points.proofs.Deciding.{decided_blank, refused_blank}
use Rattle.uring_effect_points.proofs.bytes.find_known.Goals as goal

pub returns-then-not-branch-clause-found : goal.returns-then-not-branch-clause-found
returns-then-not-branch-clause-found g c = λ events blanks told.
    let made : c.in_ok-lawful.field-0 ≡ false = search (rules, not-true) in
    refused_blank c.args.setup.now c.in_ok-core.core.setup events c.args.blanks.now c.args.told.now c.in_ok-core.ensures.setup blanks told (c.in_ok-lawful.ensures.wrong made)

pub returns-clause-found : goal.returns-clause-found
returns-clause-found g c = λ events blanks told.
    let made : c.in_ok-lawful.field-0 ≡ true = search (rules, not-false) in
    let setup_now : Setup = c.args.setup.now in
    let own = c.in_ok-core.ensures.setup in
    let lawful = subst (λ (s : Setup). IsLawfulApart s (history_of c.args.blanks.now)) own (c.in_ok-lawful.ensures.lawful made) in
    let meet = subst (λ (s : Setup). IssuesMeet s c.args.told.now [] c.args.blanks.now) own (c.in_ok-lawful.ensures.meet made) in
    let fated = subst (λ (ms : List Mark). IsFated c.files.result ms c.in_ok-fate.fate) (c.as_slice.ensures.value ∙ c.in_ok-lawful.ensures.marks made ∙ ap (λ (s : Setup). known_marks s c.args.told.now [] c.args.blanks.now) own) c.in_ok-fate.ensures.fate in
    subst (IsFoundBare setup_now (history_of events)) (sym c.found_by.ensures) (decided_blank setup_now events c.args.blanks.now c.args.told.now c.in_ok-fate.fate blanks told lawful meet (subst (λ (n : ℕ). IsFated n (known_marks setup_now c.args.told.now [] c.args.blanks.now) c.in_ok-fate.fate) c.files.ensures.value fated))

pub returns-in_err-core-clause-granted : goal.returns-in_err-core-clause-granted
returns-in_err-core-clause-granted g c = λ all.
    let s = c.args.setup.now in
    absurd (false≢true (c.in_err-core.ensures.granted (s.sq + s.cq) (all _) (omega arith) (omega arith)))
