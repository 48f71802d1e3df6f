use Rattle.std.proofs.Common.{◌≡◌, ℕ, pos, min, ◌^◌, ◌-◌, refl, sym, ◌∙◌, subst, true, false, rules, arith}
use Rattle.std.proofs.lemmas.Bool.Decides.{nat_tests}
use Rattle.uring_dispatch.proofs.Common.{Shows, int_le, to_z-of_z, w32, with_cancelled}
use Rattle.uring_dispatch.proofs.Choosing.{held_failing, one_chosen, chosen_noted, chosen_both, runs_held, result_some}
use Rattle.uring_dispatch.proofs.ByData.{spans_noted}
use Rattle.uring_dispatch.proofs.outstanding.Outstanding.make_choices.Goals as goal

counted : (n : ℕ) → int_le (pos 0) (pos n) ≡ true
counted n = grind (arith, nat_tests)

pub returns-then-all-clause-answer : goal.returns-then-all-clause-answer
returns-then-all-clause-answer c = λ r s addr all.
    rw (to_z-of_z w32 c.count_result.result (search rules), c.count_result.ensures, c.choose_targets.ensures.count r s addr, sym all ∙ c.if-all.true)

pub returns-then-all-clause-shows : goal.returns-then-all-clause-shows
returns-then-all-clause-shows c = λ r s addr is all.
    rw (to_z-of_z w32 c.count_result.result (search rules), sym all ∙ c.if-all.true, is, c.count_result.ensures, counted (min c.choose_targets.result (2 ^ 31 - 1))) (c.choose_targets.ensures.shows r s addr)

pub returns-in_default-clause-chosen : goal.returns-in_default-clause-chosen
returns-in_default-clause-chosen c = chosen_noted c.args.self.now _ refl refl refl c.args.self.now.by_user_data c.fill.new.self refl refl c.fill.ensures.places

pub returns-in_default-clause-answer : goal.returns-in_default-clause-answer
returns-in_default-clause-answer c = λ r h named all.
    rw (sym all ∙ c.if-all.false, ← (sym c.in_default.is ∙ c.target.ensures.target r h named)) refl

pub returns-in_default-clause-shows : goal.returns-in_default-clause-shows
returns-in_default-clause-shows c = λ r h named is all. held_failing _ _ r c.args.n 1 h

pub returns-then-is_running-clause-chosen : goal.returns-then-is_running-clause-chosen
returns-then-is_running-clause-chosen c = chosen_noted c.args.self.now _ refl refl refl c.args.self.now.by_user_data c.fill.new.self refl refl c.fill.ensures.places

pub returns-then-is_running-clause-answer : goal.returns-then-is_running-clause-answer
returns-then-is_running-clause-answer c = λ r h named all.
    rw (sym all ∙ c.if-all.false) (result_some r c.in-Some.m _ true (c.in-Some.ensures.target r h named) (runs_held _ _ r c.in-Some.m h ∙ sym c.is_running.ensures ∙ c.if-is_running.true))

pub returns-then-is_running-clause-shows : goal.returns-then-is_running-clause-shows
returns-then-is_running-clause-shows c = λ r h named is all. held_failing _ _ r c.args.n 113 h

pub returns-clause-answer : goal.returns-clause-answer
returns-clause-answer c = λ r h named all.
    rw (sym all ∙ c.if-all.false) (result_some r c.in-Some.m _ false (c.in-Some.ensures.target r h named) (runs_held _ _ r c.in-Some.m h ∙ sym c.is_running.ensures ∙ c.if-is_running.false))

pub returns-clause-shows : goal.returns-clause-shows
returns-clause-shows c = λ r h named is all.
    subst (λ xs. Shows c.choose.new.self.grouped (with_cancelled r xs))
    (sym (one_chosen r c.args.n c.in-Some.m is (sym all ∙ c.if-all.false) (sym (c.in-Some.ensures.target r h named))))
    (c.choose.ensures.shows r h)

pub target-requires : goal.target-requires
target-requires c =
    spans_noted _ _ c.args.user_data _ _ c.fill.ensures.found c.fill.ensures.full c.fill.ensures.fits c.span-span.ensures

pub returns-clause-chosen : goal.returns-clause-chosen
returns-clause-chosen c = chosen_both _ _ _ (chosen_noted c.args.self.now _ refl refl refl c.args.self.now.by_user_data c.fill.new.self refl refl c.fill.ensures.places) c.choose.ensures.chosen
