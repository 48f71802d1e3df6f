use Rattle.std.proofs.Common.{rules, tests, ◌≡◌, ℕ, nat_lt}
use Rattle.std.specs.List.{list_all}
use Rattle.std.proofs.lemmas.Iterator.{YieldsList-from_slice}
use Rattle.std.proofs.lemmas.Iterator.Search.{all_from_yields_List}
use Rattle.uring_register.specs.KernelLists.Texts as spec
use Rattle.uring_register.proofs.kernel_lists.texts.is_number.Goals as goal

pub returns-then-not-is_empty : goal.returns-then-not-is_empty
returns-then-not-is_empty c =
    let all : c.all.result ≡ list_all (λ digit. nat_lt (spec.digit_value digit) c.args.base) c.args.digits.now = all_from_yields_List (λ (digit : ℕ). nat_lt (spec.digit_value digit) c.args.base) _ _ c.all.result c.all.ensures.ran (YieldsList-from_slice c.args.digits.now cc) (λ x b q k. search (rules, tests)) in
    rw (← c.is_empty.ensures) (rw c.if-not-is_empty.true all)
