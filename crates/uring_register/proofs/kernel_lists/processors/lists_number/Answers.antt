use Rattle.std.proofs.Common.{rules, tests, ap, ◌∙◌, ℕ, ◌==◌, take, List}
use Rattle.std.proofs.lemmas.Iterator.Splits.{YieldsList-from_slice_split}
use Rattle.std.proofs.lemmas.Iterator.Search.{any_from_yields_List}
use Rattle.uring_register.specs.KernelLists.Processors as spec
use Rattle.uring_register.specs.KernelLists.Texts as texts
use Rattle.uring_register.proofs.kernel_lists.processors.lists_number.Goals as goal

pub returns : goal.returns
returns c =
    any_from_yields_List (λ (part : List ℕ). spec.has_number part c.args.number) _ _ c.any.result c.any.ensures.ran
    (YieldsList-from_slice_split _ (λ (byte : ℕ). byte == 44) (take (texts.position_of 10 c.args.list.now) c.args.list.now) (c.split.ensures.rest ∙ ap (λ n. take n c.args.list.now) c.position_of-end.ensures) c.split.ensures.done c.split.ensures.closure (λ x b q k. search (rules, tests)))
    (λ x b q k. search (rules, tests))
