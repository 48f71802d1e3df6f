use Rattle.std.proofs.Common.{rules, tests, ℕ, ◌==◌}
use Rattle.std.proofs.lemmas.Iterator.Splits.{YieldsList-from_slice_split}
use Rattle.std.proofs.lemmas.Iterator.Consumers.{nth_from_yields_List}
use Rattle.uring_register.proofs.kernel_lists.texts.part_of.Goals as goal

pub returns : goal.returns
returns c =
    let found = nth_from_yields_List c.nth.result _ c.args.place c.nth.ensures.ran
    (YieldsList-from_slice_split _ (λ (byte : ℕ). byte == 58) c.args.word.now c.split.ensures.rest c.split.ensures.done c.split.ensures.closure (λ x b q k. search (rules, tests))) in
    search (rules, found)
