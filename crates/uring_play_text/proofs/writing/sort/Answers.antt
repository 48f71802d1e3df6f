use Rattle.std.proofs.Common.{ℕ, List, ℤ, rules}
use Rattle.std.proofs.lemmas.List.Sorted.{answers_always}
use Rattle.uring_entry.specs.Layout.{Cqe}
use Rattle.uring_play_text.proofs.writing.sort.Goals as goal

abbrev key : Cqe → ℕ × ℤ × List ℕ
key c = (c.user_data, c.res, c.payload)

pub returns-clause-order : goal.returns-clause-order
returns-clause-order c =
    c.sort_unstable_by_key.ensures.sorted key (answers_always _ _ _ (λ f a r f' q. search rules))
