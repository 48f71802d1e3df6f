use Rattle.std.proofs.Common.{◌∙◌, sym, rules}
use Rattle.std.proofs.lemmas.List.Sorted.{list_any-IsPermutation, IsNonDecreasingBy-from_sort_by_key}
use Rattle.uring_enter.proofs.JoiningRuns.{asks_joined, polls_joined}
use Rattle.uring_enter.proofs.waiting.joining.join.Goals as goal

pub returns-clause-asks : goal.returns-clause-asks
returns-clause-asks c fd event = c.join_neighbours.ensures.joins _ (asks_joined fd event) ∙ sym (list_any-IsPermutation _ _ _ c.sort_unstable_by_key.ensures.permutation)

pub returns-clause-polls : goal.returns-clause-polls
returns-clause-polls c fd = c.join_neighbours.ensures.joins _ (polls_joined fd) ∙ sym (list_any-IsPermutation _ _ _ c.sort_unstable_by_key.ensures.permutation)

pub returns-clause-once : goal.returns-clause-once
returns-clause-once c = c.join_neighbours.ensures.once (IsNonDecreasingBy-from_sort_by_key (λ row. row.fd) _ c.sort_unstable_by_key.ensures.sorted λ a r q k. search rules)
