use Rattle.std.proofs.Common.{◌≡◌, List, ℕ, true, false, length, sym, ap, ◌∙◌, rules}
use Rattle.uring_trace.proofs.Common.{on_ok_weaker, ◌==◌}
use Rattle.uring_trace.proofs.ChosenTexts.{said_next}
use Rattle.uring_trace.proofs.chosen.push_target.Goals as goal

pub returns-else-is_empty-clause-told : goal.returns-else-is_empty-clause-told
returns-else-is_empty-clause-told g c =
    let is : c.args.is_target ≡ true = search rules in
    on_ok_weaker c.push_named-else-is_empty.result
    (λ more before so. rw is (said_next before _ _ c.args.number so
    (λ none. let no : true ≡ false = sym (c.if-is_empty.ensures ∙ ap (λ (l : List ℕ). length l == 0) (c.as_str.ensures.value ∙ none)) in absurd cc) more))
    c.push_named-else-is_empty.ensures.bytes
