use Rattle.std.proofs.Common.{[], ap, subst, ◌∙◌, rules, arith}
use Rattle.uring_litmus.proofs.Common.{IsSortedOnce, string_bytes, take_all, texts_of}
use Rattle.uring_litmus.proofs.Texts.{map_more}
use Rattle.uring_litmus.proofs.lines.sorted_of.Goals as goal

pub loop-text-preserved : goal.loop-text-preserved
loop-text-preserved g c =
    map_more string_bytes c.args.each.now c.loop-text.text-index c.text-item.result [] _ _ (search rules) c.text-item.is c.loop-text.invariant (rw c.as_str.ensures.value at c.in_ok-push_copy.ensures.copies)

pub returns-clause-lines : goal.returns-clause-lines
returns-clause-lines g c =
    subst (λ l. IsSortedOnce l (texts_of c.sort_once.new.lines.items))
    (c.loop-text.invariant ∙ ap texts_of (take_all c.loop-text.text-index c.args.each.now (omega arith))) c.sort_once.ensures
