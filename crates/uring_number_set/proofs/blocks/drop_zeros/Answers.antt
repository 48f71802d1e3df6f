use Rattle.std.proofs.Common.{◌≡◌, ◌<◌, ◌∙◌, ap, arith, length, refl, sym}
use Rattle.uring_number_set.specs.NumberSet.{block_of}
use Rattle.uring_number_set.proofs.BlockLemmas.{block_of_pop, first_out, some_of}
use Rattle.std.proofs.lemmas.List.{get_or_read}
use Rattle.uring_number_set.proofs.blocks.drop_zeros.Goals as goal

pub loop-first-preserved : goal.loop-first-preserved
loop-first-preserved c =
    let pos = some_of _ (sym c.is_empty.ensures ∙ c.if-is_empty.false) in
    let some : 0 < length c.loop-first.blocks.items = omega (arith, pos, c.loop-first.blocks.ok) in
    let zero = sym (get_or_read _ _ _ some c.index.ensures 0) ∙ c.if-index-ne0.false in
    let is = first_out c.loop-first.blocks.items _ some zero c.remove.ensures.items in
    record {
      start = λ m from to. omega arith;
      same = λ i. block_of_pop _ _ i ∙ ap (λ bs. block_of c.loop-first.first bs i) (sym is) ∙ c.loop-first.invariant.same i;
      stop = omega (arith, c.loop-first.invariant.stop, c.remove.ensures.len);
      longer = omega (arith, c.loop-first.invariant.longer);
      capacity = c.remove.ensures.capacity ∙ c.loop-first.invariant.capacity;
    }
