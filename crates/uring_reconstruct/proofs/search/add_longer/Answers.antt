use Rattle.std.proofs.Common.{[], ◌∷◌, ◌++◌, map, ap, ◌∙◌}
use Rattle.uring_reconstruct.proofs.Common.{HasLonger, IfOk-weaker, paths_of}
use Rattle.uring_reconstruct.proofs.search.add_longer.Goals as goal

pub returns-clause-longer : goal.returns-clause-longer
returns-clause-longer g c =
    let path = c.args.path.now in
    let old = paths_of c.args.todo.now.items in
    IfOk-weaker c.push_longer.result _ _ (λ done is.
    let longer : HasLonger c.args.core.now.setup c.args.seen.now path old (paths_of c.push_longer.new.todo.items) = record {
      next = c.add_next.new.next.items;
      right = c.in_ok-add_next.ensures.right;
      all = c.in_ok-add_next.ensures.all;
      is = is ∙ ap (λ xs. old ++ map (λ x. path ++ x ∷ []) xs) c.as_slice.ensures.value;
    } in longer) c.push_longer.ensures.pushed
