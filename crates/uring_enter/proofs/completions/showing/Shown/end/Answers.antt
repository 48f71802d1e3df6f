use Rattle.std.proofs.Common.{◌≡◌, Some, [], ◌∷◌, ◌++◌, w32, sym, ap, ◌∙◌, arith, rules}
use Rattle.std.proofs.lemmas.Int.{to_z-of_z}
use Rattle.std.proofs.lemmas.List.{length-set, take_more_set}
use Rattle.uring_operations.specs.Requests.Courses.{shown}
use Rattle.uring_enter.specs.Completions.Postings.{unreaped}
use Rattle.uring_enter.proofs.completions.showing.Shown.end.Goals as goal

pub returns-clause-rows : goal.returns-clause-rows
returns-clause-rows c facts log course keeps =
    let res : shown facts ≡ Some c.in-Some.res = sym (c.shown.ensures facts course) ∙ c.in-Some.is in
    let at = c.args.self.now.posted in
    let row = c.shown_as.result in
    let is = rw (to_z-of_z w32 c.in-Some.res (search rules)) at c.shown_as.ensures in
    rw res (rw c.in-Some-last.is (record {
      within = omega (arith, c.if-self-rows.false, length-set c.args.rows.now at row);
      first = take_more_set c.args.rows.now at row c.if-self-rows.false
          ∙ ap (λ l. l ++ row ∷ []) keeps.first
          ∙ ap (λ r. unreaped log ++ r ∷ []) is;
    }))
