use Rattle.std.proofs.Common.{◌≡◌, ◌+◌, take, drop, ap, sym, ◌∙◌, arith}
use Rattle.std.proofs.lemmas.List.{drop-take, length-drop}
use Rattle.uring_enter.proofs.completions.showing.Shown.reap.Goals as goal

pub returns-clause-rows : goal.returns-clause-rows
returns-clause-rows c log rows keeps within =
    let n = c.args.count in
    let left = c.saturating_sub-self-2.result in
    let is : n + left ≡ c.args.self.now.posted = omega (arith, c.saturating_sub-self-2.ensures, within) in
    record {
      within = omega (arith, keeps.within, is, length-drop n rows);
      first = sym (drop-take n left rows) ∙ ap (λ m. drop n (take m rows)) is ∙ ap (λ l. drop n l) keeps.first;
    }
