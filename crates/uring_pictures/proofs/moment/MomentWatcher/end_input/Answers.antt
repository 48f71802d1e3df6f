use Rattle.std.proofs.Common.{◌≡◌, [], ℕ, List, Option, false, refl, ap, sym, ◌∙◌}
use Rattle.uring_pictures.proofs.Common.{IsTrue, does_count, on_ok_weaker}
use Rattle.uring_text.specs.KeptLine.{kept_of}
use Rattle.uring_pictures.proofs.Moments.{followed_last, followed_none, followed_passed}
use Rattle.uring_pictures.proofs.moment.MomentWatcher.end_input.Goals as goal

pub returns-then-is_empty-clause-taken : goal.returns-then-is_empty-clause-taken
returns-then-is_empty-clause-taken g c = λ first bytes f at setup start. followed_none at setup _ _ _ bytes (λ line e. (c.if-is_empty.ensures line e).0 refl) (f at setup start).1

pub returns-then-counts-clause-taken : goal.returns-then-counts-clause-taken
returns-then-counts-clause-taken g c =
    let some : (line : List ℕ) → c.args.self.now.line ≡ kept_of line → line ≡ [] → ⊥ = λ line e none. let is : IsTrue false = (c.if-is_empty.ensures line e).1 none in absurd cc in
    on_ok_weaker c.read_line.result (λ reads first bytes f at setup start.
    let so = f at setup start in
    followed_last at setup _ _ _ _ bytes some (ap (λ (o : Option ℕ). does_count o c.args.self.now.number) so.0 ∙ sym c.counts.ensures ∙ c.if-counts.true) reads so.1)
    c.read_line.ensures.read

pub returns-clause-taken : goal.returns-clause-taken
returns-clause-taken g c =
    let some : (line : List ℕ) → c.args.self.now.line ≡ kept_of line → line ≡ [] → ⊥ = λ line e none. let is : IsTrue false = (c.if-is_empty.ensures line e).1 none in absurd cc in
    λ first bytes f at setup start.
    let so = f at setup start in
    followed_passed at setup _ _ _ bytes some (ap (λ (o : Option ℕ). does_count o c.args.self.now.number) so.0 ∙ sym c.counts.ensures ∙ c.if-counts.false) so.1
