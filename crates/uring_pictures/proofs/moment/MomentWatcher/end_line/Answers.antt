use Rattle.std.proofs.Common.{◌≡◌, ℕ, Option, ap, sym, ◌∙◌, min, ◌+◌, ◌-◌, ◌^◌}
use Rattle.uring_pictures.proofs.Common.{does_count}
use Rattle.uring_pictures.proofs.Moments.{follows_line, follows_passed}
use Rattle.uring_pictures.specs.declared.moment.Moment.{Moment}
use Rattle.uring_pictures.proofs.moment.MomentWatcher.end_line.Goals as goal
use Rattle.uring_pictures.proofs.moment.MomentWatcher.end_line.Goals.{then-counts+in_ok-read_line, else-counts}

pub returns-clause-taken : goal.returns-clause-taken
returns-clause-taken g c = λ first before f at setup start.
    let so = f at setup start in
    let counts : does_count at c.args.self.now.number ≡ c.counts.result = ap (λ (o : Option ℕ). does_count o c.args.self.now.number) so.0 ∙ sym c.counts.ensures in
    let next = λ (m : Moment) (is : c.if-counts.self ≡ m). c.saturating_add-self.ensures ∙ ap (λ (m : Moment). min (m.number + 1) (2 ^ 64 - 1)) is in
    elim c.if-counts.branch [
      | then-counts+in_ok-read_line w ↦
          rw w.self-is (so.0 ∙ sym w.in_ok-read_line.ensures.at, follows_line at setup _ _ _ _ _ _ before (counts ∙ w.if-counts.true) c.clear.ensures (next _ w.self-is ∙ ap (λ (n : ℕ). min (n + 1) (2 ^ 64 - 1)) w.in_ok-read_line.ensures.number) w.in_ok-read_line.ensures.read so.1)
      | else-counts w ↦
          rw w.self-is (so.0, follows_passed at setup _ _ _ _ _ before (counts ∙ w.if-counts.false) c.clear.ensures (next _ w.self-is) so.1)
    ]
