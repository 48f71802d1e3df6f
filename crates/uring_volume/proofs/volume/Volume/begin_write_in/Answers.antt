use Rattle.std.proofs.Common.{◌≤◌, subst, sym, ◌∙◌, arith}
use Rattle.uring_volume.specs.Volume.{Volume, elements_to_begin}
use Rattle.uring_volume.proofs.KeptLists.{err_ok}
use Rattle.uring_volume.proofs.KeptCounts.{IsFew, are_few}
use Rattle.uring_volume.proofs.volume.Volume.begin_write_in.Goals as goal

pub returns-then-is_err-clause-granted : goal.returns-then-is_err-clause-granted
returns-then-is_err-clause-granted g c = λ n all enough.
    let few : IsFew c.self.inside.past = are_few c.self.inside.past c.is_past.ensures in
    let more : elements_to_begin (record { unit = c.self.inside.unit; first = c.self.inside.first.items; history = c.self.inside.past.history; next = c.self.inside.past.next }) ≤ n = subst (λ (v : Volume). elements_to_begin v ≤ n) (sym c.self.view_is) enough in
    absurd (err_ok c.begin_write.result (sym c.is_err.ensures.value ∙ c.if-is_err.true) (c.begin_write.ensures.granted n all (omega (arith, few.kept, more)) (omega (arith, few.runs, more)) (omega (arith, few.ends, few.runs, more))))
