use Rattle.std.proofs.Common.{◌≡◌, ◌<◌, ◌≤◌, ◌||◌, ◌∙◌, ap, sym, subst, arith, length, take, slice_index_or}
use Rattle.std.specs.List.{list_any}
use Rattle.std.proofs.lemmas.List.Folds.{list_any_more}
use Rattle.uring_enter.proofs.Common.{PollRow, get_or_default}
use Rattle.uring_enter.proofs.JoiningRuns.{up_to_more}
use Rattle.uring_enter.specs.Waiting.Joining as spec
use Rattle.uring_enter.proofs.waiting.joining.join_neighbours.Goals as goal

abbrev zero : PollRow
zero = record { fd = 0; events = 0; found = 0 }

pub loop-i-preserved : goal.loop-i-preserved
loop-i-preserved c =
    let here : slice_index_or c.loop-i.rows c.loop-i.i zero ≡ slice_index_or c.args.rows.now c.loop-i.i zero = c.loop-i.invariant.rest c.loop-i.i zero (omega arith) in
    let lt : c.loop-i.i < length c.args.rows.now = omega (arith, c.loop-i.invariant.len) in
    let is_last : spec.Rises c.args.rows.now → spec.AreUpTo (slice_index_or c.loop-i.rows c.loop-i.i zero).fd (take c.loop-i.kept c.loop-i.rows) =
    λ rises. subst (λ (row : PollRow). spec.AreUpTo row.fd (take c.loop-i.kept c.loop-i.rows)) (sym here) (c.loop-i.invariant.last rises c.loop-i.i zero (omega arith) lt) in
    record {
      joins = λ p j.
          let e1 = c.put-kept.ensures.joins p j in
          let e2 = c.loop-i.invariant.joins p j in
          let e3 = list_any_more p c.args.rows.now c.loop-i.i zero lt in
          e1 ∙ ap (λ b. b || p (slice_index_or c.loop-i.rows c.loop-i.i zero)) e2 ∙ ap (λ row. list_any p (take c.loop-i.i c.args.rows.now) || p row) here ∙ sym e3;
      once = λ rises. c.put-kept.ensures.once (is_last rises) (c.loop-i.invariant.once rises);
      last = λ rises k d from within.
          let up = c.put-kept.ensures.last (is_last rises) in
          let more : (slice_index_or c.args.rows.now c.loop-i.i d).fd ≤ (slice_index_or c.args.rows.now k d).fd = rises c.loop-i.i k d (omega arith) within in
          let same : (slice_index_or c.args.rows.now c.loop-i.i zero).fd ≡ (slice_index_or c.args.rows.now c.loop-i.i d).fd = ap (λ (row : PollRow). row.fd) (get_or_default c.args.rows.now c.loop-i.i zero d lt) in
          let now : (slice_index_or c.loop-i.rows c.loop-i.i zero).fd ≡ (slice_index_or c.args.rows.now c.loop-i.i zero).fd = ap (λ (row : PollRow). row.fd) here in
          λ k' d' within'. up_to_more _ _ _ _ (now ∙ same) more up k' d' within';
      rest = λ k d from. c.put-kept.ensures.others k d (omega arith) ∙ c.loop-i.invariant.rest k d (omega arith);
      len = c.put-kept.ensures.len ∙ c.loop-i.invariant.len;
      within = omega arith;
    }
