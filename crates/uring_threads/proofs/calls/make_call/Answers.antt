use Rattle.std.proofs.Common.{◌≡◌, ℕ, ◌+◌, ◌∷◌, [], drop, refl, ap, ◌∙◌, sym, subst, arith}
use Rattle.uring_threads.proofs.Common.{Setup, Stands, World, beginning, calls_after, calls_left, ends_of, in_call, now, taken}
use Rattle.uring_core.specs.declared.step.Step.TheVariants as step
use Rattle.uring_threads.specs.declared.calls.CallMade.TheVariants as made
use Rattle.uring_threads.proofs.CallSteps.{begun_cases, begun_spent, opened_now, closed_now, opened_first}
use Rattle.uring_threads.proofs.TraceSteps.{appends_one, appends_then, grown, grown_length}
use Rattle.uring_threads.proofs.calls.make_call.Goals as goal

-- ways in which a call can go are told apart
again_spent : made.Again ≡ made.Spent → ⊥
again_spent same = cc

taken_again : (n : ℕ) → made.Taken n ≡ made.Again → ⊥
taken_again n same = cc

taken_spent : (n : ℕ) → made.Taken n ≡ made.Spent → ⊥
taken_spent n same = cc

taken_same : (n m : ℕ) → made.Taken n ≡ made.Taken m → n ≡ m
taken_same n m same = cc

pub unreachable-requires : goal.unreachable-requires
unreachable-requires g c =
    begun_cases c.args.kept.now c.args.count c.step_reserved_in.result c.requires.stands c.requires.not_closed c.step_reserved_in.ensures.called c.in_default.not-Call c.in_default.not-Again c.in_default.not-Spent

pub returns-in-Again : goal.returns-in-Again
returns-in-Again g c =
    let is = grown c.args.kept.now c.step_reserved_in.new.self (step.Begin c.args.count) c.step_reserved_in.result c.step_reserved_in.ensures.grows ∙ ap (beginning (now c.args.kept.now) c.args.count) c.in-Again.is in
    record {
      world = is;
      first = subst (λ (w : World). Stands w.submission [] c.args.count) (sym is) c.requires.stands;
      row = appends_one c.args.kept.now c.step_reserved_in.new.self (step.Begin c.args.count) c.step_reserved_in.result c.step_reserved_in.ensures.grows refl;
      spent = λ same. absurd (again_spent same);
      length = λ n same. absurd (taken_again n (sym same));
      granted = λ all same. c.step_reserved_in.ensures.granted all c.in-Again.is;
    }

pub returns-in-Spent : goal.returns-in-Spent
returns-in-Spent g c =
    let is = grown c.args.kept.now c.step_reserved_in.new.self (step.Begin c.args.count) c.step_reserved_in.result c.step_reserved_in.ensures.grows ∙ ap (beginning (now c.args.kept.now) c.args.count) c.in-Spent.is in
    record {
      world = is;
      first = subst (λ (w : World). Stands w.submission [] c.args.count) (sym is) c.requires.stands;
      row = appends_one c.args.kept.now c.step_reserved_in.new.self (step.Begin c.args.count) c.step_reserved_in.result c.step_reserved_in.ensures.grows refl;
      spent = λ same. begun_spent c.args.kept.now c.args.count c.step_reserved_in.result c.requires.stands c.requires.not_closed c.step_reserved_in.ensures.called c.in-Spent.is;
      length = λ n same. absurd (taken_spent n (sym same));
      granted = λ all same. absurd (again_spent (sym same));
    }

pub take_positions-taken-requires-clause-in_call : goal.take_positions-taken-requires-clause-in_call
take_positions-taken-requires-clause-in_call g c =
    (now c.args.kept.now, c.requires.stands, opened_now c.args.kept.now c.args.count c.step_reserved_in.result c.requires.stands c.requires.not_closed c.step_reserved_in.ensures.called c.step_reserved_in.new.self _ c.in-Call.is c.step_reserved_in.ensures.grows)

pub returns : goal.returns
returns g c =
    let o = c.step_reserved_in.new.self in
    let t = c.take_positions-taken.new.kept in
    let n = c.take_positions-taken.result in
    let begin = c.step_reserved_in.ensures.grows in
    let end = c.step_reserved.ensures.grows in
    let load = c.step_reserved-2.ensures.grows in
    let took = c.take_positions-taken.ensures in
    let opened = opened_now c.args.kept.now c.args.count c.step_reserved_in.result c.requires.stands c.requires.not_closed c.step_reserved_in.ensures.called o _ c.in-Call.is begin in
    let is = closed_now c.args.kept.now t c.step_reserved.new.self c.step_reserved-2.new.self c.args.count n c.step_reserved.result c.step_reserved-2.result c.requires.stands took.few (took.world ∙ ap (λ w. in_call w n n) opened) end c.step_reserved.ensures.called load (took.row.setup ∙ begin.setup) in
    record {
      world = is;
      first =
          opened_first c.args.kept.now.setup (now c.args.kept.now) (now o) (now c.step_reserved-2.new.self) c.args.count n opened c.requires.stands took.some took.few
          (subst (λ (s : Setup). calls_left s (now o).submission ≡ n ∷ calls_after (ends_of s (drop (taken (now o).submission + n) (now o).submission.published)) 0) begin.setup took.call) is;
      row = appends_then (appends_one c.args.kept.now o _ _ begin refl) (appends_then took.row (appends_then (appends_one t c.step_reserved.new.self _ _ end refl) (appends_one c.step_reserved.new.self c.step_reserved-2.new.self _ _ load refl)));
      spent = λ same. absurd (taken_spent n same);
      length = λ m same. let is_m = taken_same n m same in omega (arith, grown_length c.args.kept.now o _ begin, took.length, grown_length t c.step_reserved.new.self _ end, grown_length c.step_reserved.new.self c.step_reserved-2.new.self _ load);
      granted = λ all same. absurd (taken_again n same);
    }
