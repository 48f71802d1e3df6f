use Rattle.std.proofs.Common.{◌∙◌, [], ◌∷◌, length, ap, refl, sym, subst, arith}
use Rattle.uring_threads.proofs.Common.{ClosesOnce, IsTaken, Pulls, Stands, Tied, World, awaits_memory, false≢true, is_shut, now, waiting_in}
use Rattle.uring_core.specs.declared.step.Step.TheVariants as step
use Rattle.uring_threads.proofs.CallsMade.{row_taken}
use Rattle.uring_threads.proofs.Tying.{once_begun, once_shut, once_stays, begun_completions, closed_world, takes_nothing, takes_then, tied_shut, tied_taken}
use Rattle.uring_threads.proofs.TraceSteps.{appends_none, appends_one, still}
use Rattle.uring_threads.proofs.Tallying.{adds_begun, adds_items, takes_begun}
use Rattle.uring_threads.proofs.intake.take_pulled.Goals as goal

pub publish_items-requires-clause-few : goal.publish_items-requires-clause-few
publish_items-requires-clause-few g c =
    let pulled = subst (λ v. Pulls c.args.kept.now.setup.sq c.requires.tied.0 v c.args.items.now c.requires.tied.1) c.in-Call.is c.requires.tied.3 in
    pulled.1

pub publish_items-requires-clause-stands : goal.publish_items-requires-clause-stands
publish_items-requires-clause-stands g c = subst (λ i. Stands (now c.args.kept.now).submission [] (waiting_in i)) c.requires.ready c.requires.tied.2.stands

pub begin_calls-requires-clause-not_closed : goal.begin_calls-requires-clause-not_closed
begin_calls-requires-clause-not_closed g c =
    let pulled = subst (λ v. Pulls c.args.kept.now.setup.sq c.requires.tied.0 v c.args.items.now c.requires.tied.1) c.in-Call.is c.requires.tied.3 in
    ap (λ (w : World). w.is_closed) c.publish_items.ensures.world ∙ c.requires.tied.2.closed ∙ pulled.2

pub returns-in-Call : goal.returns-in-Call
returns-in-Call g c =
    let pulled = subst (λ v. Pulls c.args.kept.now.setup.sq c.requires.tied.0 v c.args.items.now c.requires.tied.1) c.in-Call.is c.requires.tied.3 in
    let begun = takes_begun c.begin_calls.ensures.begun.made _ c.begin_calls.ensures.begun.row in
    record {
      tied = λ before after tied pulled.
          (tied_taken c.args.kept.now c.publish_items.new.kept c.begin_calls.new.kept before after c.args.items.now c.args.intake.now c.begin_calls.result c.requires.ready c.publish_items.ensures.row.setup c.publish_items.ensures.world c.begin_calls.ensures.begun tied
          (subst (λ v. Pulls c.args.kept.now.setup.sq before v c.args.items.now after) c.in-Call.is pulled));
      completions = begun_completions c.publish_items.new.kept c.begin_calls.new.kept c.begin_calls.result c.begin_calls.ensures.begun ∙ ap (λ (w : World). w.completions) c.publish_items.ensures.world;
      taken =
          let n = length c.args.items.now in
          takes_then c.args.kept.now c.publish_items.new.kept c.begin_calls.new.kept n 0 n (record { calls = 0; closes = 0; adds = adds_items c.args.items.now c.publish_items.ensures.row; idle = λ none. absurd (omega (arith, none, pulled.0)) })
          begun (omega arith);
      row =
          let stands : Stands (now c.args.kept.now).submission [] 0 = subst (λ i. Stands (now c.args.kept.now).submission [] (waiting_in i)) c.requires.ready c.requires.tied.2.stands in
          let row = row_taken c.args.kept.now c.publish_items.new.kept c.begin_calls.new.kept c.args.items.now c.begin_calls.result stands pulled.1 c.publish_items.ensures.row.setup c.publish_items.ensures.world c.publish_items.ensures.row c.begin_calls.ensures.begun in
          (row.0, subst (λ p. IsTaken c.args.kept.now.setup p c.args.items.now row.0) (sym c.in-Call.is) row.1, row.2);
      once = λ once.
          let published = once_stays c.args.kept.now c.publish_items.new.kept _ c.args.intake.now (adds_items c.args.items.now c.publish_items.ensures.row) refl once in
          (once_begun c.publish_items.new.kept c.begin_calls.new.kept _ c.args.intake.now c.begin_calls.result (adds_begun c.begin_calls.ensures.begun.made _ c.begin_calls.ensures.begun.row) refl c.begin_calls.ensures.begun.not_shut (λ o. subst (ClosesOnce c.publish_items.new.kept) c.requires.ready o) published);
      none = λ none ready. absurd (omega (arith, none, pulled.0));
      begun = λ all. c.begin_calls.ensures.granted all;
    }

pub returns-in-Close : goal.returns-in-Close
returns-in-Close g c =
    record {
      tied = λ before after tied pulled.
          tied_shut c.args.kept.now c.step_reserved.new.self c.step_reserved.result before after c.args.intake.now c.requires.ready c.step_reserved.ensures.grows c.step_reserved.ensures.called tied
          (subst (λ v. Pulls c.args.kept.now.setup.sq before v c.args.items.now after) c.in-Close.is pulled).2;
      completions = ap (λ (w : World). w.completions) (closed_world c.args.kept.now c.step_reserved.new.self c.step_reserved.result c.step_reserved.ensures.grows c.step_reserved.ensures.called c.requires.tied.2.stands.call);
      taken = record { calls = 0; closes = 1; adds = record { steps = _; appends = appends_one _ _ _ _ c.step_reserved.ensures.grows refl; tally = refl }; idle = λ none. absurd (omega (arith, none)) };
      row = (step.Close ∷ [], subst (λ p. IsTaken c.args.kept.now.setup p c.args.items.now (step.Close ∷ [])) (sym c.in-Close.is) refl, appends_one c.args.kept.now c.step_reserved.new.self step.Close c.step_reserved.result c.step_reserved.ensures.grows refl);
      once = λ once. once_shut c.args.kept.now c.step_reserved.new.self c.step_reserved.result c.step_reserved.ensures.grows (subst (ClosesOnce c.args.kept.now) c.requires.ready once);
      none = λ none ready. absurd (false≢true (sym (ap is_shut ready)));
      begun = λ all. refl;
    }

pub returns-in-Nothing : goal.returns-in-Nothing
returns-in-Nothing g c =
    record {
      tied = λ before after tied pulled.
          subst (λ put. Tied c.args.kept.now.setup (now c.args.kept.now) put c.args.intake.now) (sym (subst (λ v. Pulls c.args.kept.now.setup.sq before v c.args.items.now after) c.in-Nothing.is pulled).1) tied;
      completions = refl;
      taken = takes_nothing c.args.kept.now c.args.kept.now (still c.args.kept.now);
      row = ([], subst (λ p. IsTaken c.args.kept.now.setup p c.args.items.now []) (sym c.in-Nothing.is) refl, appends_none c.args.kept.now c.args.kept.now (still c.args.kept.now));
      once = λ once. once;
      none = λ none ready. c.in-Nothing.is;
      begun = λ all. ap awaits_memory c.requires.ready;
    }
