use Rattle.uring_threads.proofs.Tying.{waits_not, once_begun, once_unmoved, begun_completions, call_waits, completions_after, takes_after, takes_nothing, tied_again, tied_still}
use Rattle.uring_threads.proofs.Common.{BeginsAgain, ClosesOnce, MayPull, false≢true, now}
use Rattle.std.proofs.Common.{[], inl, refl, sym, subst, arith, length, ◌+◌, ◌*◌}
use Rattle.uring_threads.proofs.Recording.{none_again}
use Rattle.uring_threads.proofs.CallsMade.{row_begun}
use Rattle.uring_threads.proofs.TraceSteps.{appends_none, still}
use Rattle.uring_threads.proofs.Tallying.{adds_begun, adds_none, adds_then, takes_begun}
use Rattle.uring_threads.proofs.intake.retry.Goals as goal

pub begin_calls-requires-clause-not_closed : goal.begin_calls-requires-clause-not_closed
begin_calls-requires-clause-not_closed g c = (call_waits c.args.kept.now c.reserve.new.self c.requires.tied.0 c.in-Waiting.count c.args.intake.now c.reserve.ensures.unmoved c.in-Waiting.is c.requires.tied.1).0

pub begin_calls-requires-clause-stands : goal.begin_calls-requires-clause-stands
begin_calls-requires-clause-stands g c = (call_waits c.args.kept.now c.reserve.new.self c.requires.tied.0 c.in-Waiting.count c.args.intake.now c.reserve.ensures.unmoved c.in-Waiting.is c.requires.tied.1).1

pub returns-in_err-reserve : goal.returns-in_err-reserve
returns-in_err-reserve g c =
    record {
      tied = λ put. tied_still c.args.kept.now c.reserve.new.self put c.args.intake.now c.reserve.ensures.unmoved;
      completions = completions_after c.args.kept.now c.reserve.new.self c.reserve.new.self c.reserve.ensures.unmoved refl;
      taken = takes_nothing c.args.kept.now c.reserve.new.self c.reserve.ensures.unmoved;
      row =
          subst (λ i. BeginsAgain c.args.kept.now c.reserve.new.self i i) (sym c.in-Waiting.is)
          (record { steps = []; is = inl refl; all = λ ready. grind arith; row = appends_none c.args.kept.now c.reserve.new.self c.reserve.ensures.unmoved });
      once = once_unmoved c.args.kept.now c.reserve.new.self c.args.intake.now c.reserve.ensures.unmoved;
      granted = λ all. absurd (false≢true (c.in_err-reserve.ensures.granted (length c.args.kept.now.trace + 4 * c.in-Waiting.count) (all (length c.args.kept.now.trace + 4 * c.in-Waiting.count)) (omega arith)));
      begun = λ all. absurd (false≢true (c.in_err-reserve.ensures.granted (length c.args.kept.now.trace + 4 * c.in-Waiting.count) (all (length c.args.kept.now.trace + 4 * c.in-Waiting.count)) (omega arith)));
    }

pub returns-in_ok-reserve : goal.returns-in_ok-reserve
returns-in_ok-reserve g c =
    record {
      tied = λ put tied.
          (tied_again c.args.kept.now c.reserve.new.self c.begin_calls.new.kept put c.in-Waiting.count c.args.intake.now c.begin_calls.result c.reserve.ensures.unmoved c.in-Waiting.is c.begin_calls.ensures.begun tied);
      completions = completions_after c.args.kept.now c.reserve.new.self c.begin_calls.new.kept c.reserve.ensures.unmoved (begun_completions c.reserve.new.self c.begin_calls.new.kept c.begin_calls.result c.begin_calls.ensures.begun);
      taken = takes_after c.args.kept.now c.reserve.new.self c.begin_calls.new.kept 0 c.reserve.ensures.unmoved (takes_begun c.begin_calls.ensures.begun.made _ c.begin_calls.ensures.begun.row);
      row =
          subst (λ i. BeginsAgain c.args.kept.now c.begin_calls.new.kept i c.begin_calls.result) (sym c.in-Waiting.is)
          (row_begun c.args.kept.now c.reserve.new.self c.begin_calls.new.kept c.in-Waiting.count c.begin_calls.result c.reserve.ensures.unmoved c.begin_calls.ensures.begun);
      once = λ once.
          once_begun c.args.kept.now c.begin_calls.new.kept _ c.args.intake.now c.begin_calls.result (adds_then (adds_none c.args.kept.now c.reserve.new.self c.reserve.ensures.unmoved) (adds_begun c.begin_calls.ensures.begun.made _ c.begin_calls.ensures.begun.row)) refl c.begin_calls.ensures.begun.not_shut (λ o. subst (ClosesOnce c.args.kept.now) c.in-Waiting.is o) once;
      granted = λ all. refl;
      begun = λ all. c.begin_calls.ensures.granted all;
    }

pub returns-in_default : goal.returns-in_default
returns-in_default g c =
    let still = still c.args.kept.now in
    record { tied = λ put t. t; completions = refl; taken = takes_nothing c.args.kept.now c.args.kept.now still; row = record { steps = []; is = none_again c.args.kept.now.setup (now c.args.kept.now).submission c.args.intake.now; all = λ ready. subst (λ i. MayPull c.args.kept.now.setup (now c.args.kept.now).submission i []) (sym ready) tt; row = appends_none c.args.kept.now c.args.kept.now still }; once = λ same. same; granted = λ all. refl; begun = λ all. waits_not c.args.intake.now c.in_default.not-Waiting }
