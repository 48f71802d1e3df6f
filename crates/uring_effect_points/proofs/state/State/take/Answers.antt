use Rattle.std.proofs.Common.{List, ap, sym, subst, map, ◌∙◌}
use Rattle.uring_effect_points.proofs.Common.{FileContents, IsForFiles, IsOutcome, Op, Running, after, look, op_of, plain, with_taken}
use Rattle.uring_effect_points.proofs.Plain.{after_plain, outcome_back}
use Rattle.uring_effect_points.proofs.state.State.take.Goals as goal

pub carry_out-requires-clause-may : goal.carry_out-requires-clause-may
carry_out-requires-clause-may g c =
    let found = c.in-Some.ensures ∙ ap (λ (rs : List Running). look rs c.args.taker.now.number) c.as_slice.ensures.value in
    outcome_back c.args.self.now.files c.in-Some.one.op c.args.taker.now.outcome (subst (λ (x : Op). IsOutcome (map plain c.args.self.now.files) x c.args.taker.now.outcome) (ap op_of (sym (found ∙ c.requires.runs))) c.requires.gives)

pub carry_out-requires-clause-asks : goal.carry_out-requires-clause-asks
carry_out-requires-clause-asks g c =
    let found = c.in-Some.ensures ∙ ap (λ (rs : List Running). look rs c.args.taker.now.number) c.as_slice.ensures.value in
    subst IsForFiles (ap op_of (sym (found ∙ c.requires.runs))) c.requires.asks

pub returns-clause-took : goal.returns-clause-took
returns-clause-took g c =
    let found = c.in-Some.ensures ∙ ap (λ (rs : List Running). look rs c.args.taker.now.number) c.as_slice.ensures.value in
    ap (λ (fs : List FileContents). record { standing = record { files = fs; running = c.in_ok-all.all.items }; place = c.args.self.now.place })
    (ap (map plain) c.in_ok-carry_out.ensures.after ∙ sym (after_plain c.args.self.now.files c.in-Some.one.op c.args.taker.now.outcome.res)
    ∙ ap (λ (x : Op). map plain (after (map plain c.args.self.now.files) x c.args.taker.now.outcome.res)) (ap op_of found))
    ∙ ap (λ (rs : List Running). record { standing = record { files = map plain (after (map plain c.args.self.now.files) (op_of (look c.args.self.now.running.items c.args.taker.now.number)) c.args.taker.now.outcome.res); running = rs }; place = c.args.self.now.place }) (c.in_ok-all.ensures.all ∙ ap (λ (rs : List Running). with_taken rs c.args.taker.now.number c.args.taker.now.outcome) c.as_slice-running.ensures.value)
