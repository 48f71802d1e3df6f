use Rattle.std.proofs.Common.{◌≡◌, Err, ap, ◌∙◌, rules}
use Rattle.uring_text.specs.declared.trace_fault.TraceFault.{TraceFault}
use Rattle.uring_trace.proofs.ExplainStreams.{last_none, last_cut, last_told}
use Rattle.uring_trace.proofs.explain_loop.explain_last.Goals as goal

pub returns-in_err-take_last-clause-lines : goal.returns-in_err-take_last-clause-lines
returns-in_err-take_last-clause-lines g c =
    let same : c.from_residual.result ≡ Err c.in_err-take_last.field-0.0 = search (rules, c.from_residual.ensures) in
    λ telling sure before told noted h. last_none telling _ _ _ c.args.explainer.now before told noted (same ∙ ap (λ (f : TraceFault). Err f) c.in_err-take_last.ensures.err) h

pub returns-in_err-write_both-clause-lines : goal.returns-in_err-write_both-clause-lines
returns-in_err-write_both-clause-lines g c = λ telling sure before told noted h.
    last_cut telling _ c.in_err-write_both.field-0.0 _ _ _ _ c.args.explainer.now _ before told noted _ _ _ _ (search rules) c.new-text.ensures.bytes c.new-notes.ensures.bytes (λ b t n k. (c.in_ok-take_last.ensures.ok telling sure b t n k).0)
    (rw (c.as_bytes.ensures.value, c.as_bytes-2.ensures.value) at c.in_err-write_both.ensures.texts) h

pub returns-clause-lines : goal.returns-clause-lines
returns-clause-lines g c = λ telling sure before told noted h.
    last_told telling _ _ _ _ c.args.explainer.now _ _ before told noted _ _ _ _ c.has_bad.ensures c.new-text.ensures.bytes c.new-notes.ensures.bytes (λ b t n k. (c.in_ok-take_last.ensures.ok telling sure b t n k).0)
    (rw (c.as_bytes.ensures.value, c.as_bytes-2.ensures.value) at c.in_ok-write_both.ensures.texts) h
