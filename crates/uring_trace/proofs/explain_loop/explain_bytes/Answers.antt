use Rattle.std.proofs.Common.{◌≡◌, Err, ap, ◌∙◌, rules}
use Rattle.uring_text.specs.declared.trace_fault.TraceFault.{TraceFault}
use Rattle.uring_trace.proofs.ExplainStreams.{none_told, bytes_told}
use Rattle.uring_trace.proofs.explain_loop.explain_bytes.Goals as goal

pub returns-in_err-take_all-clause-lines : goal.returns-in_err-take_all-clause-lines
returns-in_err-take_all-clause-lines g c =
    let same : c.from_residual.result ≡ Err c.in_err-take_all.field-0.0 = search (rules, c.from_residual.ensures) in
    λ telling sure before told noted h. none_told telling _ _ _ c.args.explainer.now _ before told noted _ (same ∙ ap (λ (f : TraceFault). Err f) c.in_err-take_all.ensures.err) h

pub returns-clause-lines : goal.returns-clause-lines
returns-clause-lines g c = λ telling sure before told noted h.
    bytes_told telling _ _ _ _ _ c.args.explainer.now _ before told noted _ _ _ _ _ c.new-text.ensures.bytes c.new-notes.ensures.bytes (c.in_ok-take_all.ensures.ok telling sure)
    (rw (c.as_bytes.ensures.value, c.as_bytes-2.ensures.value) at c.write_both.ensures.texts) h
