use Rattle.std.proofs.Common.{◌≡◌, [], ℕ, take, subst, rules}
use Rattle.std.specs.Io.KnownBytes.{Consumes}
use Rattle.std.proofs.KnownBytes.{Appends-nil, Consumes-nil}
use Rattle.uring_trace.proofs.Common.{HasToldBy}
use Rattle.uring_trace.proofs.ExplainStreams.{far_again, far_by, far_cut, far_end, far_failed}
use Rattle.uring_trace.proofs.explain_loop.explain_all.Goals as goal

pub loop-alloc-init : goal.loop-alloc-init
loop-alloc-init g c = λ telling sure h. ([], [], [], Consumes-nil _, Appends-nil _, Appends-nil _, h)

pub returns-in-Ok-eq0-clause-lines : goal.returns-in-Ok-eq0-clause-lines
returns-in-Ok-eq0-clause-lines g c = λ telling sure h.
    let none_is : c.in-Ok-eq0.field-0 ≡ 0 = search rules in
    let read : Consumes (g.R.Read.remaining c.loop-alloc.reader) (g.R.Read.remaining c.read_once.new.reader) [] =
    subst (λ (n : ℕ). Consumes (g.R.Read.remaining c.loop-alloc.reader) (g.R.Read.remaining c.read_once.new.reader) (take n c.read_once.new.buf)) none_is c.in-Ok-eq0.ensures.bytes.0 in
    far_end telling _ _ _ _ _ _ _ _ _ _ c.loop-alloc.explainer read (c.in-Ok-eq0.ensures.bytes.1 none_is (search rules)) (c.explain_last.ensures.lines telling sure) (c.loop-alloc.invariant telling sure h)

pub loop-alloc-preserved-in-Continue-1 : goal.loop-alloc-preserved-in-Continue-1
loop-alloc-preserved-in-Continue-1 g c = λ telling sure h. far_by _ _ _ _ _ _ _ _ _ (HasToldBy telling c.loop-alloc.explainer) (HasToldBy telling c.explain_bytes.new.explainer) _ c.in-Ok.ensures.bytes.0 (c.in_ok-explain_bytes-in-Ok.ensures.lines telling sure) (c.loop-alloc.invariant telling sure h)

pub returns-in_err-explain_bytes-in-Ok-clause-lines : goal.returns-in_err-explain_bytes-in-Ok-clause-lines
returns-in_err-explain_bytes-in-Ok-clause-lines g c = λ telling sure h. far_cut telling _ _ _ _ _ _ _ _ _ _ _ c.loop-alloc.explainer _ (search rules) c.in-Ok.ensures.bytes.0 (c.in_err-explain_bytes-in-Ok.ensures.lines telling sure) (c.loop-alloc.invariant telling sure h)

pub loop-alloc-preserved : goal.loop-alloc-preserved
loop-alloc-preserved g c = λ telling sure h. far_again telling _ _ _ _ _ _ _ c.loop-alloc.explainer c.in-Err.ensures.bytes (c.loop-alloc.invariant telling sure h)

pub returns-clause-lines : goal.returns-clause-lines
returns-clause-lines g c = λ telling sure h. far_failed telling _ _ _ _ _ _ _ c.loop-alloc.explainer (search rules) (c.loop-alloc.invariant telling sure h)
