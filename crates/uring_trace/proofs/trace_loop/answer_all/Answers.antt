use Rattle.std.proofs.Common.{◌≡◌, [], ℕ, take, subst, rules}
use Rattle.std.specs.Io.KnownBytes.{Consumes}
use Rattle.std.proofs.KnownBytes.{Appends-nil, Consumes-nil}
use Rattle.uring_trace.proofs.Common.{Has}
use Rattle.uring_trace.proofs.Traces.{all_read, not_answered, read_failed, so_by, tried_again}
use Rattle.uring_trace.proofs.trace_loop.answer_all.Goals as goal

pub loop-alloc-init : goal.loop-alloc-init
loop-alloc-init g c = λ manner sure h. ([], [], Consumes-nil _, Appends-nil _, h)

pub returns-in-Ok-eq0-clause-lines : goal.returns-in-Ok-eq0-clause-lines
returns-in-Ok-eq0-clause-lines g c = λ manner sure h.
    let none_is : c.in-Ok-eq0.field-0 ≡ 0 = search rules in
    let read : Consumes (g.R.Read.remaining c.loop-alloc.reader) (g.R.Read.remaining c.read_once.new.reader) [] =
    subst (λ (n : ℕ). Consumes (g.R.Read.remaining c.loop-alloc.reader) (g.R.Read.remaining c.read_once.new.reader) (take n c.read_once.new.buf)) none_is c.in-Ok-eq0.ensures.bytes.0 in
    all_read manner _ _ _ _ _ _ _ c.loop-alloc.session read (c.in-Ok-eq0.ensures.bytes.1 none_is (search rules)) (c.answer_last.ensures.lines manner sure) (c.loop-alloc.invariant manner sure h)

pub loop-alloc-preserved-in-Continue-1 : goal.loop-alloc-preserved-in-Continue-1
loop-alloc-preserved-in-Continue-1 g c = λ manner sure h. so_by _ _ _ _ _ _ (Has manner c.loop-alloc.session) (Has manner c.answer.new.session) _ c.in-Ok.ensures.bytes.0 (c.in_ok-answer-in-Ok.ensures.lines manner sure) (c.loop-alloc.invariant manner sure h)

pub returns-in_err-answer-in-Ok-clause-lines : goal.returns-in_err-answer-in-Ok-clause-lines
returns-in_err-answer-in-Ok-clause-lines g c = λ manner sure h. not_answered manner _ _ _ _ _ _ _ _ c.loop-alloc.session _ (search rules) c.in-Ok.ensures.bytes.0 (c.in_err-answer-in-Ok.ensures.lines manner sure) (c.loop-alloc.invariant manner sure h)

pub loop-alloc-preserved : goal.loop-alloc-preserved
loop-alloc-preserved g c = λ manner sure h. tried_again manner _ _ _ _ _ c.loop-alloc.session c.in-Err.ensures.bytes (c.loop-alloc.invariant manner sure h)

pub returns-clause-lines : goal.returns-clause-lines
returns-clause-lines g c = λ manner sure h. read_failed manner _ _ _ _ _ c.loop-alloc.session (search rules) (c.loop-alloc.invariant manner sure h)
