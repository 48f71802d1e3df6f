use Rattle.std.proofs.Common.{◌≡◌, [], ◌++◌, rules}
use Rattle.std.proofs.KnownBytes.{Appends-nil, Appends-trans, Consumes-kept, Consumes-nil, Consumes-trans}
use Rattle.uring_pictures.proofs.Common.{IfOk-weaker, append-nil}
use Rattle.uring_pictures.proofs.watching.watch_all.Goals as goal

pub loop-alloc-init : goal.loop-alloc-init
loop-alloc-init g c = λ setup h. (([], [], [], Consumes-nil _, Appends-nil _, h), λ first f. f)

pub returns-in-Ok-eq0-clause-lines : goal.returns-in-Ok-eq0-clause-lines
returns-in-Ok-eq0-clause-lines g c = IfOk-weaker c.watch_end.result _ _ (λ bad ends setup h.
    let none_is : c.in-Ok-eq0.field-0 ≡ 0 = search rules in
    let (so, since) = c.loop-alloc.invariant setup h in
    let ended = ends.0.1 setup so.0 so.1 so.2 so.5 in
    let consumed = rw append-nil at (Consumes-trans _ _ _ so.0 _ so.3 (rw none_is at c.in-Ok-eq0.ensures.bytes.0)) in
    (record { bytes = so.0; told = so.1 ++ ended.0; notes = so.2 ++ ended.1; consumed = consumed; at_end = c.in-Ok-eq0.ensures.bytes.1 none_is (search rules); noted = Appends-trans _ _ _ so.2 ended.1 so.4 ended.2; is_bad = ends.0.0; ended = ended.3 }, λ first f. ends.1 first so.0 (since first f)))
    c.watch_end.ensures.ended

pub loop-alloc-preserved-in-Continue-1 : goal.loop-alloc-preserved-in-Continue-1
loop-alloc-preserved-in-Continue-1 g c = λ setup h.
    let (so, since) = c.loop-alloc.invariant setup h in
    let took = c.in_ok-watch-in-Ok.ensures.taken setup so.0 so.1 so.2 so.5 in
    ((so.0 ++ _, so.1 ++ took.0, so.2 ++ took.1, Consumes-trans _ _ _ so.0 _ so.3 c.in-Ok.ensures.bytes.0, Appends-trans _ _ _ so.2 took.1 so.4 took.2, took.3), λ first f. c.in_ok-watch-in-Ok.ensures.followed first so.0 (since first f))

pub loop-alloc-preserved : goal.loop-alloc-preserved
loop-alloc-preserved g c = λ setup h.
    let (so, since) = c.loop-alloc.invariant setup h in
    ((so.0, so.1, so.2, Consumes-kept _ _ _ so.0 so.3 c.in-Err.ensures.bytes, so.4, so.5), since)
