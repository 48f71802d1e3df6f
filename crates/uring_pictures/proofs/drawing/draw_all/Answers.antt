use Rattle.std.proofs.Common.{refl}
use Rattle.uring_pictures.proofs.Pictures.{draws, written_graph}
use Rattle.uring_pictures.proofs.drawing.draw_all.Goals as goal

pub returns-clause-drawn : goal.returns-clause-drawn
returns-clause-drawn g c = λ at f.
    let all = c.in_ok-bad.ensures.lines in
    draws at c.args.setup.now _ c.watch_trace.new.watcher _ _ _ _ _ _ _ (all.0, all.1 c.args.moment.now (λ at setup f. f) at c.args.setup.now f) refl
    (written_graph c.watch_trace.new.watcher.accepted _ _ _ _ c.new-text.ensures.bytes c.in_ok-push_graph.ensures.graph (rw c.as_bytes.ensures.value at c.in_ok-write_all.ensures.text))
