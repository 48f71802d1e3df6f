use Rattle.std.proofs.Common.{[]}
use Rattle.std.proofs.lemmas.Result.{IfOk-weaker}
use Rattle.uring_pictures.proofs.Pictures.{reads}
use Rattle.uring_pictures.proofs.watching.watch_trace.Goals as goal

pub returns-clause-lines : goal.returns-clause-lines
returns-clause-lines g c = IfOk-weaker c.watch_all-watched.result _ _ (λ bad watched. reads (λ bytes. (first : _) → g.W.Watcher.follows first c.args.watcher.now [] → g.W.Watcher.ended first c.watch_all-watched.new.watcher bytes) c.args.setup.now _ _ _ _ _ _ (watched c.args.setup.now c.in-Ok.ensures.ok)) c.watch_all-watched.ensures.lines
