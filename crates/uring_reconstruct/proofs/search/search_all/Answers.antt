use Rattle.uring_reconstruct.specs.Parts.{paths_of}
use Rattle.uring_reconstruct.proofs.Covering.{begins, fate_found, open_search}
use Rattle.uring_reconstruct.proofs.search.search_all.Goals as goal

pub paths-init : goal.paths-init
paths-init g c =
    begins c.args.setup.now c.args.seen.now c.args.todo.now.items c.push.new.list.items c.new.result c.args.reach.now.events.items c.args.reach.now.place c.requires.no_path c.in_ok-push.ensures.items c.new.ensures.items c.requires.none c.requires.nowhere

pub paths-preserved : goal.paths-preserved
paths-preserved g c =
    open_search c.args.setup.now c.args.seen.now _ (paths_of c.search_one.new.todo.items) c.search_one.new.reach c.in-Open.is c.in_ok-fate.ensures.fate

pub returns-in_default-clause-found : goal.returns-in_default-clause-found
returns-in_default-clause-found g c =
    fate_found c.args.setup.now c.args.seen.now _ (paths_of c.search_one.new.todo.items) c.search_one.new.reach c.in_ok-fate.ensures.fate
