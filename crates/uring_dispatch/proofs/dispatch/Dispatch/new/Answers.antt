use Rattle.uring_dispatch.proofs.Views.{shows_held}
use Rattle.uring_dispatch.proofs.dispatch.Dispatch.new.Goals as goal

pub returns-clause-shows : goal.returns-clause-shows
returns-clause-shows c = shows_held _ _ _ _ _ c.new.ensures.shows
