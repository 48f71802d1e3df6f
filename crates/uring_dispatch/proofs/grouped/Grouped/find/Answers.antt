use Rattle.uring_dispatch.proofs.ByData.{spans_all}
use Rattle.uring_dispatch.proofs.grouped.Grouped.find.Goals as goal

pub target-requires : goal.target-requires
target-requires c = λ n q e named. rw c.end.ensures.value (spans_all _ c.args.user_data n q e named)
