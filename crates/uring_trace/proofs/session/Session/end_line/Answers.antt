use Rattle.std.proofs.Common.{◌≡◌, ◌++◌, ◌∷◌, []}
use Rattle.std.proofs.lemmas.Result.{on_ok_weaker}
use Rattle.uring_trace.proofs.Sessions.{ended_line}
use Rattle.uring_trace.proofs.session.Session.end_line.Goals as goal

pub returns-clause-ok : goal.returns-clause-ok
returns-clause-ok g c =
    on_ok_weaker c.push_bytes.result
    (λ e.
    let text : c.push_bytes.new.list.items ≡ c.answer_line.new.text.items ++ 10 ∷ [] = e in
    rw (text, c.clear.ensures, c.in_ok-answer_line.ensures.form) (λ manner sure before told h. ended_line _ manner _ _ _ _ before told _ _ c.in_ok-answer_line.ensures.answer sure h))
    c.push_bytes.ensures.items
