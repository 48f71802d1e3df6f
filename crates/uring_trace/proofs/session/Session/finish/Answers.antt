use Rattle.std.proofs.Common.{◌≡◌, ◌++◌, ◌∷◌, [], ℕ, List, false, rules}
use Rattle.uring_trace.proofs.Common.{IsTrue, kept_of}
use Rattle.uring_trace.proofs.Sessions.{ended_last}
use Rattle.uring_trace.proofs.session.Session.finish.Goals as goal

pub returns-clause-ok : goal.returns-clause-ok
returns-clause-ok g c =
    let text : c.push_bytes.new.list.items ≡ c.answer_line.new.text.items ++ 10 ∷ [] = search rules in
    let some : (line : List ℕ) → c.args.self.now.line ≡ kept_of line → line ≡ [] → ⊥ = λ line e none. let is : IsTrue false = (c.if-is_empty.ensures line e).1 none in absurd cc in
    rw text (λ manner sure before told h. ended_last _ manner _ _ _ _ before told _ _ some c.in_ok-answer_line.ensures.answer sure h)
