use Rattle.std.proofs.Common.{◌≡◌, [], ℕ, List, false, refl}
use Rattle.uring_crash.proofs.Common.{IsTrue, on_ok_weaker}
use Rattle.uring_text.specs.KeptLine.{kept_of}
use Rattle.uring_crash.proofs.FollowedLines.{followed_last, followed_none}
use Rattle.uring_crash.proofs.follower.Follower.finish.Goals as goal

pub returns-then-is_empty-clause-follows : goal.returns-then-is_empty-clause-follows
returns-then-is_empty-clause-follows g c = λ unit setup fd most bytes f. followed_none unit setup fd most _ _ _ _ bytes (λ line e. (c.if-is_empty.ensures line e).0 refl) f

pub returns-clause-follows : goal.returns-clause-follows
returns-clause-follows g c =
    let some : (line : List ℕ) → c.args.self.now.line ≡ kept_of line → line ≡ [] → ⊥ = λ line e none. let is : IsTrue false = (c.if-is_empty.ensures line e).1 none in absurd cc in
    on_ok_weaker c.read_line.result
    (λ reads unit setup fd most bytes f. followed_last unit setup fd most _ _ _ _ _ _ bytes some reads f)
    c.read_line.ensures.read
