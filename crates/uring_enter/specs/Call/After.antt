-- A call that has come so far.
use Rattle.std.specs.Prelude.{◌≡◌, List, [], ◌∷◌}
use Rattle.uring_enter.specs.declared.call.asked.Asked.{Asked}
use Rattle.uring_enter.specs.declared.call.reply.Reply.{Reply}
use Rattle.uring_enter.specs.declared.call.reply.Reply.TheVariants.{Woken, LeastOver}
use Rattle.uring_enter.specs.declared.call.enter.Before.{Before}
use Rattle.uring_enter.specs.declared.call.enter.Before.TheVariants.{Nothing, Sleep, Other}
use Rattle.uring_enter.specs.declared.call.enter.Enter.{Enter}
use Rattle.uring_enter.specs.Call.Replies.{submission, has_taken_all, expired_before, is_least_over}
use Rattle.uring_enter.specs.Call.Due.{due}

abbrev pub before_of : List Reply → Before
before_of [] = Nothing
before_of (Woken ∷ earlier) = Sleep
before_of (LeastOver sight has_limit ∷ earlier) = Sleep
before_of (_ ∷ earlier) = Other

-- what a call keeps of its submission is that of the replies
pub record Keeps (a : Asked) (log : List Reply) (call : Enter) : Type 0 where
  pub asked : call.asked ≡ a
  pub submitted : call.submitted ≡ submission log
  pub took_all : call.took_all ≡ has_taken_all a log
  pub expired : call.expired ≡ expired_before log
  pub least : call.is_least_over ≡ is_least_over log

-- a call that was asked for this, and to which these replies were made
pub record IsAfter (a : Asked) (log : List Reply) (call : Enter) : Type 0 where
  pub keeps : Keeps a log call
  pub wanted : call.wanted ≡ due a log
  pub before : call.before ≡ before_of log
