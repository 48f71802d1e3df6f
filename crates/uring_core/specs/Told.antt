-- Glue. What the layers answer, as answers to a step and as what is posted.
use Rattle.std.specs.Prelude.{ℕ, ℤ, List}
use Rattle.uring_entry.specs.Completions.{Completions, with_posted}
use Rattle.uring_dispatch.specs.declared.answers.Posts.{Posts}
use Rattle.uring_dispatch.specs.declared.answers.Posts.TheVariants.{Completion, Nothing}
use Rattle.uring_dispatch.specs.declared.answers.IssuedPosting.{IssuedPosting}
use Rattle.uring_dispatch.specs.declared.answers.IssuedPosting.TheVariants as issue
use Rattle.uring_entry.specs.Requests.{no_bytes}
use Rattle.uring_rings.specs.declared.answers.FillAnswer.{FillAnswer}
use Rattle.uring_rings.specs.declared.answers.FillAnswer.TheVariants as fill
use Rattle.uring_rings.specs.declared.answers.IndexAnswer.{IndexAnswer}
use Rattle.uring_rings.specs.declared.answers.IndexAnswer.TheVariants as index
use Rattle.uring_rings.specs.declared.answers.BeginAnswer.{BeginAnswer}
use Rattle.uring_rings.specs.declared.answers.BeginAnswer.TheVariants as begin
use Rattle.uring_rings.specs.declared.answers.TakeAnswer.{TakeAnswer}
use Rattle.uring_rings.specs.declared.answers.TakeAnswer.TheVariants as take
use Rattle.uring_rings.specs.declared.answers.EndAnswer.{EndAnswer}
use Rattle.uring_rings.specs.declared.answers.EndAnswer.TheVariants as end
use Rattle.uring_core.specs.declared.answer.Answer.{Answer}
use Rattle.uring_core.specs.declared.answer.Answer.TheVariants as answer

abbrev pub fill_told : FillAnswer → Answer
fill_told fill.Filled = answer.Filled
fill_told fill.NoSlot = answer.NoSlot
fill_told fill.Busy = answer.Busy

abbrev pub index_told : IndexAnswer → Answer
index_told index.Staged = answer.Staged
index_told index.Full = answer.Full

abbrev pub begin_told : BeginAnswer → Answer
begin_told (begin.Call length) = answer.Call length
begin_told begin.InCall = answer.InCall

abbrev pub take_told : TakeAnswer → Answer
take_told (take.Entry entry) = answer.Entry entry
take_told take.Dropped = answer.Dropped
take_told take.NoMore = answer.NoMore
take_told take.NoCall = answer.NoCall

abbrev pub end_told : EndAnswer → Answer
end_told (end.Taken taken) = answer.Taken taken.accepted taken.dropped taken.head
end_told end.NotAll = answer.NotAll
end_told end.NoCall = answer.NoCall

-- an issue's answer
abbrev pub issue_told : IssuedPosting → Answer
issue_told (issue.Run op) = answer.Run
issue_told (issue.Ended res posted) = answer.Ended res no_bytes
issue_told issue.NotReady = answer.NotReady
issue_told issue.Running = answer.Running
issue_told issue.Unknown = answer.Unknown

-- the completions once the end of a request with this result and these bytes has posted what it posts
abbrev pub with_told : ℕ → Completions → Posts → ℤ → List ℕ → Completions
with_told size l (Completion user_data) res bytes =
    with_posted size l (record { user_data = user_data; res = res; payload = bytes })
with_told size l Nothing res bytes = l
