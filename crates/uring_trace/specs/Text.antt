-- The text of an answer. The language of a trace is our own rule.
use Rattle.std.specs.Prelude.{ℕ, List, [], ◌++◌, codes}
use Rattle.std.specs.Fmt.{decimal, signed_decimal}
use Rattle.uring_entry.specs.Layout.{Sqe, user_data_of}
use Rattle.uring_core.specs.declared.answer.Answer.{Answer}
use Rattle.uring_core.specs.declared.answer.Answer.TheVariants as answer
use Rattle.uring_text.specs.Completions.{completion_text}

-- an entry: its user data
abbrev pub entry_text : Sqe → List ℕ
entry_text e = codes "entry " ++ decimal (user_data_of e)

-- the words of an answer that says no more, and none of one that does
abbrev pub word_of : Answer → List ℕ
word_of answer.Filled = codes "ok"
word_of answer.NoSlot = codes "no slot"
word_of answer.Busy = codes "busy"
word_of answer.Staged = codes "ok"
word_of answer.Full = codes "full"
word_of answer.Closed = codes "closed"
word_of answer.InCall = codes "in call"
word_of answer.Spent = codes "spent"
word_of answer.Again = codes "again"
word_of answer.Dropped = codes "dropped"
word_of answer.NoMore = codes "no more"
word_of answer.NoCall = codes "no call"
word_of answer.NotAll = codes "not all"
word_of answer.Run = codes "run"
word_of answer.NotReady = codes "not ready"
word_of answer.Running = codes "running"
word_of answer.Unknown = codes "unknown"
word_of answer.NotRunning = codes "not running"
word_of answer.Nothing = codes "none"
word_of answer.Shut = codes "ok"
word_of (answer.Tail _) = []
word_of (answer.Head _) = []
word_of (answer.Call _) = []
word_of (answer.Entry _) = []
word_of (answer.Taken _ _ _) = []
word_of (answer.Ended _ _) = []
word_of (answer.Moved _) = []
word_of (answer.Reaped _) = []
word_of (answer.Next _) = []

-- the text of an answer
abbrev pub text_of : Answer → List ℕ
text_of (answer.Tail word) = codes "tail " ++ decimal word
text_of (answer.Head word) = codes "head " ++ decimal word
text_of (answer.Call count) = codes "call " ++ decimal count
text_of (answer.Entry entry) = entry_text entry
text_of (answer.Taken accepted dropped head) =
    codes "taken " ++ decimal accepted ++ codes " dropped " ++ decimal dropped ++ codes " head " ++ decimal head
text_of (answer.Ended res bytes) = codes "ended " ++ signed_decimal res
text_of (answer.Moved count) = codes "moved " ++ decimal count
text_of (answer.Reaped completion) = completion_text completion
text_of (answer.Next number) = codes "next " ++ decimal number
text_of a = word_of a
