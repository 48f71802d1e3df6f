-- The words that tell an answer. Our own rule: kinds count the answers in the order of `Answer`, from 0, and a word that an answer hasn't is 0.
use Rattle.std.specs.Prelude.{◌≡◌, ℕ, ℤ, pos, List, [], ◌∷◌, replicate, Option, ◌==◌, find}
use Rattle.uring_core.specs.declared.answer.Answer.{Answer}
use Rattle.uring_core.specs.declared.answer.Answer.TheVariants as answer
use Rattle.uring_ffi_values.specs.declared.core_words.answer_words.AnswerWords.{AnswerWords}

-- the kind
abbrev pub kind_of : Answer → ℕ
kind_of answer.Filled = 0
kind_of answer.NoSlot = 1
kind_of answer.Busy = 2
kind_of answer.Staged = 3
kind_of answer.Full = 4
kind_of (answer.Tail tail) = 5
kind_of (answer.Head head) = 6
kind_of (answer.Call length) = 7
kind_of answer.Closed = 8
kind_of answer.InCall = 9
kind_of answer.Spent = 10
kind_of answer.Again = 11
kind_of (answer.Entry entry) = 12
kind_of answer.Dropped = 13
kind_of answer.NoMore = 14
kind_of answer.NoCall = 15
kind_of (answer.Taken accepted dropped head) = 16
kind_of answer.NotAll = 17
kind_of answer.Run = 18
kind_of (answer.Ended res bytes) = 19
kind_of answer.NotReady = 20
kind_of answer.Running = 21
kind_of answer.Unknown = 22
kind_of answer.NotRunning = 23
kind_of (answer.Moved count) = 24
kind_of (answer.Reaped completion) = 25
kind_of answer.Nothing = 26
kind_of answer.Shut = 27
kind_of (answer.Next number) = 28

-- these words tell that memory was refused to a Begin
abbrev pub IsAgain : AnswerWords → Type 0
IsAgain w = w.kind ≡ kind_of answer.Again

-- the tail, the head, the length of the call that is open, or how many entries were accepted
abbrev pub word_of : Answer → ℕ
word_of (answer.Tail tail) = tail
word_of (answer.Head head) = head
word_of (answer.Call length) = length
word_of (answer.Taken accepted dropped head) = accepted
word_of _ = 0

-- how many words the ring has dropped, and the head, as a call ends
abbrev pub dropped_of : Answer → ℕ
dropped_of (answer.Taken accepted dropped head) = dropped
dropped_of _ = 0

abbrev pub head_of : Answer → ℕ
head_of (answer.Taken accepted dropped head) = head
head_of _ = 0

-- how many completions moved, the number of the request that is next, or the user data of a completion
abbrev pub number_of : Answer → ℕ
number_of (answer.Moved count) = count
number_of (answer.Next number) = number
number_of (answer.Reaped completion) = completion.user_data
number_of _ = 0

-- the words of the entry that was taken
abbrev pub entry_words : Answer → List ℕ
entry_words (answer.Entry entry) = entry
entry_words _ = replicate 16 0

-- the result of a request that ended, or of a completion
abbrev pub res_of : Answer → ℤ
res_of (answer.Ended res bytes) = res
res_of (answer.Reaped completion) = completion.res
res_of _ = pos 0

-- the bytes of a request that ended, or of a completion
abbrev pub bytes_of : Answer → List ℕ
bytes_of (answer.Ended res bytes) = bytes
bytes_of (answer.Reaped completion) = completion.payload
bytes_of _ = replicate 64 0

-- the words that tell an answer
abbrev pub words_of : Answer → AnswerWords
words_of a =
    record {
      kind = kind_of a;
      word = word_of a;
      dropped = dropped_of a;
      head = head_of a;
      number = number_of a;
      entry = entry_words a;
      res = res_of a;
      bytes = bytes_of a;
    }

-- the answers that words may tell, one of each kind
abbrev pub answers_of : AnswerWords → List Answer
answers_of w =
    answer.Filled ∷ answer.NoSlot ∷ answer.Busy ∷ answer.Staged ∷ answer.Full ∷ answer.Tail w.word ∷ answer.Head w.word ∷ answer.Call w.word ∷ answer.Closed ∷ answer.InCall ∷ answer.Spent ∷ answer.Again ∷ answer.Entry w.entry ∷ answer.Dropped ∷ answer.NoMore ∷ answer.NoCall ∷ answer.Taken w.word w.dropped w.head ∷ answer.NotAll ∷ answer.Run ∷ answer.Ended w.res w.bytes ∷ answer.NotReady ∷ answer.Running ∷ answer.Unknown ∷ answer.NotRunning ∷ answer.Moved w.number ∷ answer.Reaped (record { user_data = w.number; res = w.res; payload = w.bytes }) ∷ answer.Nothing ∷ answer.Shut ∷ answer.Next w.number ∷ []

-- the answer that words tell, by its kind: none if there is no such kind
abbrev pub answer_of : AnswerWords → Option Answer
answer_of w = find (λ a. kind_of a == w.kind) (answers_of w)
