-- The course of a request in words that C can read.
use Rattle.std.specs.Prelude.{ℕ, ℤ, pos, negsuc, Bool, true, false, ◌==◌, Option, Some, None, if◌then◌else◌}
use Rattle.uring_operations.specs.declared.requests.act.Fact.{Fact}
use Rattle.uring_operations.specs.declared.requests.act.Fact.TheVariants.{Started, Dropped, Cancelled, Waits, WentOn, Done, Notified, Ended}
use Rattle.uring_operations.specs.declared.requests.act.Act.{Act}
use Rattle.uring_operations.specs.declared.requests.act.Act.TheVariants.{Nothing, CarryOut, End}
use Rattle.uring_enter.specs.declared.completions.shot.Part.{Part}
use Rattle.uring_enter.specs.declared.completions.shot.Part.TheVariants as part
use Rattle.uring_operations.specs.declared.chains.member.Entry.{Entry}
use Rattle.uring_enter.specs.declared.completions.posted.Completion.{Completion}
use Rattle.uring_ffi_values.specs.declared.core_words.completion_words.CompletionWords.{CompletionWords}

-- kinds count what happens, but that an operation is tried, in its order, from 0. Our own rule
abbrev pub fact_of : ℕ → ℤ → Option Fact
fact_of kind res =
    if kind == 0 then Some Started else
    if kind == 1 then Some (Dropped res) else
    if kind == 2 then Some Cancelled else
    if kind == 3 then Some (Waits res) else
    if kind == 4 then Some WentOn else
    if kind == 5 then Some (Done res) else
    if kind == 6 then Some (Notified res) else
    if kind == 7 then Some Ended else None

-- what a completion tells of counts in the order of `Part`, from 0; past the last, it is the last. Our own rule
abbrev pub part_of : ℕ → Part
part_of word =
    if word == 0 then part.Event else
    if word == 1 then part.Sent else
    if word == 2 then part.Notice else part.Own

-- kinds count what is to be done in its order, from 0. Our own rule
abbrev pub word_of_act : Act → ℕ
word_of_act Nothing = 0
word_of_act CarryOut = 1
word_of_act (End _) = 2

abbrev pub res_of_act : Act → ℤ → ℤ
res_of_act (End res) old = res
res_of_act _ old = old

-- the core's completion of these words, if there is one
abbrev pub last_of : CompletionWords → Bool → Option Completion
last_of w has = if has then Some (record { user_data = w.user_data; res = w.res }) else None

abbrev pub entry_of : Entry → Bool → Option Entry
entry_of entry has = if has then Some entry else None

-- what an end gives: 1 if it has a completion, 0 if it has none, -22 (EINVAL) if it is refused. Our own rule
abbrev pub word_of_end : Bool → Bool → ℤ
word_of_end taken posted =
    if taken then (if posted then pos 1 else pos 0) else negsuc 21

abbrev pub is_refused : ℤ → Bool
is_refused (pos _) = false
is_refused (negsuc _) = true
