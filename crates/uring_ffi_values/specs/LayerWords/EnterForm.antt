-- A call of io_uring_enter(2) in words that C can read.
use Rattle.std.specs.Prelude.{◌≡◌, ℕ, ℤ, pos, Bool, false, ◌==◌, nat_lt, Option, Some, None, List, if◌then◌else◌}
use Rattle.uring_enter.specs.declared.call.asked.Policy.{Policy}
use Rattle.uring_enter.specs.declared.call.asked.Policy.TheVariants.{InOrder, Lazy, ByChoice}
use Rattle.uring_enter.specs.declared.call.asked.Asked.{Asked}
use Rattle.uring_enter.specs.declared.call.command.Command.{Command}
use Rattle.uring_enter.specs.declared.call.command.Command.TheVariants as command
use Rattle.uring_enter.specs.declared.call.reply.Sight.{Sight}
use Rattle.uring_enter.specs.declared.call.reply.Reply.{Reply}
use Rattle.uring_enter.specs.declared.call.reply.Reply.TheVariants as reply
use Rattle.uring_enter.specs.declared.call.enter.Before.{Before}
use Rattle.uring_enter.specs.declared.call.enter.Before.TheVariants as before
use Rattle.uring_enter.specs.declared.call.enter.Enter.{Enter}
use Rattle.uring_enter.specs.Call.After.{IsAfter}
use Rattle.uring_enter.specs.Call.Due.{on_ring}
use Rattle.uring_ffi_values.specs.declared.layer_words.enter_words.AskedWords.{AskedWords}
use Rattle.uring_ffi_values.specs.declared.layer_words.enter_words.CommandWords.{CommandWords}
use Rattle.uring_ffi_values.specs.declared.layer_words.enter_words.ReplyWords.{ReplyWords}
use Rattle.uring_ffi_values.specs.declared.layer_words.enter_words.EnterWords.{EnterWords}

-- kinds count policies and commands in their order, from 0. Our own rule
abbrev pub word_of_policy : Policy → ℕ
word_of_policy InOrder = 0
word_of_policy Lazy = 1
word_of_policy ByChoice = 2

abbrev pub policy_of : ℕ → Option Policy
policy_of word =
    if word == 0 then Some InOrder else
    if word == 1 then Some Lazy else
    if word == 2 then Some ByChoice else None

abbrev pub asked_with : AskedWords → Option Policy → Option Asked
asked_with w None = None
asked_with w (Some policy) = Some (record {
  to_submit = w.to_submit;
  min_complete = w.min_complete;
  cq = w.cq;
  gets = w.gets;
  policy = policy;
  may_leave = w.may_leave;
})

-- what the words ask for, if there is such a policy
abbrev pub asked_of : AskedWords → Option Asked
asked_of w = asked_with w (policy_of w.policy)

abbrev pub on_its_ring : Bool → Option Asked → Option Asked
on_its_ring has_thread None = None
on_its_ring has_thread (Some a) = Some (on_ring a has_thread)

-- the same on the ring of the call, which has a thread that takes entries or hasn't: the words say what the program goes by
abbrev pub on_ring_of : AskedWords → Option Asked
on_ring_of w = on_its_ring w.has_thread (asked_of w)

-- those of a call that has begun: it goes by its own policy
abbrev pub words_of_asked : Asked → AskedWords
words_of_asked a = record {
  to_submit = a.to_submit;
  min_complete = a.min_complete;
  cq = a.cq;
  policy = word_of_policy a.policy;
  gets = a.gets;
  may_leave = a.may_leave;
  has_thread = false;
}

abbrev pub wanted_in : ℕ → Bool → ℤ → CommandWords
wanted_in kind flag result = record { result = result; kind = kind; flag = flag }

abbrev pub words_of_command : Command → CommandWords
words_of_command (command.Hear flushes) = wanted_in 0 flushes (pos 0)
words_of_command command.Submit = wanted_in 1 false (pos 0)
words_of_command (command.GoOn may_end) = wanted_in 2 may_end (pos 0)
words_of_command command.GoOnFully = wanted_in 3 false (pos 0)
words_of_command command.Sleep = wanted_in 4 false (pos 0)
words_of_command command.PassTime = wanted_in 5 false (pos 0)
words_of_command (command.Return result) = wanted_in 6 false result

-- the command of these words, if there is one
abbrev pub command_of : CommandWords → Option Command
command_of w =
    if w.kind == 0 then Some (command.Hear w.flag) else
    if w.kind == 1 then Some command.Submit else
    if w.kind == 2 then Some (command.GoOn w.flag) else
    if w.kind == 3 then Some command.GoOnFully else
    if w.kind == 4 then Some command.Sleep else
    if w.kind == 5 then Some command.PassTime else
    if w.kind == 6 then Some (command.Return w.result) else None

abbrev pub sight_in : ReplyWords → Sight
sight_in w = record { ready = w.ready; expired = w.expired; is_due = w.is_due }

-- what became of hearing, submitting and going on
abbrev pub going_reply_of : ReplyWords → Option Reply
going_reply_of w =
    if w.kind == 0 then Some (reply.Heard (sight_in w)) else
    if w.kind == 1 then Some reply.WrongHead else
    if w.kind == 2 then Some (reply.Taken w.number (sight_in w)) else
    if w.kind == 3 then Some (reply.NotTaken w.number (sight_in w)) else
    if w.kind == 4 then Some (reply.WentOn (sight_in w)) else
    if w.kind == 5 then Some reply.Chosen else None

-- what became of going on in vain, sleeping and passing time
abbrev pub waiting_reply_of : ReplyWords → Option Reply
waiting_reply_of w =
    if w.kind == 6 then Some (reply.Stuck (sight_in w)) else
    if w.kind == 7 then Some reply.Woken else
    if w.kind == 8 then Some (reply.TimedOut (sight_in w)) else
    if w.kind == 9 then Some (reply.Interrupted (sight_in w)) else
    if w.kind == 10 then Some reply.Endless else
    if w.kind == 11 then Some (reply.Failed w.number) else
    if w.kind == 12 then Some reply.Passed else
    if w.kind == 13 then Some (reply.LeastOver (sight_in w) w.has_limit) else None

-- the reply, if the words give one: kinds count them in the order of `Reply`, from 0. Our own rule
abbrev pub reply_of : ReplyWords → Option Reply
reply_of w = if nat_lt w.kind 6 then going_reply_of w else waiting_reply_of w

abbrev pub word_of_before : Before → ℕ
word_of_before before.Nothing = 0
word_of_before before.Sleep = 1
word_of_before before.Other = 2

abbrev pub before_of_word : ℕ → Option Before
before_of_word word =
    if word == 0 then Some before.Nothing else
    if word == 1 then Some before.Sleep else
    if word == 2 then Some before.Other else None

abbrev pub enter_with : EnterWords → Option Asked → Option Command → Option Before → Option Enter
enter_with w (Some a) (Some c) (Some b) = Some (record {
  asked = a;
  wanted = c;
  before = b;
  submitted = w.submitted;
  took_all = w.took_all;
  is_least_over = w.is_least_over;
  expired = w.expired;
})
enter_with w _ _ _ = None

-- the call of these words, if there is one
abbrev pub enter_of : EnterWords → Option Enter
enter_of w = enter_with w (asked_of w.asked) (command_of w.wanted) (before_of_word w.before)

abbrev pub words_of_enter : Enter → EnterWords
words_of_enter e = record {
  asked = words_of_asked e.asked;
  wanted = words_of_command e.wanted;
  submitted = e.submitted;
  expired = e.expired;
  before = word_of_before e.before;
  took_all = e.took_all;
  is_least_over = e.is_least_over;
}

-- these are words of a call that was asked for this, and to which these replies were made
abbrev pub AreAfter : Asked → List Reply → EnterWords → Type 0
AreAfter a log w = (call : Enter) × (enter_of w ≡ Some call) × IsAfter a log call
