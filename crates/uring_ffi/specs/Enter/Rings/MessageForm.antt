-- What a message to another ring does, and what is changed of what a ring's descriptor polls for, in words that C can read.
use Rattle.std.specs.Prelude.{ℕ, ◌^◌, ℤ, pos, Bool, Option, Some, None, ◌==◌, if◌then◌else◌}
use Rattle.std.specs.Int.RustNames.{bit_or}
use Rattle.uring_enter.specs.Rings.Messages.{MessageStep, HasMemory, FindsFile, PassesFile, place, is_done}
use Rattle.uring_enter.specs.Rings.Messages as messages
use Rattle.uring_enter.specs.declared.rings.message.MessageSteps.{MessageSteps}
use Rattle.uring_enter.specs.declared.rings.message.Sending.{Sending}
use Rattle.uring_enter.specs.declared.rings.message.Sending.TheVariants.{Fails}
use Rattle.uring_enter.specs.declared.waiting.watched.Besides.{Besides}
use Rattle.uring_enter.specs.declared.waiting.watched.Watch.{Watch}
use Rattle.uring_enter.specs.declared.waiting.watched.Watch.TheVariants.{Stays, Adds, Removes, Renews}
use Rattle.uring_enter.specs.declared.waiting.watched.Watched.{Watched}
use Rattle.uring_enter.specs.declared.waiting.watched.Enlisted.{Enlisted}
use Rattle.uring_enter.specs.declared.waiting.watched.Enlisted.TheVariants.{Tells, IsReady, CantTell}

-- the bit of a step, where it is done, is 2 to the power of its place: so steps are done by rising bits. Our own rule
abbrev pub bit : MessageSteps → MessageStep → ℕ
bit s step = if is_done s step then 2 ^ place step else 0

abbrev pub word_of_message : MessageSteps → ℕ
word_of_message s =
    bit_or (bit_or (bit_or (bit s HasMemory) (bit s FindsFile)) (bit s PassesFile)) (bit s messages.Tells)

abbrev pub fault_of_sending : Sending → ℤ
fault_of_sending (Fails fault) = fault
fault_of_sending _ = pos 0

-- kinds count in the order of `Watch`, from 0. Our own rule
abbrev pub word_of_watch : Watch → ℕ
word_of_watch Stays = 0
word_of_watch Adds = 1
word_of_watch Removes = 2
word_of_watch Renews = 3

-- kinds count in the order of `Enlisted`, from 0. Our own rule
abbrev pub word_of_enlisted : Enlisted → ℕ
word_of_enlisted Tells = 0
word_of_enlisted IsReady = 1
word_of_enlisted CantTell = 2

-- what an instance makes of descriptors, by that word
abbrev pub enlisted_of : ℕ → Enlisted
enlisted_of word =
    if word == 0 then Tells else
    if word == 1 then IsReady else CantTell

abbrev pub watched_of : Watched → Bool → Option Watched
watched_of w has = if has then Some w else None

-- 1 and 2. Our own rule
abbrev pub word_of_besides : Besides → ℕ
word_of_besides b = bit_or (if b.writes then 1 else 0) (if b.instance then 2 else 0)
