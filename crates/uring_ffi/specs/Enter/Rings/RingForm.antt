-- What a set-up does, what is mapped of a ring and when it is freed, what becomes of a timeout's time, of a message and of a registered file, in words that C can read.
use Rattle.std.specs.Prelude.{ℕ, pos, Bool, true, false, Option, Some, None, ◌==◌, if◌then◌else◌}
use Rattle.uring_enter.specs.declared.rings.ringing.Region.{Region}
use Rattle.uring_enter.specs.declared.rings.ringing.Region.TheVariants.{Rings, Entries}
use Rattle.uring_enter.specs.declared.rings.ringing.Stage.{Stage}
use Rattle.uring_enter.specs.declared.rings.ringing.Stage.TheVariants.{Reads, AsksKernel, Makes, Tells, Opens}
use Rattle.uring_enter.specs.declared.rings.ringing.Onto.{Onto}
use Rattle.uring_enter.specs.declared.rings.ringing.Onto.TheVariants.{Does, Fails, Drops, IsDone}
use Rattle.uring_enter.specs.declared.rings.ringing.Fate.{Fate}
use Rattle.uring_enter.specs.declared.rings.ringing.Fate.TheVariants as fate
use Rattle.uring_operations.specs.declared.chains.timing.Timing.{Timing}
use Rattle.uring_operations.specs.declared.chains.timing.Timing.TheVariants as timing
use Rattle.uring_enter.specs.declared.rings.visit.Visit.{Visit}
use Rattle.uring_enter.specs.declared.rings.visit.Visit.TheVariants as visit
use Rattle.uring_operations.specs.declared.requests.afresh.Awaited.{Awaited}
use Rattle.uring_operations.specs.declared.requests.afresh.Awaited.TheVariants as awaited
use Rattle.uring_operations.specs.declared.entries.form.Form.{Form}
use Rattle.uring_operations.specs.declared.entries.form.Form.TheVariants as form

-- parts count in the order of `Region`, from 1; 0 where there is none. Our own rule
abbrev pub word_of_region : Option Region → ℕ
word_of_region None = 0
word_of_region (Some Rings) = 1
word_of_region (Some Entries) = 2

-- what a set-up does counts in the order of `Stage`, from 0; then that it fails, drops the ring or is done. Our own rule
abbrev pub word_of_onto : Onto → ℕ
word_of_onto (Does Reads) = 0
word_of_onto (Does AsksKernel) = 1
word_of_onto (Does Makes) = 2
word_of_onto (Does Tells) = 3
word_of_onto (Does Opens) = 4
word_of_onto (Fails _) = 5
word_of_onto (Drops _) = 6
word_of_onto IsDone = 7

-- what it has done, by that word; None: nothing
abbrev pub stage_of : ℕ → Option Stage
stage_of word =
    if word == 0 then Some Reads else
    if word == 1 then Some AsksKernel else
    if word == 2 then Some Makes else
    if word == 3 then Some Tells else
    if word == 4 then Some Opens else None

-- kinds count in the order of `Fate`, from 0. Our own rule
abbrev pub word_of_fate : Fate → ℕ
word_of_fate fate.Stays = 0
word_of_fate fate.Asks = 1
word_of_fate fate.Goes = 2

-- kinds count in the order of `Timing`, from 0. Our own rule
abbrev pub word_of_timing : Timing → ℕ
word_of_timing timing.Stays = 0
word_of_timing timing.Begins = 1
word_of_timing timing.Stops = 2

-- kinds count in the order of `Visit`, from 0. Our own rule
abbrev pub word_of_visit : Visit → ℕ
word_of_visit visit.Nothing = 0
word_of_visit visit.Posts = 1
word_of_visit visit.Visits = 2

-- kinds count in the order of `Awaited`, from 0. Our own rule
abbrev pub word_of_awaited : Awaited → ℕ
word_of_awaited awaited.NotAwaited = 0
word_of_awaited awaited.Runs = 1
word_of_awaited awaited.Waits = 2

-- the same where it is the request's turn, else 3. Our own rule
abbrev pub word_of_turn : Bool → Awaited → ℕ
word_of_turn is_turn awaited = if is_turn then word_of_awaited awaited else 3

-- what an entry is to the core, by the word that `word_of_form` gives it
abbrev pub form_of_word : ℕ → Form
form_of_word word =
    if word == 0 then form.Token else
    if word == 1 then form.Cancel else form.Refused (pos 0)

-- what is known of something, by a word: 0, it isn't so; 1, it is; else nothing. Our own rule
abbrev pub known_by : ℕ → Option Bool
known_by word =
    if word == 0 then Some false else
    if word == 1 then Some true else None

abbrev pub known_if : Bool → Bool → Option Bool
known_if knows is_so = if knows then Some is_so else None
