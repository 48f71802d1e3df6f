-- What a call does besides submitting, going on and sleeping, and in which order. Our own rules, but where a manual page is named: a kernel does these the moment that they come, and is told of what changes; whoever keeps a ring without one does them in calls.
use Rattle.std.specs.Prelude.{◌≡◌, ℕ, Bool, true, false, not, ◌&&◌, ◌||◌, ◌==◌, nat_lt, if◌then◌else◌}
use Rattle.uring_enter.specs.declared.going_on.duties.Duties.{Duties}
use Rattle.uring_enter.specs.declared.going_on.duties.Resting.{Resting}
use Rattle.uring_enter.specs.declared.call.reply.Reply.{Reply}
use Rattle.uring_enter.specs.declared.call.reply.Reply.TheVariants as reply

pub data Duty : Type 0 where
  LooksAfresh : Duty
  HearsPipes : Duty
  PassesTime : Duty
  FindsFiles : Duty
  KeepsNew : Duty
  HoldsFiles : Duty
  WatchesPipes : Duty
  LetsLie : Duty
  ShowsEnds : Duty
  TellsReadiness : Duty
  HearsApplication : Duty
  ShowsFlags : Duty
  TellsEventfd : Duty

-- the place of a duty among those of one moment: they are done by rising places
abbrev pub place : Duty → ℕ
place LooksAfresh = 0
place HearsPipes = 1
place PassesTime = 2
place FindsFiles = 3
place KeepsNew = 4
place HoldsFiles = 5
place WatchesPipes = 6
place LetsLie = 7
place ShowsEnds = 8
place TellsReadiness = 9
place HearsApplication = 10
place ShowsFlags = 11
place TellsEventfd = 12

abbrev pub is_due : Duties → Duty → Bool
is_due d LooksAfresh = d.looks_afresh
is_due d HearsPipes = d.hears_pipes
is_due d PassesTime = d.passes_time
is_due d FindsFiles = d.finds_files
is_due d KeepsNew = d.keeps_new
is_due d HoldsFiles = d.holds_files
is_due d WatchesPipes = d.watches_pipes
is_due d LetsLie = d.lets_lie
is_due d ShowsEnds = d.shows_ends
is_due d TellsReadiness = d.tells_readiness
is_due d HearsApplication = d.hears_application
is_due d ShowsFlags = d.shows_flags
is_due d TellsEventfd = d.tells_eventfd

-- nothing is to be done
abbrev pub nothing : Duties
nothing = record {
  looks_afresh = false;
  hears_pipes = false;
  passes_time = false;
  finds_files = false;
  keeps_new = false;
  holds_files = false;
  watches_pipes = false;
  lets_lie = false;
  shows_ends = false;
  tells_readiness = false;
  hears_application = false;
  shows_flags = false;
  tells_eventfd = false;
}

-- as a call begins, or has slept: others may have made descriptors ready meanwhile, so all that runs is looked at again, and then what they wrote to pipes is heard, before the ring writes anything itself, which isn't told. Where time is real, timeouts end that are over, before entries are submitted; after a sleep one ends as the sleep says
abbrev pub at_begin : (is_time_real has_slept : Bool) → Duties
at_begin is_time_real has_slept = record nothing {
  looks_afresh = true;
  hears_pipes = true;
  passes_time = is_time_real && not has_slept;
}

-- before it is decided whether a call sleeps: those find their files whose turn to do so hasn't come, as in the kernel all do before it sleeps; and what was accepted, and then what runs, keeps its file, which another thread may close meanwhile. Then those pipes are watched that polls wait for, unless the call is to fail with a fault. A poll that is told by that goes on, so the call doesn't sleep
abbrev pub before_sleep : Resting → (has_fault : Bool) → Duties
before_sleep r has_fault = record nothing {
  finds_files = r.has_due;
  keeps_new = r.has_new;
  holds_files = r.runs;
  watches_pipes = not has_fault && (r.runs || r.has_watches);
}

-- where nothing can go on, in a ring whose eventfd is registered: a request may wait for that, as a poll of it does. So what has ended is shown, of which the eventfd is told; once as a call begins and once after each sleep, since of what such a poll ends with it is told too. A kernel tells it the moment that something ends
abbrev pub when_stuck : Resting → (has_eventfd has_shown : Bool) → Duties
when_stuck r has_eventfd has_shown = record nothing {
  shows_ends = has_eventfd && not has_shown && r.has_ends;
}

-- whether what became of what a call wanted says what is seen of its ring
abbrev pub has_sight : Reply → Bool
has_sight (reply.Heard _) = true
has_sight reply.WrongHead = false
has_sight (reply.Taken _ _) = true
has_sight (reply.NotTaken _ _) = true
has_sight (reply.WentOn _) = true
has_sight reply.Chosen = false
has_sight (reply.Stuck _) = true
has_sight reply.Woken = false
has_sight (reply.TimedOut _) = true
has_sight (reply.Interrupted _) = true
has_sight reply.Endless = false
has_sight (reply.Failed _) = false
has_sight reply.Passed = false
has_sight (reply.LeastOver _ _) = true

-- before a call is told what became of what it wanted: what has ended is shown where it is told how many completions are ready, which are those that the application can reap. What goes on until nothing can is told once
abbrev pub at_reply : Reply → (has_ends : Bool) → Duties
at_reply r has_ends = record nothing { shows_ends = has_ends && has_sight r }

-- nothing is to be done where nothing has ended that isn't shown, and in a ring without an eventfd as it is stuck: neither needs to be asked
abbrev pub NeedsNoAsking : Type 0
NeedsNoAsking = (told : Reply) (r : Resting) (has_shown : Bool)
    → (at_reply told false ≡ nothing) × (when_stuck r false has_shown ≡ nothing)

-- whether those that wait for their descriptors become dormant, of which an epoll instance tells in the place of a look at each in each call: more of them run than are looked at in passing
abbrev pub are_many : Resting → Bool
are_many r = nat_lt r.looked_at r.waiting

-- after completions that were posted outside a call, as another ring's message or a tag: other threads see what has ended, however long nothing else comes, and whoever polls the ring's descriptor is told by what they see
abbrev pub after_posting : (has_ends is_polled : Bool) → Duties
after_posting has_ends is_polled = record nothing {
  shows_ends = has_ends;
  tells_readiness = is_polled;
}

-- as a call falls asleep, after the pipes: of many that wait those become dormant that wait for nothing else; then it is as after completions that were posted
abbrev pub at_rest : Resting → Duties
at_rest r = record (after_posting r.has_ends r.is_polled) { lets_lie = are_many r }

-- as a call returns. Those find their files whose turn hasn't come, and what was accepted, and then what runs, keeps its file, as it does in the kernel, whatever the application closes. Then pipes are watched, those that polls wait for by the descriptors that were kept; those that none waits for any more are let go. Of many that wait those become dormant that wait for nothing else. What has ended is shown, io_uring_enter(2); by that the descriptor is readable or not; and by that the flags say whether a call may bring something
abbrev pub at_return : Resting → Duties
at_return r = record (at_rest r) {
  finds_files = r.has_due;
  keeps_new = r.has_new;
  holds_files = r.runs;
  watches_pipes = r.runs || r.has_watches;
  shows_flags = true;
}

-- as a call of io_uring_register(2) begins. One that may post completions begins as any call does, so that what has come before it isn't taken for its own, and no timeout that is over is cancelled; and it hears what the application has reaped. Another has nothing to do
abbrev pub at_register_begin : (may_post is_time_real : Bool) → Duties
at_register_begin may_post is_time_real =
    if may_post then record (at_begin is_time_real false) { hears_application = true } else nothing

-- and as it returns: what it has ended is shown, and told, as any call does
abbrev pub at_register_return : (may_post : Bool) → Resting → Duties
at_register_return may_post r = if may_post then at_return r else nothing

-- before a completion is posted that no operation has just ended with, as an event, a message, a tag or the end of a request that was cancelled: it is heard what the application has reaped, since the kernel reads the head as it posts. By a head past the tail nothing is heard
abbrev pub before_posting : Duties
before_posting = record nothing { hears_application = true }

-- after completions that were stored into ring memory with their tail: the flags say whether some have overflowed, and whether a call may bring something, and a registered eventfd is told, if it is to be told of any of them
abbrev pub after_storing : (told : ℕ) → Duties
after_storing told = record nothing { shows_flags = true; tells_eventfd = nat_lt 0 told }

-- before an operation is carried out: other threads see what has ended, however long it takes; a no-op (0) takes no time. Then it is heard what the application has reaped, as before any completion
abbrev pub before : ℕ → (has_ends : Bool) → Duties
before code has_ends = record before_posting { shows_ends = has_ends && not (code == 0) }

-- whether a sleep polls what tells of writes to pipes: so many are watched, and one at least
abbrev pub polls_writes : ℕ → Bool
polls_writes watched = nat_lt 0 watched

-- whether a sleep polls the epoll instance that tells of those that are dormant: so many are, and one at least. Each of them waits for its descriptor
abbrev pub polls_instance : ℕ → Bool
polls_instance dormant = nat_lt 0 dormant

-- whether one that is due at a moment comes before another
abbrev pub comes_before : Duties → Duty → Duty → Bool
comes_before d first second = is_due d first && is_due d second && nat_lt (place first) (place second)

-- whatever else is due as a call returns comes before the flags are shown
abbrev pub ShowsAtLast : Type 0
ShowsAtLast = (r : Resting) (duty : Duty) → is_due (at_return r) duty ≡ true
    → (comes_before (at_return r) duty ShowsFlags || place duty == place ShowsFlags) ≡ true

-- where an eventfd is told, the flags are shown before: so whoever is woken by it sees IORING_SQ_CQ_OVERFLOW. io_uring_register(2), IORING_REGISTER_EVENTFD; that the flags come first is what Linux 6.18 does
abbrev pub TellsOfWhatIsShown : Type 0
TellsOfWhatIsShown = (told : ℕ) → is_due (after_storing told) TellsEventfd ≡ true
    → comes_before (after_storing told) ShowsFlags TellsEventfd ≡ true

-- where requests run as a call returns, their files are kept after those that are found then and those of what was accepted, and before pipes are watched for them
abbrev pub WatchesWhatIsHeld : Type 0
WatchesWhatIsHeld = (r : Resting) → r.runs ≡ true
    → (comes_before (at_return r) HoldsFiles WatchesPipes ≡ true)
    × (r.has_due ≡ true → comes_before (at_return r) FindsFiles HoldsFiles ≡ true)
    × (r.has_new ≡ true → comes_before (at_return r) KeepsNew HoldsFiles ≡ true)

-- where many requests wait as a call returns, they become dormant after the pipes that are watched: so none does that was told of a write
abbrev pub LiesAfterPipes : Type 0
LiesAfterPipes = (r : Resting) → r.runs ≡ true → are_many r ≡ true
    → comes_before (at_return r) WatchesPipes LetsLie ≡ true

-- a call of io_uring_register(2) that may post completions does what one of io_uring_enter(2) does as it begins, and as it returns
abbrev pub RegistersAsItEnters : Type 0
RegistersAsItEnters = (is_time_real : Bool) (r : Resting) (duty : Duty)
    → (is_due (at_begin is_time_real false) duty ≡ true
    → is_due (at_register_begin true is_time_real) duty ≡ true)
    × (is_due (at_return r) duty ≡ true → is_due (at_register_return true r) duty ≡ true)

-- the head is heard in each moment after which a completion may be posted
abbrev pub HearsBeforeItPosts : Type 0
HearsBeforeItPosts = (code : ℕ) (is_time_real has_ends : Bool)
    → (is_due (at_register_begin true is_time_real) HearsApplication ≡ true)
    × (is_due before_posting HearsApplication ≡ true)
    × (is_due (before code has_ends) HearsApplication ≡ true)
