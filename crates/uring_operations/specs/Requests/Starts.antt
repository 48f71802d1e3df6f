-- What is done as a request starts, and in which order. A kernel does all of it in the moment in which it begins the request; the order is our own rule.
use Rattle.std.specs.Prelude.{◌≡◌, ℕ, ℤ, pos, Bool, true, false, not, ◌&&◌, ◌||◌, ◌==◌, nat_lt}
use Rattle.std.specs.Ordering.{int_eq}
use Rattle.uring_operations.specs.declared.entries.needs.Needs.{Needs}
use Rattle.uring_operations.specs.declared.requests.ready.RequestStanding.{RequestStanding}
use Rattle.uring_operations.specs.declared.requests.starting.Starting.{Starting}
use Rattle.uring_operations.specs.declared.entries.submission.Submission.{Submission}
use Rattle.uring_operations.specs.Files.PipeOpens.{looks_at_path}
use Rattle.uring_operations.specs.Requests.Readiness.{polls}

pub data Step : Type 0 where
  FindsEarlier : Step
  FindsOwn : Step
  BeginsTime : Step
  LooksUp : Step
  AsksEvents : Step
  Looks : Step
  SeeksBuffer : Step

-- the place of a step among those of one start: they are done by rising places
abbrev pub place : Step → ℕ
place FindsEarlier = 0
place FindsOwn = 1
place BeginsTime = 2
place LooksUp = 3
place AsksEvents = 4
place Looks = 5
place SeeksBuffer = 6

abbrev pub is_due : Starting → Step → Bool
is_due s FindsEarlier = s.finds_earlier
is_due s FindsOwn = s.finds_own
is_due s BeginsTime = s.begins_time
is_due s LooksUp = s.looks_up
is_due s AsksEvents = s.asks_events
is_due s Looks = s.looks
is_due s SeeksBuffer = s.seeks_buffer

-- nothing is to be done
abbrev pub nothing : Starting
nothing = record {
  finds_earlier = false;
  finds_own = false;
  begins_time = false;
  looks_up = false;
  asks_events = false;
  looks = false;
  seeks_buffer = false;
}

-- as the core has let it start: those accepted before it find their files, whose turn that is, since what it opens or closes comes after them; then it finds its own, if these weren't looked for as it was accepted; the time begins that is told by its start; and the path that it opens is looked up, if that may name a pipe for which it waits
abbrev pub at_start : Submission → (how : ℕ) → (is_sought : Bool) → Starting
at_start e how is_sought = record nothing {
  finds_earlier = true;
  finds_own = not is_sought;
  begins_time = true;
  looks_up = looks_at_path e how;
}

-- whether a poll asks for its events: unless it has failed by then
abbrev pub starts_poll : Needs → ℤ → Bool
starts_poll n fault = n.is_poll && int_eq fault (pos 0)

-- whether a provided buffer is looked for as a request starts: it is to take one, and may have to wait for its descriptor. Another looks for one as it is carried out. What Linux 6.18 was seen to do
abbrev pub seeks_buffer_at_start : RequestStanding → Needs → Bool
seeks_buffer_at_start s n = n.selects && s.is_stream

-- after that, with the fault of its files, or 0: a poll asks for its events; the descriptor of one that may have to wait is looked at, so that what is there is known to have been there; and its buffer is looked for
abbrev pub after_files : RequestStanding → Needs → (fault : ℤ) → Starting
after_files s n fault = record nothing {
  asks_events = starts_poll n fault;
  looks = polls s;
  seeks_buffer = seeks_buffer_at_start s n;
}

-- what is done as it starts comes before what is asked then, which rests on its files
abbrev pub AsksAfterItsFiles : Type 0
AsksAfterItsFiles = (e : Submission) (how : ℕ) (is_sought : Bool) (s : RequestStanding) (n : Needs) (fault : ℤ) (first second : Step)
    → is_due (at_start e how is_sought) first ≡ true → is_due (after_files s n fault) second ≡ true
    → nat_lt (place first) (place second) ≡ true

-- whether a core lets a request start, by the number of the reason why it stands as it does, as `c/include/wulgach.h` has them: it may start (6), or it is doomed (4), so that its issue ends it. One that was never accepted (1), has ended (2), runs (3) or waits for another (5) it doesn't
abbrev pub lets_start : ℕ → Bool
lets_start why = why == 6 || why == 4
