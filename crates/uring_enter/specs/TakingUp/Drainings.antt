-- Which outstanding requests drain, by what has happened, the newest first. io_uring_enter(2), IOSQE_IO_DRAIN. That a completion which belongs to no end of a request waits after them by the manual pages' rules is our own rule: it is a request of its own to the core, and so would wait. By Linux's rules it is a request whose entry has a fault, and so waits for no drain.
use Rattle.std.specs.Prelude.{◌≡◌, ℕ, ◌+◌, ◌-◌, Bool, true, false, not, ◌&&◌, ◌||◌, ◌==◌, ◌⊎◌, length, List, [], ◌∷◌, if◌then◌else◌}
use Rattle.uring_enter.specs.TakingUp.CoreEntries.{is_drain}
use Rattle.uring_operations.specs.Calls.Means.{changes_slots}
use Rattle.uring_operations.specs.declared.requests.act.Fact.{Fact}
use Rattle.uring_operations.specs.Requests.Courses.{has_started}
use Rattle.uring_operations.specs.declared.entries.submission.Submission.{Submission}
use Rattle.uring_enter.specs.declared.taking_up.drains.Chain.{Chain}
use Rattle.uring_enter.specs.declared.taking_up.drains.Drains.{Drains}
use Rattle.uring_enter.specs.declared.taking_up.drains.WhenFound.{WhenFound}
use Rattle.uring_enter.specs.declared.taking_up.drains.WhenFound.TheVariants.{AtItsStart, ByTheCall, InItsTurn, AsksStart}
use Rattle.uring_operations.specs.declared.chains.member.Member.{Member}

pub data Drainage : Type 0 where
  -- a chain was accepted, whose members have these flags
  Accepted : List ℕ → Drainage
  -- a request has ended, which drains or doesn't
  Ended : Bool → Drainage

-- whether a chain drains whose members have these flags: one has IOSQE_IO_DRAIN
abbrev pub drains : List ℕ → Bool
drains [] = false
drains (flags ∷ others) = is_drain flags || drains others

-- how many outstanding requests drain: a drain makes its whole chain drain
abbrev pub outstanding : List Drainage → ℕ
outstanding [] = 0
outstanding (Accepted members ∷ earlier) =
    if drains members then outstanding earlier + length members else outstanding earlier
outstanding (Ended is_draining ∷ earlier) =
    if is_draining then outstanding earlier - 1 else outstanding earlier

-- whether a drain was ever accepted: else nobody waits but after a link
abbrev pub has_drained : List Drainage → Bool
has_drained [] = false
has_drained (Accepted members ∷ earlier) = drains members || has_drained earlier
has_drained (Ended is_draining ∷ earlier) = has_drained earlier

-- whether such a completion may be posted: nothing that drains is outstanding, unless the ring goes by Linux's rules, nothing is staged that no call has taken, and there is memory for it. Where that is refused, what it tells of waits, and none is lost. Our own rule
abbrev pub may_post : List Drainage → ℕ → (linux has_memory : Bool) → Bool
may_post log staged linux has_memory = (linux || outstanding log == 0) && (staged == 0 && has_memory)

-- whether the call that takes a request finds its files and its buffer: nothing links it, and no drain was ever accepted; or nothing that drains is outstanding, itself among that, unless the ring goes by Linux's rules, and the core lets it start. Another finds them when it starts, and so may use a file that those before it open. What the kernel does
abbrev pub finds_file : List Drainage → Member → (linux may_start : Bool) → Bool
finds_file log request linux may_start =
    not request.is_linked && (not (has_drained log) || (linux || outstanding log == 0) && may_start)

-- by the call, but after a request of it that may change slots each in its turn: the kernel begins the requests of a call in their order, and carries out at once what need not wait. So after a close of a slot in one call none finds its file, and after an update one finds the new one
abbrev pub by_call : (after_change : Bool) → WhenFound
by_call after_change = if after_change then InItsTurn else ByTheCall

-- whether one of these entries, which stand before a request in its call, may change slots
abbrev pub may_change_slots : List Submission → Bool
may_change_slots [] = false
may_change_slots (entry ∷ earlier) = changes_slots entry || may_change_slots earlier

-- the same, as far as it is known whether the core lets it start: that is asked only where it matters
abbrev pub when_found : List Drainage → Member → (linux after_change knows_start may_start : Bool) → WhenFound
when_found log request linux after_change knows_start may_start =
    if request.is_linked then AtItsStart else
    if not (has_drained log) then by_call after_change else
    if not linux && not (outstanding log == 0) then AtItsStart else
    if not knows_start then AsksStart else
    if may_start then by_call after_change else AtItsStart

-- files are found by the call exactly if they are to be, whatever was known; and what is known isn't asked
abbrev pub FindsInTime : Type 0
FindsInTime = (log : List Drainage) (request : Member) (linux after_change may_start : Bool)
    → (when_found log request linux after_change true may_start ≡ (if finds_file log request linux may_start then by_call after_change else AtItsStart))
    × ((known : Bool) → when_found log request linux after_change false known ≡ AsksStart ⊎ when_found log request linux after_change false known ≡ when_found log request linux after_change true may_start)

-- whether the oldest request that is outstanding, to which this has happened, is the next that starts: it hasn't started, and waits for none before it. By Linux's rules a drain, and what comes after one, is put off, and waits for a turn of its own: so once one was accepted the core is asked which request can start
abbrev pub oldest_starts : List Drainage → (linux : Bool) → List Fact → Bool
oldest_starts log linux facts = not (has_started facts) && (not linux || not (has_drained log))

-- whether it may be kept which requests the core lets start: no drain was ever accepted. Then nobody is put off, so that one can start as soon as what links it has ended; that others start or end makes nothing of it, but as `lets_others_start` says. How often the core is asked is our own rule
abbrev pub keeps_startable : List Drainage → Bool
keeps_startable log = not (has_drained log)

-- whether the end of a request may let others start than the next of its chain: by the manual pages' rules a failure dooms all after it in its chain, and a cancel those that it finds, and what is doomed can be issued at once. By Linux's it ends in its turn
abbrev pub lets_others_start : (linux has_failed is_cancel : Bool) → Bool
lets_others_start linux has_failed is_cancel = not linux && (has_failed || is_cancel)

-- else a request is waited for by the next of its chain alone, which is the next in order of those that are left: so of that one the core is asked, unless it has started or is known to start
abbrev pub asks_next : (has_started can_start : Bool) → Bool
asks_next has_started can_start = not has_started && not can_start

-- glue: what is kept of a chain is that of members with these flags
pub record KeepsChain (members : List ℕ) (c : Chain) : Type 0 where
  pub count : c.members ≡ length members
  pub drains : c.drains ≡ drains members

-- glue: what is kept is that of a ring to which this has happened
pub record KeepsDrains (log : List Drainage) (d : Drains) : Type 0 where
  pub outstanding : d.outstanding ≡ outstanding log
  pub drained : d.has_drained ≡ has_drained log
