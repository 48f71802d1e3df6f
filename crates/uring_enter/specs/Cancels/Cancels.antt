-- What a cancel finds among the requests that haven't ended. io_uring_enter(2), IORING_OP_ASYNC_CANCEL, but where our own rule is named.
use Rattle.std.specs.Prelude.{◌≡◌, ℕ, ℤ, pos, ◌+◌, ◌-◌, ◌^◌, Bool, true, false, not, ◌&&◌, ◌||◌, ◌==◌, nat_lt, min, Option, Some, None, List, [], ◌∷◌, if◌then◌else◌}
use Rattle.uring_enter.specs.declared.cancels.cancel.Sought.{Sought}
use Rattle.uring_enter.specs.declared.cancels.cancel.Outstanding.{Outstanding}
use Rattle.uring_enter.specs.declared.cancels.cancel.Cancel.{Cancel}
use Rattle.uring_enter.specs.declared.cancels.search.Search.{Search}
use Rattle.uring_entry.specs.Errors.{error}
use Rattle.std.specs.Ordering.{int_eq}

-- whether a cancel is of all that it finds
abbrev pub is_of_all : Sought → Bool
is_of_all s = s.is_all || s.is_any

-- whether a cancel looks for user data, and not for any or by what a request is carried out on
abbrev pub goes_by_user_data : Sought → Bool
goes_by_user_data s = not s.is_any && not s.is_by_fd

-- whether the entry of a request names what a cancel looks for: by the same descriptor, or by the same slot
abbrev pub is_named : Sought → Outstanding → Bool
is_named s r = (if s.is_fixed then r.is_registered else not r.is_registered) && r.fd == s.fd

-- whether a request is carried out on the file that a cancel looks for by a descriptor, or by a slot: however it is named, as by a duplicate, or by a number that was another file's before. What Linux 6.18 does, and so is that one which is carried out on no file isn't, whatever its entry names. Where it can't be told whether it is the same file, it is taken to be what is named alike: our own rule
abbrev pub fits_fd : Sought → Outstanding → Bool
fits_fd s r =
    if not r.needs_file || not r.is_assigned then false else
    if r.is_compared then r.is_same else is_named s r

-- whether it matters if a request is carried out on the file that is looked for: to a cancel by a descriptor or a slot, of one that is carried out on a file, which is known
abbrev pub asks_file : Sought → Outstanding → Bool
asks_file s r = s.is_by_fd && not s.is_any && r.needs_file && r.is_assigned

-- whether a request is what a cancel looks for: any, by what it is carried out on, or by its user data; and of one operation, where it looks for that alone
abbrev pub fits : Sought → Outstanding → Bool
fits s r =
    if s.is_of_operation && not (r.code == s.code) then false else
    if s.is_any then true else
    if s.is_by_fd then fits_fd s r else
    r.user_data == s.user_data

-- whether any cancel finds a request of this operation, of these that are carried out outside of the core: none finds another cancel (14), nor a timeout that is linked to a request (15). What Linux 6.18 does
abbrev pub is_ever_found : Outstanding → Bool
is_ever_found r = not (r.code == 14 || r.code == 15)

-- whether a cancel may choose a request: no other has
abbrev pub is_free : Outstanding → Bool
is_free r = r.is_token && not r.is_cancelled && is_ever_found r

-- whether a request that runs waits for something: for its descriptor, or as a timeout (11)
abbrev pub is_waiting : Outstanding → Bool
is_waiting r = r.is_stream || r.code == 11

-- whether a kernel takes the entry of a request only after a cancel that is carried out as its own is taken: one that was submitted after it, where the cancel is after no link and doesn't drain. What Linux 6.18 does
abbrev pub is_taken_after : (cancel : ℕ) → (is_linked drains : Bool) → (number : ℕ) → Bool
is_taken_after cancel is_linked drains number = not is_linked && not drains && nat_lt cancel number

-- whether a request finds others, and a kernel carries it out once all of its own submission that can start was issued: a cancel or a removal (14, 7, 12) after a link. What Linux 6.18 does
abbrev pub comes_late : (code : ℕ) → (is_linked : Bool) → Bool
comes_late code is_linked = is_linked && (code == 7 || code == 12 || code == 14)

-- whether a kernel issues a request before one that comes late, though it was submitted after it, in the same submission or not
abbrev pub is_issued_before : (code cancel : ℕ) → (is_linked is_same : Bool) → (number : ℕ) → Bool
is_issued_before code cancel is_linked is_same number = comes_late code is_linked && is_same && nat_lt cancel number

-- whether a request is to start before a cancel, if it may: a kernel issues it first, and it hasn't started. What the core ends by itself, as another cancel, has its own turn: our own rule
abbrev pub is_due_first : Outstanding → Bool
is_due_first r = r.comes_first && r.is_token && not r.runs

-- whether it matters to a cancel if a request has to wait: of one that was issued first, and ends with what it brings
abbrev pub asks_wait : Outstanding → Bool
asks_wait r = r.comes_first && r.runs && not r.goes_on

-- whether a kernel has ended a request before the cancel: it was issued first, and needn't wait
abbrev pub has_ended_first : Outstanding → Bool
has_ended_first r = asks_wait r && r.is_ready

-- whether a cancel finds a request as it stands: one that runs, where it waits for something and has not ended first; another, where it could start now, and was not issued first
unfoldable pub is_open : Outstanding → Bool
is_open r = if r.runs then is_waiting r && not (has_ended_first r) else r.may_start && not r.comes_first

-- whether a request can be found at all: it waits for something, or could start now, before the cancel. One after a link or a drain can't; nor can one that was issued first, but where it has to wait or goes on. What the kernel does
abbrev pub can_be_found : Outstanding → Bool
can_be_found r = is_free r && is_open r

-- whether any of these fits and can be found
abbrev pub finds_any : Sought → List Outstanding → Bool
finds_any s [] = false
finds_any s (r ∷ earlier) = (fits s r && can_be_found r) || finds_any s earlier

-- whether a request is cancelled, after those that were looked at before: it fits and can be found, and the cancel is of all, or found none before
abbrev pub is_cancelled : Sought → List Outstanding → Outstanding → Bool
is_cancelled s earlier r = (is_of_all s || not (finds_any s earlier)) && fits s r && can_be_found r

abbrev pub one_more : ℕ → Bool → ℕ
one_more count counts = if counts then min (count + 1) (2 ^ 32 - 1) else count

-- how many are cancelled
abbrev pub count_of : Sought → List Outstanding → ℕ
count_of s [] = 0
count_of s (r ∷ earlier) = one_more (count_of s earlier) (is_cancelled s earlier r)

-- what a cancel ends with: of all, how many it has cancelled; of one, 0, or -2 (ENOENT) if there was none
abbrev pub result_of : Sought → List Outstanding → ℤ
result_of s seen =
    if is_of_all s then pos (min (count_of s seen) (2 ^ 31 - 1)) else
    if finds_any s seen then pos 0 else error 2

-- whether it matters that a request could start now
abbrev pub is_asked : Sought → List Outstanding → Outstanding → Bool
is_asked s earlier r =
    (is_of_all s || not (finds_any s earlier)) && fits s r && is_free r && not r.runs && not r.comes_first

abbrev pub is_none : Option Outstanding → Bool
is_none None = true
is_none (Some _) = false

abbrev pub first_of : Option Outstanding → Bool → Outstanding → Option Outstanding
first_of (Some found) fits r = Some found
first_of None fits r = if fits then Some r else None

-- whether a cancel by user data looks for a request, where the core has found one that runs: for those that run, but not for one that has ended in a kernel by then
abbrev pub is_meant : ℕ → Outstanding → Bool
is_meant user_data r = r.user_data == user_data && is_ever_found r && r.runs && not (has_ended_first r)

-- the oldest of these that it looks for
abbrev pub oldest : ℕ → List Outstanding → Option Outstanding
oldest user_data [] = None
oldest user_data (r ∷ earlier) = first_of (oldest user_data earlier) (is_meant user_data r) r

-- whether a request is cancelled then: it is the oldest, and waits for something. One that is carried out isn't
abbrev pub is_stopped : ℕ → List Outstanding → Outstanding → Bool
is_stopped user_data earlier r =
    is_none (oldest user_data earlier) && is_meant user_data r && not r.is_cancelled && is_waiting r

-- whether the cancel has cancelled the one that it found: that waits, or another cancel has chosen it
abbrev pub has_cancelled : Option Outstanding → Bool
has_cancelled None = false
has_cancelled (Some r) = r.is_cancelled || is_waiting r

-- what the core has found by Linux's rules, of one that it has ended so: nobody (-2, ENOENT) if all that runs is of operations that no cancel finds, or has ended in a kernel by then. By the manual pages' rules they are found
abbrev pub found_by_core : ℤ → List Outstanding → ℕ → (linux : Bool) → ℤ
found_by_core res seen user_data linux =
    if linux && int_eq res (error 114) && is_none (oldest user_data seen) then error 2 else res

-- glue: a search that has looked at these, the newest first
pub record HasSought (user_data : ℕ) (seen : List Outstanding) (s : Search) : Type 0 where
  pub sought : s.user_data ≡ user_data
  pub found : not s.has_found ≡ is_none (oldest user_data seen)
  pub cancelled : s.has_cancelled ≡ has_cancelled (oldest user_data seen)

-- glue: a cancel that has looked at these, the newest first
pub record HasSeen (s : Sought) (seen : List Outstanding) (cancel : Cancel) : Type 0 where
  pub sought : cancel.sought ≡ s
  pub count : cancel.count ≡ count_of s seen
  pub none : (cancel.count == 0) ≡ not (finds_any s seen)
