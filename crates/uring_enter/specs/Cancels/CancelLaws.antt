-- What holds of every cancel, whatever it looks at. io_uring_enter(2), IORING_OP_ASYNC_CANCEL.
use Rattle.std.specs.Prelude.{◌≡◌, ◌==◌, ◌&&◌, not, ◌≤◌, ℕ, Bool, true, false, List, ◌∷◌}
use Rattle.uring_enter.specs.declared.cancels.cancel.Sought.{Sought}
use Rattle.uring_enter.specs.declared.cancels.cancel.Outstanding.{Outstanding}
use Rattle.uring_enter.specs.Cancels.Cancels.{is_of_all, goes_by_user_data, fits, asks_file, can_be_found, finds_any, is_cancelled, count_of, is_asked, asks_wait, is_meant, is_ever_found, oldest, is_stopped}

-- what is cancelled fits, and can be found
abbrev pub CancelsWhatFits : Type 0
CancelsWhatFits = (s : Sought) (earlier : List Outstanding) (r : Outstanding) → is_cancelled s earlier r ≡ true
    → (fits s r ≡ true) × (can_be_found r ≡ true)

-- a cancel of all cancels all that does
abbrev pub CancelsAllThatFit : Type 0
CancelsAllThatFit = (s : Sought) (earlier : List Outstanding) (r : Outstanding) → is_of_all s ≡ true
    → fits s r ≡ true → can_be_found r ≡ true → is_cancelled s earlier r ≡ true

-- another cancels the first that does, and no more than one
abbrev pub CancelsTheFirst : Type 0
CancelsTheFirst = (s : Sought) (earlier : List Outstanding) → is_of_all s ≡ false
    → ((r : Outstanding) → is_cancelled s earlier r ≡ true → finds_any s earlier ≡ false)
    × (count_of s earlier ≤ 1)

-- no cancel cancels another, nor a timeout that is linked to a request, whatever it looks for
abbrev pub PassesOverLinked : Type 0
PassesOverLinked = (s : Sought) (earlier : List Outstanding) (r : Outstanding) → is_ever_found r ≡ false
    → (is_cancelled s earlier r ≡ false)
    × ((user_data : ℕ) → (is_stopped user_data earlier r ≡ false) × (oldest user_data (r ∷ earlier) ≡ oldest user_data earlier))

-- where it isn't asked whether a request could start, it doesn't matter
abbrev pub AsksWhatMatters : Type 0
AsksWhatMatters = (s : Sought) (earlier : List Outstanding) (r : Outstanding) → is_asked s earlier r ≡ false
    → is_cancelled s earlier (record r { may_start = true }) ≡ is_cancelled s earlier (record r { may_start = false })

-- nor whether it has to wait, where that isn't asked
abbrev pub AsksWaitWhereItMatters : Type 0
AsksWaitWhereItMatters = (user_data : ℕ) (r : Outstanding) (one other : Bool) → asks_wait r ≡ false
    → (can_be_found (record r { is_ready = one }) ≡ can_be_found (record r { is_ready = other }))
    × (is_meant user_data (record r { is_ready = one }) ≡ is_meant user_data (record r { is_ready = other }))

-- nothing is found that was issued first, but where it runs, and has to wait or goes on
abbrev pub FindsFirstThatWait : Type 0
FindsFirstThatWait = (s : Sought) (earlier : List Outstanding) (r : Outstanding) → r.comes_first ≡ true
    → is_cancelled s earlier r ≡ true → (r.runs ≡ true) × ((r.is_ready && not r.goes_on) ≡ false)

-- nor where it isn't asked on which file one is carried out
abbrev pub AsksFileWhereItMatters : Type 0
AsksFileWhereItMatters = (s : Sought) (r : Outstanding) (compared same compared_else same_else : Bool) → asks_file s r ≡ false
    → fits s (record r { is_compared = compared; is_same = same }) ≡ fits s (record r { is_compared = compared_else; is_same = same_else })

-- by user data a request with other user data is never cancelled, and changes nothing for those after it: so a cancel need be shown those alone that have its own
abbrev pub PassesOverOthers : Type 0
PassesOverOthers = (s : Sought) (earlier : List Outstanding) (r : Outstanding) → goes_by_user_data s ≡ true
    → (r.user_data == s.user_data) ≡ false
    → (is_cancelled s earlier r ≡ false)
    × ((finds_any s (r ∷ earlier) ≡ finds_any s earlier) × (count_of s (r ∷ earlier) ≡ count_of s earlier))

-- nor does a search look at one, where the core has found one that runs
abbrev pub SearchPassesOverOthers : Type 0
SearchPassesOverOthers = (user_data : ℕ) (earlier : List Outstanding) (r : Outstanding)
    → (r.user_data == user_data) ≡ false
    → (is_stopped user_data earlier r ≡ false) × (oldest user_data (r ∷ earlier) ≡ oldest user_data earlier)

-- nor at one that doesn't run: it waits for others, and no cancel of the core's that has found one that runs ends it
abbrev pub SearchPassesOverWaiting : Type 0
SearchPassesOverWaiting = (user_data : ℕ) (earlier : List Outstanding) (r : Outstanding) → r.runs ≡ false
    → (is_stopped user_data earlier r ≡ false) × (oldest user_data (r ∷ earlier) ≡ oldest user_data earlier)
