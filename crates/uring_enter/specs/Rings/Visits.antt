-- When a message to another ring is posted there. IORING_OP_MSG_RING. Our own rules: the sender posts it, if nobody is in a call on that ring; else who is does, before anything goes on there.
use Rattle.std.specs.Prelude.{◌≡◌, ℤ, Bool, true, false, not, ◌&&◌, ◌||◌, if◌then◌else◌}
use Rattle.uring_enter.specs.declared.rings.message.Receiver.{Receiver}
use Rattle.uring_enter.specs.declared.rings.visit.Visit.{Visit}
use Rattle.uring_enter.specs.declared.rings.visit.Visit.TheVariants.{Nothing, Posts, Visits}
use Rattle.uring_entry.specs.Errors.{is_below}

-- whether a message is posted that a ring was sent, and the ring visited for that if nobody is in a call on it: there is one, and a completion may be posted. What has to wait, for a drain or for memory, is posted by who is in a call then. So none stays that came between another thread's last look and the end of its call
abbrev pub posts_message : (is_there may_post : Bool) → Bool
posts_message is_there may_post = is_there && may_post

-- what the sender of a message does that has come to this result: of one that failed nothing; it posts to its own ring, and goes to see another
abbrev pub visit_of : Receiver → ℤ → Visit
visit_of to res =
    if is_below res then Nothing else
    if to.is_sender then Posts else
    if to.is_ring then Visits else Nothing

-- whether a ring that another thread may have sent messages to is visited by who can have its lock, and once more after each visit: messages are there, which may have come since the last visit looked; and that has left none, or one that could be posted as it ended. What can't be posted then, for a drain or for want of memory, is posted by who is in a call once it can
abbrev pub visits_again : (is_there was_left could_post : Bool) → Bool
visits_again is_there was_left could_post = is_there && (not was_left || could_post)

-- where visits end with messages left, the last has left one that couldn't be posted: so no message that can be stays for want of a visit
abbrev pub StopsWhereNoneCanBePosted : Type 0
StopsWhereNoneCanBePosted = (was_left could_post : Bool) → visits_again true was_left could_post ≡ false
    → (was_left ≡ true) × (posts_message was_left could_post ≡ false)
