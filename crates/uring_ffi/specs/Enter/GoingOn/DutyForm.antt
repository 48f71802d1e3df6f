-- What a call does besides what it is asked for, in words that C can read.
use Rattle.std.specs.Prelude.{ℕ, ◌^◌, Bool, Option, Some, None, if◌then◌else◌}
use Rattle.std.specs.Int.RustNames.{bit_or}
use Rattle.uring_enter.specs.declared.going_on.duties.Duties.{Duties}
use Rattle.uring_enter.specs.GoingOn.Duties.{Duty, LooksAfresh, HearsPipes, PassesTime, FindsFiles, KeepsNew, HoldsFiles, WatchesPipes, LetsLie, ShowsEnds, TellsReadiness, HearsApplication, ShowsFlags, TellsEventfd, place, is_due, at_reply}
use Rattle.uring_enter.specs.declared.call.reply.Reply.{Reply}

-- the bit of a duty, where it is due, is 2 to the power of its place: so duties are done by rising bits. Our own rule
abbrev pub bit : Duties → Duty → ℕ
bit d duty = if is_due d duty then 2 ^ place duty else 0

abbrev pub word_of_duties : Duties → ℕ
word_of_duties d =
    bit_or (bit_or (bit_or (bit_or (bit_or (bit_or (bit_or (bit_or (bit_or (bit_or (bit_or (bit_or
    (bit d LooksAfresh) (bit d HearsPipes)) (bit d PassesTime)) (bit d FindsFiles)) (bit d KeepsNew)) (bit d HoldsFiles))
    (bit d WatchesPipes)) (bit d LetsLie)) (bit d ShowsEnds)) (bit d TellsReadiness))
    (bit d HearsApplication)) (bit d ShowsFlags)) (bit d TellsEventfd)

-- words that give no reply call for nothing
abbrev pub duties_at_reply_of : Option Reply → (has_ends : Bool) → ℕ
duties_at_reply_of None has_ends = 0
duties_at_reply_of (Some told) has_ends = word_of_duties (at_reply told has_ends)
