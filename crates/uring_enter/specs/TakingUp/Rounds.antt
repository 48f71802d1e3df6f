-- What the thread that takes entries takes, by the rounds so far, the newest first. io_uring_setup(2), IORING_SETUP_SQPOLL, but where the kernel or our own rule is named.
use Rattle.std.specs.Prelude.{◌≡◌, ℕ, ℤ, pos, Bool, false, not, ◌&&◌, ◌||◌, nat_lt, Option, Some, None, List, [], ◌∷◌, if◌then◌else◌}
use Rattle.uring_entry.specs.Errors.{error}
use Rattle.uring_enter.specs.declared.taking_up.rounds.Round.{Round}
use Rattle.uring_enter.specs.declared.taking_up.rounds.Rounds.{Rounds}

-- how many positions a round takes at most: all that is published, however many the call was asked to submit, which is what the kernel does. Index words count no more
abbrev pub most_of_a_round : ℕ
most_of_a_round = 4294967295

-- a round takes a position, be it one whose word names no slot
abbrev pub takes_any : Round → Bool
takes_any round = not round.is_refused && nat_lt 0 round.positions

abbrev pub has_taken : List Round → Bool
has_taken [] = false
has_taken (round ∷ earlier) = takes_any round || has_taken earlier

-- what the submission comes to. After a round that took a position there is one more, since what is published after it is taken too; and the call returns what it was asked to submit, whatever was taken: both are what the kernel does. That -11 (EAGAIN) comes only if memory was refused before any was taken is our own rule: the kernel's thread tries again
abbrev pub returned : ℕ → List Round → Option ℤ
returned to_submit [] = None
returned to_submit (round ∷ earlier) =
    if takes_any round then None else
    if round.is_refused && not (has_taken earlier) then Some (error 11) else
    Some (pos to_submit)

-- glue: what is kept of a call whose rounds came to these
pub record KeepsRounds (asked : ℕ) (log : List Round) (r : Rounds) : Type 0 where
  pub to_submit : r.to_submit ≡ asked
  pub has_taken : r.has_taken ≡ has_taken log
