-- Where submission calls end, by the events: in a ring that stops, and in one that goes on.
use Rattle.std.specs.Prelude.{◌≡◌, ◌↔◌, ℕ, Bool, true, false, ◌⊎◌, take, count_by, Some, is_some}
use Rattle.uring_entry.specs.Setup.{Setup}
use Rattle.uring_core.specs.StepAnswers.{take_answer, end_answer}
use Rattle.uring_core.specs.Histories.{Event, History, world, IsLawfulApart}
use Rattle.uring_core.specs.Events.{opened_by, closes_call}
use Rattle.uring_laws.specs.Direct.{told, last_told, taken_since, has_stopped, call_counts}
use Rattle.uring_core.specs.declared.step.Step.TheVariants as step
use Rattle.uring_core.specs.declared.answer.Answer.TheVariants as answer

-- The open call, which opened with so many positions, takes no more exactly if it took them all, or a position after which it stops; and exactly then it may close. io_uring_setup(2), IORING_SETUP_SUBMIT_ALL
pub record EndsThere (g : Setup) (h : History) (opened : ℕ) : Type 0 where
  pub no_more : (take_answer (world g h) ≡ answer.NoMore)
      ↔ ((taken_since h ≡ opened) ⊎ (has_stopped g h ≡ true))
  pub closes : (end_answer g (world g h) ≡ answer.NotAll → ⊥)
      ↔ (take_answer (world g h) ≡ answer.NoMore)

-- It is so of each call that is open in a lawful history.
abbrev pub OpenCallEndsThere : Setup → Type 0
OpenCallEndsThere g = (h : History) (opened : ℕ) → IsLawfulApart g h
    → is_some (world g h).submission.call ≡ true → last_told opened_by h ≡ Some opened
    → EndsThere g h opened

-- whether a call takes a position whose word names no slot
abbrev pub drops_word : Event → Bool
drops_word (step.Take, answer.Dropped) = true
drops_word _ = false

-- In a ring that goes on, each call that closed took as many positions as it opened with, by Linux's rules if no word was dropped.
abbrev pub CallsTakeAll : Setup → Type 0
CallsTakeAll g = (h : History) → g.stops ≡ false → (g.linux ≡ true → count_by drops_word h ≡ 0)
    → IsLawfulApart g h → call_counts h ≡ take (count_by closes_call h) (told opened_by h)
