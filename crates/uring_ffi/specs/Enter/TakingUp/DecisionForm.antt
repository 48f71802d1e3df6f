-- When files are found, and what goes on in one choice, in words that C can read.
use Rattle.std.specs.Prelude.{ℕ, Bool, true, Option, Some, None}
use Rattle.uring_enter.specs.declared.call.asked.Policy.{Policy}
use Rattle.uring_enter.specs.declared.taking_up.drains.WhenFound.{WhenFound}
use Rattle.uring_enter.specs.declared.taking_up.drains.WhenFound.TheVariants.{AtItsStart, ByTheCall, InItsTurn, AsksStart}
use Rattle.uring_enter.specs.Call.Due.{is_one_choice}
use Rattle.uring_ffi_values.specs.LayerWords.EnterForm.{policy_of}

-- kinds count in the order of `WhenFound`, from 0. Our own rule
abbrev pub word_of_when : WhenFound → ℕ
word_of_when AtItsStart = 0
word_of_when ByTheCall = 1
word_of_when InItsTurn = 2
word_of_when AsksStart = 3

abbrev pub is_one_choice_by : Option Policy → Bool → Bool
is_one_choice_by None chooses_events = true
is_one_choice_by (Some policy) chooses_events = is_one_choice policy chooses_events

abbrev pub is_one_choice_of : ℕ → Bool → Bool
is_one_choice_of word chooses_events = is_one_choice_by (policy_of word) chooses_events
