-- Whole calls: rows of steps that are made at once. Each step in a row is answered as it is called for; which rows there are is our own rule.
use Rattle.std.specs.Prelude.{◌≡◌, ℕ, zero, suc, ◌+◌, ◌-◌, nat_lt, length, List, [], ◌∷◌, Option, Some, None, Result, Ok, Err, is_some, if◌then◌else◌}
use Rattle.uring_entry.specs.Setup.{Setup}
use Rattle.uring_entry.specs.IndexWords.{word_of}
use Rattle.uring_entry.specs.Layout.{Sqe, Cqe}
use Rattle.uring_entry.specs.Submission.{staged, taken, call_length}
use Rattle.uring_core.specs.World.{World}
use Rattle.uring_core.specs.StepAnswers.{fill_answer, index_answer, take_answer}
use Rattle.uring_core.specs.Histories.{History, world}
use Rattle.uring_core.specs.declared.step.Step.TheVariants as step
use Rattle.uring_core.specs.declared.answer.Answer.{Answer}
use Rattle.uring_core.specs.declared.answer.Answer.TheVariants as answer
use Rattle.uring_core.specs.declared.cores.submit.NotSubmitted.{NotSubmitted}
use Rattle.uring_core.specs.declared.cores.submit.NotSubmitted.TheVariants as refused

-- A submission call of entries.

-- the application loads the head
abbrev pub after_head : Setup → History → History
after_head g h = (step.LoadHead, answer.Head (word_of g.start (taken (world g h).submission))) ∷ h

-- it fills a slot, and stages a word
abbrev pub after_fill : Setup → ℕ → Sqe → History → History
after_fill g slot entry h = (step.Fill slot entry, fill_answer g (world g h) slot) ∷ h

abbrev pub after_index : Setup → ℕ → History → History
after_index g word h = (step.Index word, index_answer g (world g h)) ∷ h

-- it puts these entries in, each into the slot of its place from this slot on: each is filled, and its slot staged
abbrev pub after_entries : Setup → ℕ → List Sqe → History → History
after_entries g slot [] h = h
after_entries g slot (entry ∷ later) h =
    after_entries g (slot + 1) later (after_index g slot (after_fill g slot entry h))

-- it publishes what is staged
abbrev pub after_tail : Setup → History → History
after_tail g h = (step.StoreTail, answer.Tail (word_of g.start (staged (world g h).submission))) ∷ h

-- the application's part of the call
abbrev pub after_published : Setup → List Sqe → History → History
after_published g entries h = after_tail g (after_entries g 0 entries (after_head g h))

-- the dispatcher opens the call
abbrev pub after_begin : Setup → ℕ → History → History
after_begin g count h =
    (step.Begin count, answer.Call (call_length (world g h).submission count)) ∷ h

-- it takes so many positions
abbrev pub after_takes : Setup → ℕ → History → History
after_takes g zero h = h
after_takes g (suc n) h =
    (step.Take, take_answer (world g (after_takes g n h))) ∷ after_takes g n h

-- the dispatcher's part of a call of so many entries, up to its close
abbrev pub after_taken : Setup → ℕ → History → History
after_taken g count h = after_takes g count (after_begin g count h)

-- why no step of the call is made: the ring is closed, a call is open, there are more entries than slots, or positions that were staged wait for a call
abbrev pub not_made : Setup → World → ℕ → Option NotSubmitted
not_made g w count =
    if w.is_closed then Some refused.Closed else
    if is_some w.submission.call then Some refused.InCall else
    if nat_lt g.sq count then Some refused.TooMany else
    if nat_lt 0 (staged w.submission - taken w.submission) then Some refused.Waits else
    None

-- no step was made if it was refused before, and then it says so; else it was made, or its Begin was refused
abbrev pub IsMadeAsTold : Option NotSubmitted → Result Answer NotSubmitted → Type 0
IsMadeAsTold (Some refusal) made = made ≡ Err refusal
IsMadeAsTold None (Ok _) = Unit {0}
IsMadeAsTold None (Err (refused.Begin refusal)) = Unit {0}
IsMadeAsTold None (Err _) = ⊥

-- What was made of a call that was refused: nothing, or all of the application's part, if it is the Begin that was refused.
abbrev pub after_refused : Setup → List Sqe → NotSubmitted → History → History
after_refused g entries (refused.Begin refusal) h =
    (step.Begin (length entries), refusal) ∷ after_published g entries h
after_refused g entries _ h = h

-- All completions that the ring shows.

-- the application loads the tail
abbrev pub after_cq_tail : Setup → History → History
after_cq_tail g h = (step.LoadCqTail, answer.Tail (word_of g.start (world g h).completions.put)) ∷ h

-- it reaps these
abbrev pub after_reaps : List Cqe → History → History
after_reaps [] h = h
after_reaps (completion ∷ later) h =
    after_reaps later ((step.Reap, answer.Reaped completion) ∷ h)

-- it stores the head
abbrev pub after_cq_head : Setup → History → History
after_cq_head g h =
    (step.StoreCqHead, answer.Head (word_of g.start (length (world g h).completions.reaped))) ∷ h

-- it loads the tail, reaps these, and stores the head
abbrev pub after_reap_all : Setup → List Cqe → History → History
after_reap_all g completions h = after_cq_head g (after_reaps completions (after_cq_tail g h))
