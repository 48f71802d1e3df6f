-- What a step makes of the entries and cuts that are kept.
use Rattle.std.proofs.Common.{◌≡◌, ℕ, ◌+◌, ◌<◌, false, List, [], ◌∷◌, ◌++◌, length, take, Option, Some, None, refl, arith}
use Rattle.uring_pictures.proofs.Common.{Accepted, Event, HasAll, History, MakesStep, Requests, Setup, Sqe, entry_outstanding, has_ended, length-append, requests_at, take-append-le, take_all, take_more, with_call, world}
use Rattle.std.specs.Option.{option_to_list}
use Rattle.uring_entry.specs.Submission.{Call, entries_from}
use Rattle.uring_core.specs.World.{World, ending}
use Rattle.uring_core.specs.StepAnswers.{end_answer_in}
use Rattle.uring_core.specs.declared.step.Step.{Step}
use Rattle.uring_core.specs.declared.step.Step.TheVariants as step
use Rattle.uring_core.specs.declared.answer.Answer.{Answer}
use Rattle.uring_core.specs.declared.answer.Answer.TheVariants as answer
use Rattle.uring_core.proofs.Moves.{move_of}
use Rattle.uring_core.proofs.Sound.{sound_of}
use Rattle.uring_core.proofs.SoundRequests.{IsSoundRequests}
use Rattle.uring_machine.specs.Machine.{Fits}

-- no call closes by this step
abbrev pub ClosesNone : Step → Answer → Type 0
ClosesNone s a = (accepted missed head : ℕ) → s ≡ step.End → a ≡ answer.Taken accepted missed head → ⊥

-- the entries that the machine has accepted since were added
abbrev pub AddsAll : Accepted → Accepted → Type 0
AddsAll old new = (h : History) → Fits new.machine h → HasAll old.entries.items (requests_at new h)
    → new.entries.items ≡ (requests_at new h).accepted

-- and that a call closed
abbrev pub AddsCut : Accepted → Accepted → Type 0
AddsCut old new = (h : History) → Fits new.machine h
    → new.cuts.items ≡ old.cuts.items ++ length (requests_at new h).accepted ∷ []

-- the end of a call accepts the entries that it took
closed_by : (g : Setup) (w : World) (call : Option Call) (accepted missed head : ℕ) → w.submission.call ≡ call
    → answer.Taken accepted missed head ≡ end_answer_in g w call
    → (entries : List Sqe) × ((ending g w (answer.Taken accepted missed head)).requests ≡ with_call w.requests entries)
closed_by g w None accepted missed head opened is = absurd cc
closed_by g w (Some call) accepted missed head opened is = (entries_from w.submission call.count, rw opened)

-- the entries that are kept, seen from the requests after the call: what wasn't accepted hasn't ended
has_all : (r : Requests) (more : List Sqe) → IsSoundRequests r → HasAll r.accepted (with_call r more)
has_all r more sound =
    grind (arith, sound, take_all, (take-append-le (length r.accepted) r.accepted more), (length-append r.accepted more))

-- a step by which a call closes, whose entries are added
pub call_made : (old new : Accepted) (s : Step) (a : Answer) (accepted missed head : ℕ) → s ≡ step.End
    → a ≡ answer.Taken accepted missed head → new.machine.core.setup ≡ old.machine.core.setup
    → ((k : History) → Fits old.machine k → Fits new.machine ((s, a) ∷ k))
    → AddsAll old new → AddsCut old new → MakesStep old new s
call_made old new s a accepted missed head ends is same fits adds marks = record {
  answer = a;
  same = same;
  keeps = λ h k.
      let e : Event = (step.End, answer.Taken accepted missed head) in
      let now : Fits new.machine (e ∷ h) = rw (ends, is) at (fits h k.fits) in
      let w : World = world new.machine.core.setup h in
      let before : old.entries.items ≡ w.requests.accepted = cc (k.entries, same) in
      let more = closed_by new.machine.core.setup w w.submission.call accepted missed head refl now.core.lawful.0 in
      let sound = sound_of new.machine.core.setup h now.core.lawful.1 in
      let all : HasAll old.entries.items (requests_at new (e ∷ h)) = rw (more.1, before) (has_all w.requests more.0 sound.requests) in
      let marked = marks (e ∷ h) now in
      rw (ends, is) (record { fits = now; entries = adds (e ∷ h) now all; cuts = grind (arith, marked, k.cuts, same, more.1) });
}

-- a step by which none closes
pub step_made : (old new : Accepted) (s : Step) (a : Answer) → new.machine.core.setup ≡ old.machine.core.setup
    → ((k : History) → Fits old.machine k → Fits new.machine ((s, a) ∷ k))
    → new.entries.items ≡ old.entries.items → new.cuts.items ≡ old.cuts.items → ClosesNone s a
    → MakesStep old new s
step_made old new s a same fits kept marked none = record {
  answer = a;
  same = same;
  keeps = λ h k.
      let now : Fits new.machine ((s, a) ∷ h) = fits h k.fits in
      let moved = move_of new.machine.core.setup s a h now.core.lawful in
      grind (arith, now, moved, none, k.entries, k.cuts, kept, marked, same);
}

-- One entry more.

pub entry_added : (r : Requests) (n : ℕ) (so after : List Sqe) (found : Option Sqe)
    → so ≡ take n r.accepted → after ≡ so ++ option_to_list found → found ≡ entry_outstanding r n
    → n < length r.accepted → has_ended r n ≡ false → after ≡ take (n + 1) r.accepted
entry_added r n so after found front is has within opened = grind (arith, take_more)
