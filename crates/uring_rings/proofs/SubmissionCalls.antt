-- What the submission calls take, and what their end leaves.
use Rattle.std.proofs.Common.{◌≡◌, ℕ, ◌+◌, ◌-◌, ◌%◌, ◌^◌, ◌<◌, ◌≤◌, length, get_or, cond, Option, Some, None, refl, sym, ◌∙◌, arith}
use Rattle.uring_rings.proofs.Common.{Call, Place, Setup, ShowsSubmission, Sq, Sqe, Submission, dropped, entries_of, length-drop, length-take-le, pending, place_of, places_from, progress, slice_get, taken, with_closed}
use Rattle.std.proofs.lemmas.List.Sums.{sum_by_push}
use Rattle.std.specs.Option.{option_map, IfSome}
use Rattle.uring_rings.specs.declared.answers.TakeAnswer.TheVariants.{Entry as Given, Dropped}
use Rattle.uring_rings.specs.declared.answers.EndAnswer.TheVariants.{Taken as Closed}
use Rattle.uring_rings.specs.declared.sq.OpenCall.{OpenCall}
use Rattle.uring_rings.specs.SqAnswers.{take_answer, taken_on, end_answer, closed_on}
use Rattle.uring_rings.proofs.Places.{entry_more, dropped_more, entries_and_dropped, dropped_beyond}
use Rattle.uring_rings.proofs.SubmissionWords.{reads_place}

-- An open call of the ring is the lists' open call.
is_open : (l : Submission) (c : OpenCall) (o : Option Call) → Some c ≡ option_map (progress l) o
    → IfSome o (λ call. (call.taken ≤ call.count) × (call.count ≤ pending l))
    → (call : Call) × (o ≡ Some call) × (c ≡ progress l call) × (call.taken ≤ call.count) × (call.count ≤ pending l)
is_open l c None is fits = cc
is_open l c (Some call) is fits = (call, refl, cc, fits.0, fits.1)

-- The open call's next position: its place, and what the call has taken before it.
pub record TakesPlace (g : Setup) (l : Submission) (c : OpenCall) (word : ℕ) : Type 0 where
  pub call : Call
  pub is : l.call ≡ Some call
  pub same : c ≡ progress l call
  pub less : call.taken < call.count
  pub ready : call.count ≤ pending l
  pub place : Place
  pub found : slice_get l.published (taken l + call.taken) ≡ Some place
  pub of_word : place ≡ place_of g.sq l.content word

pub takes_place : (g : Setup) (q : Sq) (l : Submission) (c : OpenCall) (word : ℕ)
    → ShowsSubmission g q l → q.call ≡ Some c → (c.taken ≡ c.count → ⊥)
    → get_or q.array ((q.head + c.taken) % 2 ^ 32 % q.size) 0 ≡ word → TakesPlace g l c word
takes_place g q l c word s is_call more read =
    let (call, is, same, within, ready) = is_open l c l.call (sym is_call ∙ s.call) s.call_fits in
    let r = reads_place g q l (taken l) q.head call.taken s s.head s.seen_first (grind arith) in
    grind (arith, r.found, s.places (taken l + call.taken) r.place)

pub take_gives : (g : Setup) (l : Submission) (c : OpenCall) (word : ℕ) (entry : Sqe)
    → TakesPlace g l c word → word < g.sq → entry ≡ l.content word → Given entry ≡ take_answer l
take_gives g l c word entry t valid held = grind arith

pub take_drops : (g : Setup) (l : Submission) (c : OpenCall) (word : ℕ) → TakesPlace g l c word
    → g.sq ≤ word → Dropped ≡ take_answer l
take_drops g l c word t bad = grind arith

-- the call goes on by one position
pub take_gives_shows : (g : Setup) (q : Sq) (l : Submission) (c : OpenCall) (word : ℕ)
    → ShowsSubmission g q l → TakesPlace g l c word → word < g.sq
    → ShowsSubmission g (record q { call = Some (record { count = c.count; taken = c.taken + 1; accepted = c.accepted + 1 }) }) (taken_on l l.call)
take_gives_shows g q l c word s t valid = grind (arith, entry_more)

pub take_drops_shows : (g : Setup) (q : Sq) (l : Submission) (c : OpenCall) (word : ℕ)
    → ShowsSubmission g q l → TakesPlace g l c word → g.sq ≤ word
    → ShowsSubmission g (record q { call = Some (record { count = c.count; taken = c.taken + 1; accepted = c.accepted }) }) (taken_on l l.call)
take_drops_shows g q l c word s t bad = grind (arith, dropped_more)

-- The open call has taken all its positions.
pub record IsDone (l : Submission) (c : OpenCall) : Type 0 where
  pub call : Call
  pub is : l.call ≡ Some call
  pub count : c.count ≡ call.count
  pub accepted : c.accepted ≡ length (entries_of (places_from l call.count))
  pub all : call.taken ≡ call.count
  pub ready : call.count ≤ pending l

pub is_done : (g : Setup) (q : Sq) (l : Submission) (c : OpenCall) → ShowsSubmission g q l
    → q.call ≡ Some c → c.count ≤ c.taken → IsDone l c
is_done g q l c s is_call through = grind arith

-- Such a call is closed.
module _ (g : Setup) (q : Sq) (l : Submission) (c : OpenCall) (head : ℕ) (s : ShowsSubmission g q l) (e : IsDone l c) (is_head : head ≡ (q.head + c.count) % 2 ^ 32) where
  all_taken : taken (with_closed l e.call) ≡ taken l + e.call.count
  all_taken = sum_by_push (λ (n : ℕ). n) l.calls e.call.count

  dropped_closed : (q.dropped + (c.count - c.accepted)) % 2 ^ 32 ≡ dropped (with_closed l e.call)
  dropped_closed = grind (arith, entries_and_dropped, length-take-le, length-drop, dropped_beyond, with_closed, all_taken)

  pub end_answers : Closed (record { accepted = c.accepted; dropped = (q.dropped + (c.count - c.accepted)) % 2 ^ 32; head = head }) ≡ end_answer g l
  end_answers = grind (arith, dropped_closed, all_taken, cond)

  pub end_shows : ShowsSubmission g (record q { head = head; dropped = (q.dropped + (c.count - c.accepted)) % 2 ^ 32; call = None }) (closed_on l l.call)
  end_shows = grind (arith, closed_on, dropped_closed, with_closed, all_taken)
