-- Moves of a search that knows some of the bytes at finishes are a timeline of a history that has these, and others at the rest.
use Rattle.std.proofs.Common.{◌≡◌, ℕ, ℤ, Bool, true, false, List, [], ◌∷◌, ◌++◌, length, map, Option, Some, None, if◌then◌else◌, refl, sym, ap, ap₂, subst, ◌∙◌, append-nil, append_assoc}
use Rattle.uring_effect_points.proofs.Common.{Answer, AreSameButBytes, CalledForApart, End, EndsAsTaken, EndsBy, Event, Goes, History, IsFoundBare, IsLawfulApart, IsTimely, IsWalk, IssueMeets, IssuesMeet, Makes, Mark, MarkStanding, Move, Op, Outcome, Pass, Passes, Requests, Running, Setup, Step, Take, Takes, TakesEffect, Timeline, World, at_first, bare, blank, blank_answer, bytes_at, bytes_reaped, bytes_told, effect_of, end_told_by, entry_of, history_of, is_running, known_by, known_mark, known_marks, length-map, made_in, mark_by, operation_at, operation_of, operation_running, passed, posted_in, requests_in, start_mark, taken_of, took, world}
use Rattle.uring_core.specs.declared.step.Step.TheVariants as step
use Rattle.uring_core.specs.declared.answer.Answer.TheVariants as answer
use Rattle.uring_effect_points.specs.declared.decision.EffectsFound.TheVariants as found
use Rattle.uring_effect_points.proofs.Agreeing.{Agree, EndMeets, agree_after, agree_none, next_has, payloads, posted_bytes, reaped_after}
use Rattle.uring_effect_points.proofs.BlankRequests.{blank_requests, running_same}
use Rattle.uring_effect_points.proofs.BlankWorlds.{ReapMeets, called_back, world_same}
use Rattle.uring_effect_points.proofs.Standings.{Stands, one_of, stands_makes, stands_takes, takes_effect}
use Rattle.uring_effect_points.proofs.Timelines.{first_stands, lawful_below, onto, onto_is}

-- ---- what is known, of a history and without its bytes

posted_blank : (g : Setup) (h : History) → posted_in g (map blank h) ≡ posted_in g h
posted_blank g h =
    ap (λ (w : World). length w.completions.posted) (world_same g h) ∙ length-map (world g h).completions.posted _

pub known_blank : (g : Setup) (known : List (List ℕ)) (h : History) (e : Event)
    → known_by g known (map blank h) (blank e) ≡ known_by g known h e
known_blank g known h e =
    ap₂ (bytes_at known) (posted_blank g h) (posted_blank g (e ∷ h))

start_same : (r : Requests) (n : ℕ) → operation_running (blank_requests r) n ≡ operation_running r n
start_same r n = ap (λ (b : Bool). if b then Some (operation_of (entry_of r n)) else None) (running_same r n)

mark_blank : (known : Option (List ℕ)) (r : Requests) (e : Event) → known_mark known (blank_requests r) (blank e) ≡ known_mark known r e
mark_blank known r (step.Issue n, answer.Run) = ap (start_mark n) (start_same r n)
mark_blank known r (step.Finish n, answer.Ended res bytes) = refl
mark_blank known r (step.Reap, answer.Reaped c) = refl
mark_blank known r (_, a) = refl

pub mark_same : (g : Setup) (known : List (List ℕ)) (h : History) (e : Event)
    → known_mark (known_by g known (map blank h) (blank e)) (world g (blank e ∷ map blank h)).requests (blank e)
    ≡ known_mark (known_by g known h e) (world g (e ∷ h)).requests e
mark_same g known h e =
    ap₂ (λ (k : Option (List ℕ)) (w : World). known_mark k w.requests (blank e)) (known_blank g known h e) (world_same g (e ∷ h))
    ∙ mark_blank (known_by g known h e) (world g (e ∷ h)).requests e

pub known_marks_same : (g : Setup) (known : List (List ℕ)) (h : History) (later : List Event)
    → known_marks g known (map blank h) (map blank later) ≡ known_marks g known h later
known_marks_same g known h [] = refl
known_marks_same g known h (e ∷ later) =
    ap₂ (λ (m : Mark) (ms : List Mark). m ∷ ms) (mark_same g known h e) (known_marks_same g known (e ∷ h) later)

-- what a mark passes to doesn't depend on the bytes that are known
pub passed_so : (st : MarkStanding) (known : Option (List ℕ)) (r : Requests) (e : Event)
    → passed st (known_mark known r e) ≡ passed st (mark_by r e)
passed_so st known r (step.Finish n, answer.Ended res bytes) = refl
passed_so st known r (_, a) = refl

-- ---- the bytes of a finish

-- an event that is the same but for its bytes, which are those of the effect
record Filled (t : Timeline) (known : Option (List ℕ)) (s : Step) (a : Answer) : Type 0 where
  filled : Answer
  same_blank : blank_answer s filled ≡ blank_answer s a
  same_bare : bare (s, filled) ≡ bare (s, a)
  same_reap : bytes_reaped (s, filled) ≡ bytes_reaped (s, a)
  ends : EndsAsTaken t (s, filled)
  meets : EndMeets known (end_told_by (s, filled))

finish_filled : (t : Timeline) (known : Option (List ℕ)) (n : ℕ) (res : ℤ) (bytes : List ℕ) (taken : Option Outcome)
    → effect_of t n ≡ taken → EndsBy taken (record { res = res; bytes = known })
    → Filled t known (step.Finish n) (answer.Ended res bytes)
finish_filled t known n res bytes None is ends = absurd ends
finish_filled t known n res bytes (Some o) is ends = record {
  filled = answer.Ended res o.bytes;
  same_blank = refl;
  same_bare = refl;
  same_reap = refl;
  ends = is ∙ (λ i. Some (record { res = sym ends.0 i; bytes = o.bytes }));
  meets = ends.1;
}

effect_so : (b : Bool) (n : ℕ) (op : Op) (taken : Option Outcome) (e : End) → EndsBy (taken_of (one_of b n op taken)) e
    → EndsBy taken e
effect_so true n op taken e ends = ends
effect_so false n op taken e ends = absurd ends

fill_event : (g : Setup) (t : Timeline) (st : MarkStanding) (known : Option (List ℕ)) (r : Requests) (s : Step) (a : Answer) → Stands g t st
    → Passes st.running (known_mark known r (blank (s, a))) → IssueMeets known (blank (s, a)) → Filled t known s a
fill_event g t st known r (step.Finish n) (answer.Ended res bytes) stands passes meets =
    finish_filled t known n res bytes (effect_of t n) refl
    (effect_so (is_running (requests_in g t) n) n (operation_at g t n) (effect_of t n) (record { res = res; bytes = known }) (subst (λ (x : Option Running). EndsBy (taken_of x) (record { res = res; bytes = known })) (stands.running n) passes))
fill_event g t st known r (step.Issue n) (answer.Ended res bytes) stands passes meets =
    record { filled = answer.Ended res bytes; same_blank = refl; same_bare = refl; same_reap = refl; ends = tt; meets = meets }
fill_event g t st known r s a stands passes meets =
    record { filled = a; same_blank = refl; same_bare = refl; same_reap = refl; ends = tt; meets = tt }

-- ---- moves are a timeline

-- a timeline of a history with these events, but for the bytes at their finishes
record HasBareTimeline (g : Setup) (h : History) : Type 0 where
  timeline : Timeline
  same : AreSameButBytes (made_in timeline) h
  timely : IsTimely g timeline
  lawful : IsLawfulApart g (made_in timeline)

-- what is left after an event
record Rest (g : Setup) (known : List (List ℕ)) (before : History) (later : List Event) (st : MarkStanding) (moves : List Move) (e : Event) : Type 0 where
  walk : IsWalk (passed st (known_mark (known_by g known before e) (world g (e ∷ before)).requests e)) (known_marks g known (e ∷ before) later) moves
  lawful : IsLawfulApart g (onto (e ∷ before) later)
  meet : IssuesMeet g known (e ∷ before) later

bare_onto : (later : List Event) (h k : History) → map bare h ≡ map bare k → map bare (onto h later) ≡ map bare (onto k later)
bare_onto [] h k same = same
bare_onto (e ∷ later) h k same = bare_onto later (e ∷ h) (e ∷ k) (ap (λ (es : List Event). bare e ∷ es) same)

reap_meets : (g : Setup) (h : History) (s : Step) (a : Answer) (later : List (List ℕ))
    → Agree (payloads (world g h).completions.reaped ++ (bytes_reaped (s, a) ++ later)) (posted_bytes g h)
    → ReapMeets (world g h) s a
reap_meets g h step.Reap (answer.Reaped c) later agree = λ d next.
    next_has (world g h).completions c d later agree next
reap_meets g h _ a later agree = tt

-- how a search stands at a mark, and what is known there
record IsAt (g : Setup) (known : List (List ℕ)) (moves : List Move) (later : List Event) (t : Timeline) (st : MarkStanding) : Type 0 where
  walk : IsWalk st (known_marks g known (map blank (made_in t)) (map blank later)) moves
  stands : Stands g t st
  timely : IsTimely g t
  lawful : IsLawfulApart g (made_in t)
  all : IsLawfulApart g (onto (map blank (made_in t)) (map blank later))
  meet : IssuesMeet g known (map blank (made_in t)) (map blank later)
  agree : Agree known (posted_bytes g (made_in t))
  told : known ≡ payloads (world g (made_in t)).completions.reaped ++ bytes_told later

-- after an event, with the bytes of its finish
record IsPast (g : Setup) (known : List (List ℕ)) (moves : List Move) (later : List Event) (t : Timeline) (s : Step) (a : Answer) : Type 0 where
  filled : Answer
  same : bare (s, filled) ≡ bare (s, a)
  standing : MarkStanding
  at : IsAt g known moves later (Makes (s, filled) ∷ t) standing

past : (g : Setup) (known : List (List ℕ)) (moves : List Move) (s : Step) (a : Answer) (later : List Event) (t : Timeline) (st : MarkStanding)
    → IsAt g known (Pass ∷ moves) ((s, a) ∷ later) t st → IsPast g known moves later t s a
past g known moves s a later t st at = record { filled = f.filled; same = f.same_bare; standing = passed st (mark_by (requests_in g (Makes (s, f.filled) ∷ t)) (s, f.filled)); at = record { walk = walks; stands = stands_makes g t st s f.filled at.timely at.stands both; timely = (f.ends, at.timely); lawful = both; all = rest.lawful; meet = rest.meet; agree = agree_after g known s f.filled (made_in t) both at.agree meets; told = told_x ∙ sym (append_assoc (payloads (world g (made_in t)).completions.reaped) (bytes_reaped (s, f.filled)) (bytes_told later)) ∙ ap (λ (xs : List (List ℕ)). xs ++ bytes_told later) (sym (reaped_after g s f.filled (made_in t) both)) } }
  where
    f : Filled t (known_by g known (map blank (made_in t)) (blank (s, a))) s a
    f = fill_event g t st (known_by g known (map blank (made_in t)) (blank (s, a))) (world g (blank (s, a) ∷ map blank (made_in t))).requests s a at.stands at.walk.0 at.meet.0

    rest : Rest g known (map blank (made_in t)) (map blank later) st moves (blank (s, f.filled))
    rest =
        subst (Rest g known (map blank (made_in t)) (map blank later) st moves) (sym (ap (λ (b : Answer). (s, b)) f.same_blank))
        (record { walk = at.walk.1; lawful = at.all; meet = at.meet.1 })

    told_x : known ≡ payloads (world g (made_in t)).completions.reaped ++ (bytes_reaped (s, f.filled) ++ bytes_told later)
    told_x = at.told ∙ ap (λ (xs : List (List ℕ)). payloads (world g (made_in t)).completions.reaped ++ (xs ++ bytes_told later)) (sym f.same_reap)

    called : CalledForApart g (world g (made_in t)) s f.filled
    called =
        called_back g (world g (made_in t)) s f.filled (subst (λ (w : World). CalledForApart g w s (blank_answer s f.filled)) (world_same g (made_in t)) (lawful_below g (map blank later) (blank (s, f.filled) ∷ map blank (made_in t)) rest.lawful).0)
        (reap_meets g (made_in t) s f.filled (bytes_told later) (subst (λ (xs : List (List ℕ)). Agree xs (posted_bytes g (made_in t))) told_x at.agree))

    both : IsLawfulApart g ((s, f.filled) ∷ (made_in t))
    both = (called, at.lawful)

    meets : EndMeets (known_by g known (made_in t) (s, f.filled)) (end_told_by (s, f.filled))
    meets =
        subst (λ (k : Option (List ℕ)). EndMeets k (end_told_by (s, f.filled))) (known_blank g known (made_in t) (s, f.filled))
        (subst (λ (e : Event). EndMeets (known_by g known (map blank (made_in t)) e) (end_told_by (s, f.filled))) (sym (ap (λ (b : Answer). (s, b)) f.same_blank)) f.meets)

    walks : IsWalk (passed st (mark_by (requests_in g (Makes (s, f.filled) ∷ t)) (s, f.filled))) (known_marks g known (blank (s, f.filled) ∷ map blank (made_in t)) (map blank later)) moves
    walks =
        subst (λ (st2 : MarkStanding). IsWalk st2 (known_marks g known (blank (s, f.filled) ∷ map blank (made_in t)) (map blank later)) moves) (ap (passed st) (mark_same g known (made_in t) (s, f.filled)) ∙ passed_so st (known_by g known (made_in t) (s, f.filled)) (world g ((s, f.filled) ∷ (made_in t))).requests (s, f.filled)) rest.walk

by_moves : (g : Setup) (known : List (List ℕ)) (moves : List Move) (later : List Event) (t : Timeline) (st : MarkStanding)
    → IsAt g known moves later t st → HasBareTimeline g (onto (made_in t) later)
by_moves g known [] [] t st at = record { timeline = t; same = refl; timely = at.timely; lawful = at.lawful }
by_moves g known [] (e ∷ later) t st at =
    absurd (let f : known_marks g known (map blank (made_in t)) (map blank (e ∷ later)) ≡ [] = at.walk in cc)
by_moves g known (Pass ∷ moves) [] t st at = absurd at.walk
by_moves g known (Pass ∷ moves) ((s, a) ∷ later) t st at =
    let p : IsPast g known moves later t s a = past g known moves s a later t st at in
    let last : HasBareTimeline g (onto ((s, p.filled) ∷ made_in t) later) = by_moves g known moves later (Makes (s, p.filled) ∷ t) p.standing p.at in
    record {
      timeline = last.timeline;
      same = last.same ∙ bare_onto later ((s, p.filled) ∷ made_in t) ((s, a) ∷ made_in t) (ap (λ (e : Event). e ∷ map bare (made_in t)) p.same);
      timely = last.timely;
      lawful = last.lawful;
    }
by_moves g known (Take n o ∷ moves) [] t st at =
    absurd (let f : false ≡ true = at.walk.0.waits in cc)
by_moves g known (Take n o ∷ moves) (e ∷ later) t st at =
    let taken : TakesEffect g t n o = takes_effect g t st (known_marks g known (map blank (made_in t)) (map blank (e ∷ later))) n o at.stands at.walk.0 in
    by_moves g known moves (e ∷ later) (Takes n o ∷ t) (took st n o)
    (let walk = at.walk.1 in
    let stands = stands_takes g t st n o at.stands taken.runs in
    let timely : IsTimely g (Takes n o ∷ t) = (taken, at.timely) in assumption (walk, stands, timely, at))

pub history_onto : (events : List Event) → onto [] events ≡ history_of events
history_onto events = onto_is events [] ∙ append-nil (history_of events)

-- the moves of a search are those of a history with some bytes at its finishes
pub filled_lawful : (g : Setup) (events : List Event) → IsLawfulApart g (history_of (map blank events))
    → IssuesMeet g (bytes_told events) [] (map blank events)
    → Goes (at_first g.files) (known_marks g (bytes_told events) [] (map blank events))
    → IsFoundBare g (history_of events) found.Lawful
filled_lawful g events lawful meet goes =
    let t : HasBareTimeline g (onto [] events) = by_moves g (bytes_told events) goes.moves events [] (at_first g.files) (record {
      walk = goes.walk;
      stands = first_stands g;
      timely = tt;
      lawful = tt;
      all = subst (IsLawfulApart g) (sym (history_onto (map blank events))) lawful;
      meet = meet;
      agree = agree_none (bytes_told events);
      told = refl;
    }) in
    (made_in t.timeline, record { lawful = t.lawful; timeline = t.timeline; made = refl; timely = t.timely }, t.same ∙ ap (map bare) (history_onto events))
