-- Results of early effects are allowed: an effect's was when it was taken, and its request's entry stays.
use Rattle.std.proofs.Common.{◌≡◌, ◌==◌, ◌<◌, ℕ, Bool, true, [], ◌∷◌, length, Some, if◌then◌else◌, refl, arith}
use Rattle.uring_effect_points.proofs.Common.{EndsAsTaken, Event, GiveAllowed, GivesAllowed, Grows, History, IsLawfulApart, IsLawfulEarly, IsTimely, Makes, Outcome, Requests, Setup, Takes, TakesEffect, Timeline, and_parts, effect_of, entry_of, eqb-true, event_grows, fault_of, files_at, has_started, made_in, not_some, requests_in, sound_of}
use Rattle.uring_entry.specs.Results.{may_end}
use Rattle.uring_core.specs.declared.step.Step.TheVariants as step
use Rattle.uring_core.specs.declared.answer.Answer.TheVariants as answer
use Rattle.uring_core.proofs.Running.{no_cancel, running_asks}
use Rattle.uring_core.proofs.SoundRequests.{IsSoundRequests}
use Rattle.uring_effect_points.proofs.AllowedResults.{outcome_allowed}

-- this result is one that the operation of the request may give, which was accepted
record Allows (r : Requests) (n : ℕ) (o : Outcome) : Type 0 where
  accepted : n < length r.accepted
  may : may_end (entry_of r n) o.res ≡ true

taken_allowed : (g : Setup) (before : Timeline) (n : ℕ) (o : Outcome) → IsLawfulApart g (made_in before)
    → TakesEffect g before n o → Allows (requests_in g before) n o
taken_allowed g before n o lawful takes =
    let r : Requests = requests_in g before in
    let i : IsSoundRequests r = (sound_of g (made_in before) lawful).requests in
    let started : has_started r n ≡ true = (and_parts _ _ takes.runs).0 in
    record {
      accepted = i.started_accepted n started;
      may = outcome_allowed (files_at g before) (entry_of r n) o (not_some (fault_of (entry_of r n)) (i.started_right n started)) (no_cancel g (made_in before) lawful n started) (running_asks g (made_in before) n lawful takes.runs) takes.gives;
    }

allows_then : (r later : Requests) (n : ℕ) (o : Outcome) → Grows r later → Allows r n o → Allows later n o
allows_then r later n o more a = grind arith

-- the newest effect, or one before it
newest_allowed : (g : Setup) (before : Timeline) (m n : ℕ) (outcome o : Outcome) (b : Bool) → (m == n) ≡ b
    → IsLawfulApart g (made_in before) → TakesEffect g before m outcome
    → (effect_of before n ≡ Some o → Allows (requests_in g before) n o)
    → (if b then Some outcome else effect_of before n) ≡ Some o → Allows (requests_in g before) n o
newest_allowed g before m n outcome o b same lawful takes earlier is = grind (arith, eqb-true, taken_allowed)

effect_allowed : (g : Setup) (t : Timeline) → IsTimely g t → IsLawfulApart g (made_in t) → (n : ℕ)
    → (o : Outcome) → effect_of t n ≡ Some o → Allows (requests_in g t) n o
effect_allowed g [] timely lawful n o is = absurd cc
effect_allowed g (Makes (s, a) ∷ before) timely lawful n o is =
    allows_then (requests_in g before) (requests_in g (Makes (s, a) ∷ before)) n o (event_grows g s a (made_in before) lawful) (effect_allowed g before timely.1 lawful.1 n o is)
effect_allowed g (Takes m outcome ∷ before) timely lawful n o is =
    newest_allowed g before m n outcome o (m == n) refl lawful timely.0 (effect_allowed g before timely.1 lawful n o) is

event_allowed : (g : Setup) (e : Event) (before : Timeline) → IsTimely g before
    → IsLawfulApart g (made_in before) → EndsAsTaken before e → GivesAllowed (requests_in g before) e
event_allowed g (step.Finish n, answer.Ended res bytes) before timely lawful ends =
    (effect_allowed g before timely lawful n (record { res = res; bytes = bytes }) ends).may
event_allowed g _ before timely lawful ends = tt

all_allowed : (g : Setup) (t : Timeline) → IsTimely g t → IsLawfulApart g (made_in t)
    → GiveAllowed g (made_in t)
all_allowed g [] timely lawful = tt
all_allowed g (Makes (s, a) ∷ before) timely lawful =
    (event_allowed g (s, a) before timely.1 lawful.1 timely.0, all_allowed g before timely.1 lawful.1)
all_allowed g (Takes n outcome ∷ before) timely lawful = all_allowed g before timely.1 lawful

pub early_effects_give_allowed : (g : Setup) (h : History) → IsLawfulEarly g h → GiveAllowed g h
early_effects_give_allowed g h early = grind (arith, all_allowed)
