-- How the steps of a submission call are answered, and what they make: from the laws of the call of the positions that wait.
use Rattle.std.proofs.Common.{◌≡◌, ℕ, ◌+◌, ◌-◌, ◌<◌, ◌≤◌, false, true, Bool, List, [], ◌∷◌, length, drop, get_or, Some, None, if◌then◌else◌, subst, ap, ◌∙◌, arith, add-one}
use Rattle.uring_threads.proofs.Common.{Answer, CalledForApart, Grows, IsFirst, Kept, Place, Setup, Stands, Submission, World, after_call, beginning, call_closes, call_opens, calls_after, calls_left, drop_more, drop_of_length-le, ends_after, ends_of, happens, in_call, is_spent, now, place_answer, position_taken, slice_get-get_or, sum_by_push, taken}
use Rattle.uring_core.specs.declared.step.Step.TheVariants as step
use Rattle.uring_core.specs.declared.answer.Answer.TheVariants as answer
use Rattle.uring_threads.specs.declared.calls.CallMade.TheVariants as made
use Rattle.uring_threads.proofs.TraceSteps.{grown}

-- The Begin of a call of all positions that wait, in a ring that isn't closed.
module _ (a : Kept) (count : ℕ) (x : Answer) (s : Stands (now a).submission [] count) (not_closed : (now a).is_closed ≡ false) (called : CalledForApart a.setup (now a) (step.Begin count) x) where
  -- it is answered in one of three ways
  pub begun_cases : ((n : ℕ) → x ≡ answer.Call n → ⊥) → (x ≡ answer.Again → ⊥) → (x ≡ answer.Spent → ⊥) → ⊥
  begun_cases not_call not_again not_spent = grind arith

  -- and with Spent only if the numbers are spent
  pub begun_spent : x ≡ answer.Spent → is_spent (now a) count ≡ true
  begun_spent is = grind arith

  -- the call opened
  pub opened_now : (b : Kept) (n : ℕ) → x ≡ answer.Call n → Grows a b (step.Begin count, x) → now b ≡ in_call (now a) count 0
  opened_now b n is g =
      grown a b (step.Begin count) x g ∙ ap (beginning (now a) count) is ∙ (call_opens a.setup (now a) count count x s not_closed (omega arith) called).1

-- the world apart from the call that is open
abbrev pub between_calls : World → World
between_calls w = record w { submission = record w.submission { call = None } }

-- it stands, so many positions waiting
pub between_stands : (v w : World) (count done : ℕ) → v ≡ in_call w count done → Stands w.submission [] count
    → Stands (between_calls v).submission [] count
between_stands v w count done at s = grind arith

-- A position that an open call took, of this set-up: what it was, and what is left after it.
pub record TookNext (b : Kept) (g : Setup) (w : World) (count done : ℕ) (x : Answer) : Type 0 where
  pub place : Place
  pub answer : x ≡ place_answer (Some place)
  pub next : drop (taken w.submission + done) w.submission.published
      ≡ place ∷ drop (taken w.submission + (done + 1)) w.submission.published
  pub world : now b ≡ in_call w (if ends_after g (Some place) then done + 1 else count) (done + 1)

-- it took it of the positions that waited as the call opened
pub took_of : (a k b : Kept) (w : World) (count done : ℕ) (x : Answer) → a.setup.stops ≡ false
    → k.setup ≡ a.setup → Stands w.submission [] count → now a ≡ in_call w count 0 → done < count
    → now k ≡ in_call (now a) count done → Grows k b (step.Take, x)
    → CalledForApart k.setup (now k) step.Take x → TookNext b a.setup (now a) count done x
took_of a k b w count done x goes same waits opened low at g called =
    let l : Submission = (now a).submission in
    let s = between_stands (now a) w count 0 opened waits in
    let none : Place = record { word = 0; entry = None } in
    let within : taken l + done < length l.published = omega (arith, s.waiting) in
    let place : Place = get_or l.published (taken l + done) none in
    let is = slice_get-get_or l.published (taken l + done) none within in
    let one = position_taken k.setup (ap (λ (u : Setup). u.stops) same ∙ goes) (between_calls (now a)) count count done x s (omega arith) low (subst (λ v. CalledForApart k.setup v step.Take x) at called) in
    subst (λ (u : Setup). TookNext b u (now a) count done x) same (record {
      place = place;
      answer = one.0 ∙ ap place_answer is;
      next = drop_more l.published (taken l + done) none within ∙ ap (λ n. place ∷ drop n l.published) (omega arith);
      world = grown k b step.Take x g ∙ ap (λ v. happens k.setup v step.Take x) at ∙ one.1 ∙ ap (λ p. in_call (now a) (if ends_after k.setup p then done + 1 else count) (done + 1)) is;
    })

-- whether the call ends after it, as the code tests it
pub ends_as : (b : Kept) (g s : Setup) (w : World) (count done : ℕ) (x : Answer) (ended is : Bool) → s ≡ g
    → ((place : Place) → x ≡ place_answer (Some place) → ended ≡ ends_after s (Some place))
    → ended ≡ is → (t : TookNext b g w count done x) → ends_after g (Some t.place) ≡ is
ends_as b g s w count done x ended is same tests e t = grind arith

-- What is left of a list of places, seen from one place of it.
module _ (g : Setup) (before after : List Place) (place : Place) (done : ℕ) (calls : List ℕ) (is : before ≡ place ∷ after) (at : calls_after (ends_of g before) done ≡ calls) where
  -- the call ends after it
  pub ended_there : ends_after g (Some place) ≡ true → calls ≡ (done + 1) ∷ calls_after (ends_of g after) 0
  unfolding calls_after
  ended_there e = rw (← at, is, e, add-one)

  -- or goes on
  pub gone_on : ends_after g (Some place) ≡ false → calls_after (ends_of g after) (done + 1) ≡ calls
  unfolding calls_after
  gone_on e = rw (← at, is, e, add-one)

-- or took all
pub all_taken : (g : Setup) (left : List Place) (count : ℕ) (calls : List ℕ) → 0 < count → left ≡ []
    → calls_after (ends_of g left) count ≡ calls → calls ≡ count ∷ calls_after (ends_of g left) 0
unfolding calls_after
all_taken g left count calls some none at = grind arith

-- none is left after as many as waited
pub none_after : (w : World) (count : ℕ) → Stands (between_calls w).submission [] count
    → drop (taken w.submission + count) w.submission.published ≡ []
none_after w count s = drop_of_length-le w.submission.published (let q = s.waiting in omega arith)

-- it took so many positions and closed, and the head was loaded
pub closed_now : (a t e b : Kept) (count n : ℕ) (y z : Answer) → Stands (now a).submission [] count
    → n ≤ count → now t ≡ in_call (now a) n n → Grows t e (step.End, y)
    → CalledForApart t.setup (now t) step.End y → Grows e b (step.LoadHead, z)
    → t.setup ≡ a.setup → now b ≡ after_call a.setup (now a) n
closed_now a t e b count n y z s few at end called load same =
    rw (grown e b step.LoadHead z load, grown t e step.End y end, at, same)
    (rw same at (call_closes t.setup (now a) count n (count - n) y z s (omega arith) (rw at at called)).0)

-- which was the first of the calls that were left, as it was said of the world in which it had opened
pub opened_first : (g : Setup) (w o v : World) (count n : ℕ) → o ≡ in_call w count 0
    → Stands w.submission [] count → 0 < n → n ≤ count
    → calls_left g o.submission
    ≡ n ∷ calls_after (ends_of g (drop (taken o.submission + n) o.submission.published)) 0
    → v ≡ after_call g w n → IsFirst g w.submission v.submission count (made.Taken n)
opened_first g w o v count n at s some few first is = grind (arith, sum_by_push)
