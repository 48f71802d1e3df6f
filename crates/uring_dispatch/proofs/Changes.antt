-- One request is touched: what is said of each other number by its request stands; and what a start and a choice leave of what is held.
use Rattle.std.proofs.Common.{List, ◌++◌, ◌≡◌, ◌≢◌, ℕ, ◌+◌, [], ◌∷◌, false, ◌==◌, Some, None, is_some, sym, ◌∙◌, ap, arith, ◌⊎◌, true}
use Rattle.uring_dispatch.proofs.Common.{list_any, running_in, AreHeld, Changes, Groups, IsAsBefore, IsShown, IsSound, Request, Requests, Window, added_other, added_same, at, chosen, end_of, entry_of, has_ended, has_started, is_cancelled, is_faulty, is_running, is_running_started_other, is_running_started_same, ne_eqb, started, with_cancelled, with_started}
use Rattle.uring_dispatch.proofs.WindowFront.{at_past}
use Rattle.uring_dispatch.proofs.Counting.{count_below_changed}
use Rattle.uring_dispatch.proofs.HeldLemmas.{shown_within, running_some, kept_on}

-- the request of n is gone
module _ {w v : Window} {n : ℕ} (c : Changes w v n None) where
  pub before_end : {k : ℕ} {p : Request} → at v k ≡ Some p → (k ≢ n) × (at w k ≡ Some p)
  before_end {k} e = grind arith

-- the request of n was written
module _ {w v : Window} {n : ℕ} {now : Request} (c : Changes w v n (Some now)) where
  pub before_write : {k : ℕ} {q : Request} → at v k ≡ Some q
      → ((k ≡ n) × (now ≡ q)) ⊎ ((k ≢ n) × (at w k ≡ Some q))
  before_write {k} e = grind arith

  pub still_there : is_some (at w n) ≡ true → (k : ℕ) → is_some (at v k) ≡ is_some (at w k)
  still_there there k = grind arith

-- The lists say of k what they said before.
pub record IsSameAt (r s : Requests) (k : ℕ) : Type 0 where
  pub entry : entry_of s k ≡ entry_of r k
  pub ended : has_ended s k ≡ has_ended r k
  pub cancelled : is_cancelled s k ≡ is_cancelled r k
  pub started : has_started s k ≡ has_started r k

-- each request is shown, if that which was written is, and the lists say of the others what they said
pub shown_written : {w v : Window} {r s : Requests} {n : ℕ} {now : Request} → Changes w v n (Some now)
    → ((k : ℕ) (q : Request) → at w k ≡ Some q → IsShown r k q) → IsShown s n now
    → ((k : ℕ) → k ≢ n → IsSameAt r s k) → (k : ℕ) (q : Request) → at v k ≡ Some q → IsShown s k q
shown_written c old here elsewhere k q e = grind (arith, (old k q), (before_write c e), (elsewhere k))

-- Request n is written, and stays in its group.

pub write_sound : {w v : Window} {g : Groups} {n : ℕ} {p q : Request} → IsSound w g
    → at w n ≡ Some p → Changes w v n (Some q) → q.group ≡ p.group → end_of v ≡ end_of w
    → IsSound v g
write_sound {g = g} s there c same end = record {
  linked = λ k x is. grind (arith, (before_write c is), (s.linked k), same);
  members = λ key y k x found from to is. grind (arith, (before_write c is), (s.members key y k), same);
  kept = λ key y found. kept_on (s.kept key y found) (omega (arith, end)) (λ m from to. still_there c (ap is_some there) m);
  beyond = rw end s.beyond;
  last = λ key y e found. s.last key y e found ∙ sym end;
}

-- Request n is written, and the lists say so.
write_held : {w v : Window} {g : Groups} {r : Requests} {n : ℕ} {p q : Request} {begun chosen_now : List ℕ} → AreHeld w g r
    → at w n ≡ Some p → Changes w v n (Some q) → IsAsBefore w v
    → IsShown (record r { started = begun; cancelled = chosen_now }) n q
    → ((k : ℕ) → k ≢ n → IsSameAt r (record r { started = begun; cancelled = chosen_now }) k)
    → v.running ≡ running_in (record r { started = begun; cancelled = chosen_now })
    → AreHeld v g (record r { started = begun; cancelled = chosen_now })
write_held {w} {r = r} {n = n} h there c as_before here others runs_on = record {
  count = h.count ∙ sym as_before.end;
  outstanding = as_before.outstanding ∙ h.outstanding;
  running = runs_on;
  ended = λ m e lt. grind (arith, (still_there c (ap is_some there) m), (h.ended m));
  shown = shown_written c h.shown here others;
  groups = λ key q is. let old = h.groups key q is in assumption;
  last = h.last;
  untouched = λ m past. grind (arith, (h.untouched m past), (others m), (at_past w n), h.count);
}

-- a number is added to a list
pushed_other : (xs : List ℕ) (n k : ℕ) → k ≢ n
    → list_any (λ j. j == k) (xs ++ n ∷ []) ≡ list_any (λ j. j == k) xs
pushed_other xs n k ne = added_other (λ j. j == k) xs n (ne_eqb n k (λ e. ne (sym e)))

-- a cancel chooses a request
pub choose_held : {w v : Window} {g : Groups} {r : Requests} {n : ℕ} {p : Request} → AreHeld w g r
    → at w n ≡ Some p → Changes w v n (Some (chosen p)) → IsAsBefore w v → v.running ≡ w.running
    → AreHeld v g (with_cancelled r (n ∷ []))
choose_held {r = r} {n = n} {p = p} h there c as_before runs_on =
    write_held h there c as_before (grind (arith, (h.shown n p there), added_same)) (grind (arith, pushed_other)) (runs_on ∙ h.running)

-- a request starts
pub start_held : {w v : Window} {g : Groups} {r : Requests} {n : ℕ} {p : Request} → IsSound w g
    → AreHeld w g r → at w n ≡ Some p → p.is_running ≡ false → is_faulty (entry_of r n) ≡ false
    → Changes w v n (Some (started p)) → IsAsBefore w v → v.running ≡ w.running + 1
    → AreHeld v g (with_started r n)
start_held {r = r} {n = n} {p = p} sound h there waits right c as_before more =
    let inside = shown_within sound h there in
    let shown = h.shown n p there in
    let was = running_some h n there in
    let now = is_running_started_same r n shown.unended in
    write_held h there c as_before (grind (arith, shown, added_same)) (grind (arith, pushed_other))
    (grind (arith, (count_below_changed (is_running r) (is_running (with_started r n))), is_running_started_other, h.running))
