-- Between which numbers the requests with the same user data are: what each event keeps of it, and what a search makes of it.
use Rattle.std.proofs.Common.{◌≡◌, ◌⊎◌, ℕ, ◌+◌, ◌^◌, ◌<◌, ◌≤◌, Some, None, is_some, false, refl, ap, arith}
use Rattle.uring_dispatch.proofs.Common.{Accepts, AreFound, AreHeld, Changes, GoesOn, Groups, HasPlaces, KeepsFrom, Request, Requests, Spans, Sqe, Window, addr_of, at, cases_eq, cases_lt, end_of, entry_of, is_candidate, nat_eq, user_data_of}
use Rattle.std.specs.HashMap.{get, spare}
use Rattle.uring_dispatch.specs.declared.by_user_data.ByUserData.{ByUserData}
use Rattle.uring_dispatch.specs.Noted.{IsBetween, KeepsBetween}
use Rattle.uring_dispatch.proofs.WindowFront.{within_end}
use Rattle.uring_dispatch.proofs.Alike.{IsAlike}
use Rattle.uring_dispatch.proofs.Changes.{before_end}

-- What the events keep.

pub found_on : (w v : Window) (x : ByUserData) → AreFound w x → GoesOn w v → HasPlaces x (end_of v)
    → AreFound v x
found_on w v x f on places = record {
  stop = omega (arith, f.stop, on.end);
  between = λ n p e lt. let was = on.kept n p (omega (arith, f.stop)) e in rw was.2 (f.between n was.0 was.1 lt);
  places = places;
}

pub goes_alike : (w v : Window) (g h : Groups) → IsAlike w v g h → GoesOn w v
goes_alike w v g h a = grind arith

-- a request was started, or chosen
pub goes_changed : {w v : Window} {n : ℕ} {q p : Request} → at w n ≡ Some q → Changes w v n (Some p)
    → end_of v ≡ end_of w → p.entry ≡ q.entry → GoesOn w v
goes_changed {w} {q = q} there c end entry = grind arith

pub goes_ended : {w v : Window} {n : ℕ} → Changes w v n None → end_of v ≡ end_of w → GoesOn w v
goes_ended c end = record { end = omega arith; kept = λ k p lt e. (p, (before_end c e).1, refl) }

pub goes_accepted : (w v : Window) (g h : Groups) (entry : Sqe) (request : Request)
    → Accepts w v g h entry request → GoesOn w v
goes_accepted w v g h entry request a = grind arith

-- What the changes of what is noted keep.

pub found_dropped : (w : Window) (x y : ByUserData) (n : ℕ) → AreFound w x → n ≤ end_of w
    → ((k : ℕ) → k < n → at w k ≡ None) → x.stop ≤ y.stop
    → ((k : ℕ) → x.stop ≤ k → n ≤ k → y.stop ≤ k) → y.ends ≡ x.ends → AreFound w y
found_dropped w x y n f within before up no_more ends = record {
  stop = no_more (end_of w) f.stop within;
  between = λ k q e lt. grind (arith, (cases_lt k n), (cases_lt k x.stop), (f.between k q e), (no_more k));
  places = rw ends (omega (arith, f.places));
}

pub found_renewed : (w : Window) (x y : ByUserData) (first : ℕ) → AreFound w x → KeepsFrom x y first
    → first ≤ end_of w → ((k : ℕ) → k < first → at w k ≡ None) → HasPlaces y (end_of w)
    → AreFound w y
found_renewed w x y first f same within before places = record {
  stop = grind (arith, (same.stop (end_of w)), f.stop);
  between = λ k q e lt. grind (arith, (cases_lt k first), (f.between k q e), (same.ends k (user_data_of q.entry)), (same.stop k));
  places = places;
}

-- the number n was looked at, which isn't outstanding
pub found_past : (w : Window) (x y : ByUserData) (n : ℕ) → AreFound w x → x.stop ≡ n
    → n < end_of w → at w n ≡ None → y.stop ≡ n + 1 → y.ends ≡ x.ends → AreFound w y
found_past w x y n f is within none stop ends = record {
  stop = omega arith;
  between = λ k q e lt. grind (arith, (cases_eq k n), (f.between k q e));
  places = rw ends (omega (arith, f.places));
}

-- the number n was looked at, and noted
pub found_next : (w : Window) (x y : ByUserData) (n : ℕ) (q : Request) → AreFound w x → x.stop ≡ n
    → n < end_of w → at w n ≡ Some q → y.stop ≡ n + 1
    → IsBetween (get nat_eq y.ends) (user_data_of q.entry) n
    → KeepsBetween w (get nat_eq x.ends) (get nat_eq y.ends) n
    → spare x.ends ≤ spare y.ends + 1 → AreFound w y
found_next w x y n q f is within there stop here kept spares = record {
  stop = omega arith;
  between = λ k p e lt. grind (arith, (cases_eq k n), (kept (user_data_of p.entry) k), (f.between k p e));
  places = omega (arith, f.places);
}

-- What a search makes of it.

pub spans_all : (w : Window) (named_data : ℕ) → Spans w named_data 0 (end_of w)
spans_all w named_data n q e named = (omega arith, within_end w n (ap is_some e))

pub spans_noted : (w : Window) (x : ByUserData) (named_data from to : ℕ) → AreFound w x
    → x.stop ≡ end_of w → end_of w < 2 ^ 63
    → ((n : ℕ) → n < 2 ^ 63 → IsBetween (get nat_eq x.ends) named_data n → (from ≤ n) × (n < to))
    → Spans w named_data from to
spans_noted w x named_data from to f full fits noted n q e named =
    let lt = within_end w n (ap is_some e) in noted n (omega arith) (rw (← named) (f.between n q e (omega arith)))

pub outside : (w : Window) (g : Groups) (r : Requests) (n k named_data from to : ℕ) → AreHeld w g r
    → named_data ≡ addr_of (entry_of r n) → Spans w named_data from to → (k < from) ⊎ (to ≤ k)
    → is_candidate r n k ≡ false
outside w g r n k named_data from to h named spans out = grind arith
