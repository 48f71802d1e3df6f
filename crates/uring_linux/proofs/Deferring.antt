-- Groups that are deferred: nothing has happened to their members, and once some went on, not all that is outstanding is deferred.
use Rattle.std.proofs.Common.{◌≡◌, ℕ, suc, ◌-◌, ◌<◌, ◌≤◌, length, true, false, not, ◌&&◌, ◌⊎◌, List, [], ◌∷◌, refl, ap, arith, inl, inr}
use Rattle.uring_linux.proofs.Common.{Deferred, Requests, after_going_on, and_from, both_ways, cases_Bool, cases_lt, entry_of, from_drain, has_ended, has_failed, has_failed_unended, has_fault, has_started, if◌then◌else◌, is_after_failure, is_alone, is_among, is_doomed, is_in_faulty_group, is_in_group, is_in_some, is_joined, is_joined_no, is_last, is_soft, or_cases, or_from, or_right, some_below_none, some_below_some}
use Rattle.uring_linux.proofs.InOrder.{InOrder, order_spans, order_above, order_after}

-- nothing has happened to n
pub record IsIdle (r : Requests) (n : ℕ) : Type 0 where
  pub started : has_started r n ≡ false
  pub ended : has_ended r n ≡ false

-- a whole group without a fault, to whose members nothing has happened
pub record IsWaiting (r : Requests) (g : Deferred) : Type 0 where
  pub some : g.from < g.end
  pub begins : (k : ℕ) → suc k ≡ g.from → is_last r k ≡ true
  pub ends : (k : ℕ) → suc k ≡ g.end → is_last r k ≡ true
  pub idle : (k : ℕ) → g.from ≤ k → k < g.end → IsIdle r k
  pub healthy : (k : ℕ) → g.from ≤ k → k < g.end → has_fault r k ≡ false

-- such groups, in order, from one number on and before another
abbrev pub AreWaiting : Requests → ℕ → List Deferred → ℕ → Type 0
AreWaiting r = InOrder (IsWaiting r)

-- the group of a member
pub record IsHeldBy (r : Requests) (xs : List Deferred) (n : ℕ) : Type 0 where
  pub group : Deferred
  pub waiting : IsWaiting r group
  pub low : group.from ≤ n
  pub high : n < group.end
  pub members : (m : ℕ) → group.from ≤ m → m < group.end → is_in_some xs m ≡ true

pub held_by : (r : Requests) (low : ℕ) (xs : List Deferred) (high n : ℕ) → AreWaiting r low xs high
    → is_in_some xs n ≡ true → IsHeldBy r xs n
held_by r low [] high n h e = absurd (both_ways false refl e)
held_by r low (g ∷ rest) high n h e =
    elim (or_cases (is_among n g) (is_in_some rest n) e) [
      | inl here ↦ grind arith
      | inr later ↦
          let found = held_by r g.end rest high n h.3 later in
          record {
            group = found.group;
            waiting = found.waiting;
            low = found.low;
            high = found.high;
            members = λ m a b. or_right (is_among m g) (is_in_some rest m) (found.members m a b);
          }
    ]

pub not_alone : (r : Requests) (xs : List Deferred) (k : ℕ) → k < length r.accepted → has_ended r k ≡ false
    → is_in_some xs k ≡ false → is_alone r xs ≡ false
unfolding is_alone
not_alone r xs k lt e out =
    ap not
    (some_below_some (λ j. not (has_ended r j) && not (is_in_some xs j)) (length r.accepted) k lt (and_from _ _ (ap not e) (ap not out)))

-- nothing is deferred, or not all that is outstanding is
abbrev pub HasGoneOn : Requests → List Deferred → Type 0
HasGoneOn r xs = (xs ≡ []) ⊎ (is_alone r xs ≡ false)

pub gone_on : (r : Requests) (low : ℕ) (xs : List Deferred) (high : ℕ) → high ≤ length r.accepted
    → AreWaiting r low xs high → HasGoneOn r (after_going_on r xs)
gone_on r low [] high within h = inl refl
gone_on r low (g ∷ rest) high within h = elim (cases_Bool (is_alone r (g ∷ rest))) [
  | inl e ↦
      let some = h.2.some in
      let spans = order_spans (IsWaiting r) g.end rest high h.3 in
      let after : List Deferred = if g.drains then rest else from_drain rest in
      let past = order_above (IsWaiting r) g.end after high g.from (order_after (IsWaiting r) g.end g.drains rest high h.3) in
      let out : is_in_some after g.from ≡ false = grind arith in
      rw e (inr (not_alone r after g.from (omega arith) (h.2.idle g.from (omega arith) some).ended out))
  | inr e ↦ rw e (inr e)
]

-- No member is doomed.

outside_joined : (r : Requests) (g : Deferred) (m n : ℕ) → IsWaiting r g → m < g.from → g.from ≤ n
    → is_joined r m n ≡ false
outside_joined r g m n w lt le = is_joined_no r m n (g.from - 1) (omega arith) (omega arith) (w.begins (g.from - 1) (omega arith))

pub after_joined : (r : Requests) (g : Deferred) (n m : ℕ) → IsWaiting r g → n < g.end → g.end ≤ m
    → is_joined r n m ≡ false
after_joined r g n m w lt le = is_joined_no r n m (g.end - 1) (omega arith) (omega arith) (w.ends (g.end - 1) (omega arith))

pub not_doomed : (r : Requests) (g : Deferred) (n : ℕ) → IsWaiting r g → g.from ≤ n → n < g.end
    → is_doomed r n ≡ false
unfolding is_in_faulty_group is_after_failure
not_doomed r g n w low high =
    or_from _ _
    (some_below_none (λ m. is_in_group r m n && has_fault r m) (length r.accepted)
    (λ m lt. grind (arith, (cases_lt m g.from), (cases_lt m g.end), (outside_joined r g m n w), (after_joined r g n m w high), (w.healthy m))))
    (some_below_none (λ m. is_joined r m n && is_soft (entry_of r m) && has_failed r m) n
    (λ m lt. grind (arith, (cases_lt m g.from), (outside_joined r g m n w), (has_failed_unended r m), (w.idle m))))
