-- Of groups that drain by Linux's rules: what is so of the requests whatever happened, and stays as more is accepted after them.
use Rattle.std.proofs.Common.{◌≡◌, ℕ, suc, ◌<◌, ◌≤◌, length, true, false, ◌&&◌, List, arith, ◌⊎◌, rules}
use Rattle.uring_laws.proofs.Common.{Deferred, Drains, FaultsKept, Requests, drains, entry_of, has_ended, has_fault, is_drain, is_first, is_in_group, is_in_some, is_joined, is_last, is_let_in, is_owed_by, joined_kept, may_take, nat_lt, order_kept, owes_drain, right_kept, some_below_between, some_below_same, is_in_faulty_group}
use Rattle.uring_laws.proofs.LinuxGroups.{marks, IsTold, AreTold, parted}

-- n's group drains, and has no fault
pub record HasDrain (r : Requests) (n : ℕ) : Type 0 where
  pub drains : drains r n ≡ true
  pub right : is_in_faulty_group r n ≡ false

-- n's group waits for m's: it drains, or m's does
abbrev pub Waits : Requests → ℕ → ℕ → Type 0
Waits r n m = (drains r n ≡ true) ⊎ HasDrain r m

-- Requests that more was accepted after.

-- the same entries and groups below a bound, and all that had ended
pub record KeepsGroups (r q : Requests) : Type 0 where
  pub faults : FaultsKept r q
  pub cut : (k : ℕ) → k < length r.accepted → is_last r k ≡ true → is_last q k ≡ true
  pub let_in : (k : ℕ) → k < length r.accepted → is_let_in q k ≡ is_let_in r k
  pub drain : (k : ℕ) → k < length r.accepted → is_drain (entry_of q k) ≡ is_drain (entry_of r k)
  pub ended : (k : ℕ) → has_ended r k ≡ true → has_ended q k ≡ true

-- What is so whatever happened.

-- whoever isn't deferred waits for nobody that hasn't ended
abbrev pub WaitForNone : Requests → ℕ → List Deferred → Type 0
WaitForNone r from xs = (n m : ℕ) → n < from → m < n → is_joined r m n ≡ false
    → is_in_some xs n ≡ false → is_in_faulty_group r n ≡ false → Waits r n m → has_ended r m ≡ true

-- what drains has ended, or the ring drains
abbrev pub RingDrains : Requests → Drains → Type 0
RingDrains r d = d.ring ≡ false → (m : ℕ) → m < d.from → HasDrain r m → has_ended r m ≡ true

-- what is owed and wasn't taken still is
abbrev pub IsOwed : Requests → Drains → Type 0
IsOwed r d = (k : ℕ) → k < length r.accepted → owes_drain r k ≡ true
    → ((f : ℕ) → k < f → f < length r.accepted → may_take r f ≡ false) → d.owed ≡ true

-- what holds of requests and drains, whether or not a group is being accepted
pub record Holds (r : Requests) (d : Drains) : Type 0 where
  pub begins : (k : ℕ) → suc k ≡ d.from → is_last r k ≡ true
  pub told : AreTold r 0 d.deferred d.from
  pub waits : WaitForNone r d.from d.deferred
  pub ring : RingDrains r d
  pub group : d.group ≡ false → (k : ℕ) → d.from ≤ k → k < length r.accepted → has_fault r k ≡ false → marks r k ≡ false
  pub on : d.ring ≡ false → d.group ≡ false
  pub owed : IsOwed r d

pub record IsDrained (r : Requests) (d : Drains) : Type 0 where
  pub low : d.from ≤ length r.accepted
  pub amid : (k : ℕ) → d.from ≤ k → k < length r.accepted → is_last r k ≡ false
  pub holds : Holds r d

-- the same once more was accepted, of what stood before
module _ (r q : Requests) (d : Drains) (same : KeepsGroups r q) (low : d.from ≤ length r.accepted) (i : Holds r d) where
  -- each request takes, owes and makes its group drain as it did
  first_same : (k : ℕ) → k < length r.accepted → is_first q k ≡ is_first r k
  first_same k lt = grind (arith, some_below_same, joined_kept r q same.faults)

  marks_same : (n : ℕ) → n < length r.accepted → marks q n ≡ marks r n
  marks_same n lt =
      let owed = some_below_same (is_owed_by q n) (is_owed_by r n) n in
      let taken = λ (k : ℕ). some_below_same (λ f. nat_lt k f && may_take q f) (λ f. nat_lt k f && may_take r f) n in
      grind (arith, owed, taken, first_same)

  pub more_begins : (k : ℕ) → suc k ≡ d.from → is_last q k ≡ true
  more_begins k is = same.cut k (omega (arith, is, low)) (i.begins k is)

  -- a group that was there before drains exactly if it did
  drains_before : (n : ℕ) → n < d.from → drains q n ≡ drains r n
  drains_before n lt =
      let p = λ (t : Requests) (m : ℕ). is_in_group t m n && marks t m in
      let later = some_below_between (p q) d.from (length q.accepted) in
      let others = some_below_between (p r) d.from (length r.accepted) low in
      let same_below = some_below_same (p q) (p r) d.from in
      grind (arith, later, others, same_below, (λ (m : ℕ). parted q m n d.from more_begins), (λ (m : ℕ). parted r m n d.from i.begins), (joined_kept r q same.faults), marks_same, same.faults.count)

  pub more_waits : WaitForNone q d.from d.deferred
  more_waits n m lt under apart out right w =
      grind (arith, (i.waits n m lt under), (drains_before n), (drains_before m), (joined_kept r q same.faults m n), (right_kept r q same.faults), (same.ended m))

  pub more_ring : RingDrains q d
  more_ring off m lt other = grind (arith, drains_before, right_kept)

  pub more_told : AreTold q 0 d.deferred d.from
  more_told = order_kept (IsTold r) (IsTold q) 0 d.deferred d.from i.told (λ g there some within is. grind (arith, marks_same))

  pub more_group : d.group ≡ false → (k : ℕ) → d.from ≤ k → k < length r.accepted → has_fault q k ≡ false → marks q k ≡ false
  more_group still k le lt fine = grind (arith, (marks_same k lt), (i.group still k le lt), same.faults.fault)

  pub more_owed : (k : ℕ) → k < length r.accepted → owes_drain q k ≡ true → ((f : ℕ) → k < f → f < length r.accepted → may_take q f ≡ false) → d.owed ≡ true
  more_owed k lt owes none = grind (arith, (i.owed k lt), first_same)

  -- and all of it, if no more was accepted
  pub still_holds : length q.accepted ≡ length r.accepted → Holds q d
  still_holds many = search (rules, arith, more_begins, more_told, more_waits, more_ring, more_group, more_owed)
