-- Groups with a fault: which they are stays, as more is accepted after them, starts and ends.
use Rattle.std.proofs.Common.{◌≡◌, ℕ, suc, ◌<◌, ◌≤◌, ℤ, min, max, length, true, false, not, ◌&&◌, List, [], ◌∷◌, refl, ◌∙◌, ap, arith, length-append}
use Rattle.uring_linux.proofs.Common.{Requests, Sqe, and_from, and_parts, both_ways, entry_same, false_from_ne_true, has_fault, is_faulty, is_faulty_from, is_in_faulty_group, is_in_group, is_joined, is_joined_yes, is_last, is_last_cut, le-leb, leb-true, nat_le, some_below_in, some_below_out, some_below_same, some_below_some}
use Rattle.uring_entry.specs.Requests as manual
use Rattle.uring_linux.proofs.WindowEvents.{refused_accepted, last_accepted}

-- the same groups and faults below a bound
pub record FaultsKept (r q : Requests) : Type 0 where
  pub count : length r.accepted ≤ length q.accepted
  pub last : (k : ℕ) → suc k < length r.accepted → is_last q k ≡ is_last r k
  pub fault : (k : ℕ) → k < length r.accepted → has_fault q k ≡ has_fault r k

module _ (r q : Requests) (same : FaultsKept r q) where
  pub joined_kept : (m n : ℕ) → n < length r.accepted → is_joined q m n ≡ is_joined r m n
  unfolding is_joined
  joined_kept m n lt =
      ap not (some_below_same (λ k. nat_le m k && is_last q k) (λ k. nat_le m k && is_last r k) n (λ k low. ap (λ b. nat_le m k && b) (same.last k (omega (arith, low, lt)))))

  pub faulty_kept : (n : ℕ) → n < length r.accepted → is_in_faulty_group r n ≡ true → is_in_faulty_group q n ≡ true
  unfolding is_in_faulty_group
  faulty_kept n lt e =
      let found = some_below_in (λ m. is_in_group r m n && has_fault r m) (length r.accepted) e in
      let m : ℕ = found.0 in
      let low : m < length r.accepted = found.1 in
      let parts = and_parts (is_in_group r m n) (has_fault r m) found.2 in
      let more = same.count in
      some_below_some (λ j. is_in_group q j n && has_fault q j) (length q.accepted) m (omega (arith, low, more))
      (and_from _ _ (joined_kept (min m n) (max m n) (omega (arith, low, lt)) ∙ parts.0) (same.fault m low ∙ parts.1))

  pub right_kept : (n : ℕ) → n < length r.accepted → is_in_faulty_group q n ≡ false → is_in_faulty_group r n ≡ false
  right_kept n lt right = false_from_ne_true _ (λ e. both_ways _ right (faulty_kept n lt e))

pub accepted_faults : (r : Requests) (e : Sqe) → FaultsKept r (manual.with_accepted r e)
accepted_faults r e = grind (arith, (length-append r.accepted (e ∷ [])), last_accepted, (entry_same r e is_faulty), (refused_accepted r e))

pub cut_faults : (r : Requests) → FaultsKept r (manual.with_cut r)
cut_faults r = grind (arith, is_last_cut)

pub faulty_started : (r : Requests) (n m : ℕ) → is_in_faulty_group (manual.with_started r n) m ≡ is_in_faulty_group r m
unfolding is_in_faulty_group is_joined
faulty_started r n m = refl

pub faulty_ended : (r : Requests) (n : ℕ) (res : ℤ) (bytes : List ℕ) (m : ℕ)
    → is_in_faulty_group (manual.with_ended r n res bytes) m ≡ is_in_faulty_group r m
unfolding is_in_faulty_group is_joined
faulty_ended r n res bytes m = refl

-- The entries from one number on are one group: with a fault in one of them each is in a group with a fault, and else none has one.

pub group_faulty : (r : Requests) (from n : ℕ)
    → ((k : ℕ) → from ≤ k → suc k < length r.accepted → is_last r k ≡ false) → from ≤ n
    → n < length r.accepted → is_faulty_from r from ≡ true → is_in_faulty_group r n ≡ true
unfolding is_in_faulty_group is_faulty_from
group_faulty r from n one low high e =
    let found = some_below_in (λ m. nat_le from m && has_fault r m) (length r.accepted) e in
    let m : ℕ = found.0 in
    let within : m < length r.accepted = found.1 in
    let parts = and_parts (nat_le from m) (has_fault r m) found.2 in
    let under : from ≤ m = leb-true from m parts.0 in
    some_below_some (λ j. is_in_group r j n && has_fault r j) (length r.accepted) m within
    (and_from _ _ (is_joined_yes r (min m n) (max m n) (λ k le lt. one k (omega (arith, low, under, le)) (omega (arith, lt, within, high)))) parts.1)

pub healthy_from : (r : Requests) (from : ℕ) → is_faulty_from r from ≡ false → (k : ℕ) → from ≤ k → k < length r.accepted
    → has_fault r k ≡ false
unfolding is_faulty_from
healthy_from r from e k le lt = grind (arith, (some_below_out _ (length r.accepted) e k lt), (le-leb from k le))
