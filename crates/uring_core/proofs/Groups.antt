-- A call accepts entries, and closes: what stands before it stays.
use Rattle.std.proofs.Common.{◌≡◌, ℕ, ◌+◌, ◌-◌, ◌==◌, ◌<◌, ◌≤◌, min, max, neg_ℤ, if◌then◌else◌, List, length, Bool, true, false, not, ◌&&◌, leb, ◌∙◌, ap, arith, ◌⊎◌}
use Rattle.uring_core.proofs.Common.{Requests, Sqe, entry_of, eq-eqb, get_or_append_left, int_eq, is_after_failure, is_doomed, is_faulty, is_in_group, is_joined, is_joined_no, is_last, length-append, list_any, list_any_push, ne_eqb, some_member, with_call, zero_entry}
use Rattle.uring_entry.specs.declared.errno.TheConstants.{EINVAL, ECANCELED}
use Rattle.uring_entry.proofs.BelowLemmas.{some_below_same, some_below_between}
use Rattle.uring_core.proofs.SoundRequests.{IsSoundRequests, IsSoundManual, EndsDoomed}
use Rattle.uring_core.proofs.ListCounts.{any_kept}

module _ (r : Requests) (entries : List Sqe) (cut : (length r.accepted ≡ 0) ⊎ (list_any (λ c. c == length r.accepted) r.cuts ≡ true)) where
  pub longer : length r.accepted ≤ length (with_call r entries).accepted
  longer = omega (arith, length-append r.accepted entries)

  pub entry_kept : (k : ℕ) → k < length r.accepted → entry_of (with_call r entries) k ≡ entry_of r k
  entry_kept k lt = get_or_append_left r.accepted entries zero_entry k lt

  -- the last of the entries before is the last of its group
  last_before : (k : ℕ) → k + 1 ≡ length r.accepted → is_last (with_call r entries) k ≡ true
  last_before k end = grind (arith, any_kept)

  last_kept : (k : ℕ) → k + 1 < length r.accepted → is_last (with_call r entries) k ≡ is_last r k
  last_kept k lt = grind (arith, longer, entry_kept, list_any_push, ne_eqb)

  pub join_kept : (m n : ℕ) → n < length r.accepted
      → is_joined (with_call r entries) m n ≡ is_joined r m n
  unfolding is_joined
  join_kept m n lt = ap not (some_below_same (λ k. leb m k && is_last (with_call r entries) k) (λ k. leb m k && is_last r k) n (λ k below. ap (λ b. leb m k && b) (last_kept k (omega arith))))

  group_kept : (m n : ℕ) → m < length r.accepted → n < length r.accepted → is_in_group (with_call r entries) m n ≡ is_in_group r m n
  group_kept m n lt below = join_kept (min m n) (max m n) (omega arith)

  -- what is accepted now is of no group before
  group_apart : (m n : ℕ) → length r.accepted ≤ m → n < length r.accepted → is_in_group (with_call r entries) m n ≡ false
  group_apart m n le below =
      grind (arith, (is_joined_no (with_call r entries) (min m n) (max m n) (length r.accepted - 1)), (last_before (length r.accepted - 1)))

  pub member_kept : (p : Sqe → Bool) (n : ℕ) → n < length r.accepted
      → some_member (with_call r entries) p n ≡ some_member r p n
  unfolding some_member
  member_kept p n below =
      some_below_between (λ m. is_in_group (with_call r entries) m n && p (entry_of (with_call r entries) m)) (length r.accepted) (length (with_call r entries).accepted) longer
      (λ k le lt. grind (arith, group_apart))
      ∙ some_below_same _ (λ m. is_in_group r m n && p (entry_of r m)) (length r.accepted) (λ k lt. grind (arith, group_kept, entry_kept))

  after_kept : (n : ℕ) → n < length r.accepted → is_after_failure (with_call r entries) n ≡ is_after_failure r n
  unfolding is_after_failure
  after_kept n below = grind (arith, some_below_same, join_kept, entry_kept)

  pub doom_kept : (n : ℕ) → n < length r.accepted
      → is_doomed (with_call r entries) n ≡ is_doomed r n
  unfolding is_doomed
  doom_kept n below = grind (arith, member_kept, after_kept)

  ends_kept : (n : ℕ) → n < length r.accepted → EndsDoomed r n → EndsDoomed (with_call r entries) n
  ends_kept n below d = ap (λ e. list_any (λ x. (x.number == n) && not (int_eq x.res (if is_faulty e then neg_ℤ EINVAL else neg_ℤ ECANCELED))) r.ended) (entry_kept n below) ∙ d

  pub call_sound : IsSoundRequests r → IsSoundRequests (with_call r entries)
  call_sound s = grind (arith, longer, list_any_push, eq-eqb, entry_kept)

  pub call_manual : IsSoundRequests r → IsSoundManual r → IsSoundManual (with_call r entries)
  call_manual s m = grind (arith, (λ (n : ℕ). doom_kept n), join_kept, (λ (n : ℕ). ends_kept n))
