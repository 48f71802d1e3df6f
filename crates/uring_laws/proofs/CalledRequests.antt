-- Who can start before a call accepts entries can start after it, and the other way round, by either's rules. By Linux's no group that was deferred goes on by a call: something else is outstanding then.
use Rattle.std.proofs.Common.{◌≡◌, ℕ, ◌<◌, ◌≤◌, Bool, true, false, not, ◌&&◌, List, [], ◌∷◌, length, arith}
use Rattle.uring_laws.proofs.Common.{HasGoneOn, IsBetween, LinuxRequests, Requests, Sqe, both_ways, deferred_with, doom_kept, entry_kept, false_from_ne_true, has_ended, in_pushed, is_alone, is_deferred, is_in_some, is_in_turn, is_outstanding, is_ready, join_kept, keeps_back, length_push, longer, member_kept, not-false, not_alone, pushed_old, some_below_in, some_below_same, still_fewer, true_from_ne_false, with_accepted, with_call, with_cut, with_entries, with_group, with_last_entry, ◌↔◌}
use Rattle.uring_laws.proofs.Growth.{IsCut}
use Rattle.uring_entry.specs.Requests as manual
use Rattle.uring_rules.specs.RulesCalls.{called_by}
use Rattle.uring_laws.proofs.LinuxSound.{doom_called}
use Rattle.uring_laws.proofs.StartedRequests.{CanStart}
use Rattle.uring_laws.proofs.EndedRequests.{unmoved}

-- Who is deferred after a call.

-- what is so of q after l, between whose calls more is accepted
record Follows (l q : LinuxRequests) : Type 0 where
  low : length l.requests.accepted ≤ q.drains.from
  high : q.drains.from ≤ length q.requests.accepted
  ended : (k : ℕ) → has_ended q.requests k ≡ has_ended l.requests k
  same : (n : ℕ) → n < length l.requests.accepted → is_deferred q n ≡ is_deferred l n

-- not all that is outstanding is deferred, if it wasn't
apart_still : (l q : LinuxRequests) → Follows l q → is_alone l.requests l.drains.deferred ≡ false
    → is_alone q.requests (deferred_with q.drains (length q.requests.accepted)) ≡ false
unfolding is_alone
apart_still l q f apart =
    let found = some_below_in (λ k. not (has_ended l.requests k) && not (is_deferred l k)) (length l.requests.accepted) (not-false _ apart) in
    grind (arith, found, not_alone, in_pushed, false_from_ne_true, both_ways)

module _ (l : LinuxRequests) (gone : HasGoneOn l.requests l.drains.deferred) where
  -- after one group that is accepted
  group_follows : (q : LinuxRequests) → Follows l q → Follows l (record q { drains = with_group q.requests q.drains })
  group_follows q f =
      grind (arith, apart_still, unmoved, pushed_old, in_pushed, still_fewer, true_from_ne_false, both_ways)

  accepted_follows : (q : LinuxRequests) (e : Sqe) → Follows l q → Follows l (with_accepted q e)
  accepted_follows q e f =
      let r = manual.with_accepted q.requests e in
      grind (arith, length_push, (group_follows (record { requests = r; drains = with_last_entry r (length q.requests.accepted) q.drains })))

  entries_follow : (xs : List Sqe) (q : LinuxRequests) → Follows l q → Follows l (with_entries q xs)
  entries_follow [] q f = f
  entries_follow (x ∷ xs) q f = entries_follow xs (with_accepted q x) (accepted_follows q x f)

  cut_follows : (q : LinuxRequests) → Follows l q → Follows l (with_cut q)
  cut_follows q f = grind (arith, (group_follows (record q { requests = manual.with_cut q.requests })))

-- between calls, who was accepted is deferred after a call exactly if it was before
deferred_called : (l : LinuxRequests) (entries : List Sqe) (n : ℕ) → n < length l.requests.accepted → IsBetween l
    → is_in_some (with_cut (with_entries l entries)).drains.deferred n ≡ is_deferred l n
deferred_called l entries n within b = grind (arith, cut_follows, entries_follow)

-- Who can start.

module _ (r : Requests) (entries : List Sqe) (cut : IsCut r) (n : ℕ) (within : n < length r.accepted) where
  pub ready_kept : is_ready (with_call r entries) n ≡ is_ready r n
  unfolding is_ready
  ready_kept = grind (arith, some_below_same, member_kept, join_kept)

  turn_kept : is_in_turn (with_call r entries) n ≡ is_in_turn r n
  unfolding is_in_turn
  turn_kept = grind (arith, (some_below_same (keeps_back (with_call r entries) n) (keeps_back r n) n), join_kept)

  pub outstanding_kept : is_outstanding (with_call r entries) n ≡ is_outstanding r n
  outstanding_kept = grind (arith, (longer r entries cut))

pub start_kept : (l : LinuxRequests) (entries : List Sqe) → IsCut l.requests → (n : ℕ) → n < length l.requests.accepted
    → (linux : Bool) → (linux ≡ true → IsBetween l) → CanStart linux l n ↔ CanStart linux (called_by linux l entries) n
start_kept l entries cut n within linux so =
    grind (arith, outstanding_kept, turn_kept, doom_called, doom_kept, deferred_called, ready_kept, entry_kept)
