-- What holds of the requests of every lawful history by Linux's rules: whoever started or ended did so in its turn, so that it stays as doomed or spared as it was then.
-- By `Change`, event by event, and over a history by induction (`linux_sound`).
use Rattle.std.proofs.Common.{◌≡◌, ℕ, ◌-◌, ◌==◌, ◌<◌, ◌≤◌, ℤ, min, max, List, [], ◌∷◌, length, Bool, true, false, not, ◌&&◌, refl, sym, subst, ◌∙◌, ap, arith}
use Rattle.uring_laws.proofs.Common.{Answer, Change, Decides-int_eq, Ending, History, IsLawfulApart, IsSoundRequests, Requests, Setup, Sqe, Step, World, any_kept, any_looser, any_new, both_ways, by_linux, cancels, change_of, dooms, entry_kept, eqb-true, false_from_ne_true, faulty_ended, finishes, happens, has_ended, has_failed_other, has_fault, has_started, int_eq, is_after_failure, is_after_failure_from, is_after_failure_tells, is_failure_before, is_in_group, is_in_turn, is_joined, is_joined_ended, is_joined_no, is_joined_started, is_refused_drain, join_kept, keeps_back, list_any, list_any_push, longer, not-true, or_from, outstanding_tells, refuses, requests_of, runs, some_below_between, some_below_out, some_below_same, sound_of, with_call, with_ended, with_started, world, is_in_faulty_group}
use Rattle.uring_core.proofs.Changes.{closes}
use Rattle.uring_linux.specs.LinuxRequests.{is_doomed, doomed_result}
use Rattle.uring_laws.proofs.Growth.{IsCut}

-- what is so of each set-up once its rules are Linux's is so of those of which they are
pub of_linux : (P : Setup → Type 0) → ((g : Setup) → P (by_linux g)) → (g : Setup)
    → g.linux ≡ true → P g
of_linux P holds g is = subst P (sym (ap (λ linux. record g { linux = linux }) is)) (holds g)

-- The invariant.

-- all the earlier members of n's group have ended
abbrev pub IsFirst : Requests → ℕ → Type 0
IsFirst r n = (k : ℕ) → k < n → is_joined r k n ≡ true → has_ended r k ≡ true

-- whether an end is one of n with another result than a doomed request has
abbrev pub is_otherwise : Requests → ℕ → Ending → Bool
is_otherwise r n e = (e.number == n) && not (int_eq e.res (doomed_result r n))

pub record IsSoundLinux (r : Requests) : Type 0 where
  pub started_spared : (n : ℕ) → has_started r n ≡ true → is_doomed r n ≡ false
  pub started_first : (n : ℕ) → has_started r n ≡ true → IsFirst r n
  pub ended_first : (n : ℕ) → has_ended r n ≡ true → IsFirst r n
  pub ended_how : (n : ℕ) → has_ended r n ≡ true → is_doomed r n ≡ true
      → list_any (is_otherwise r n) r.ended ≡ false

-- whoever is in its turn is after no member of its group that hasn't ended
pub turn_first : (r : Requests) (n : ℕ) → is_in_turn r n ≡ true → IsFirst r n
unfolding is_in_turn
turn_first r n turn k lt joined = grind (arith, (some_below_out (keeps_back r n) n (not-true _ turn) k lt), (not-true _ turn))

-- A request starts: neither groups nor who is doomed change.

pub doom_started : (r : Requests) (n m : ℕ) → is_doomed (with_started r n) m ≡ is_doomed r m
unfolding is_in_faulty_group is_after_failure is_joined
doom_started r n m = refl

pub start_linux : (r : Requests) (n : ℕ) → is_doomed r n ≡ false → IsFirst r n → IsSoundLinux r
    → IsSoundLinux (with_started r n)
start_linux r n spared first s = grind (arith, doom_started, any_new, is_joined_started)

-- A request ends.

-- by either's rules the end of another counts for nobody who isn't after it in its group
pub failure_end : (r : Requests) (m : ℕ) (res : ℤ) (bytes : List ℕ) (n : ℕ)
    → (m < n → is_joined r m n ≡ false) → (k : ℕ) → k < n
    → is_failure_before (with_ended r m res bytes) n k ≡ is_failure_before r n k
unfolding is_joined
failure_end r m res bytes n apart k low = grind (arith, has_failed_other)

pub after_end : (r : Requests) (m : ℕ) (res : ℤ) (bytes : List ℕ) (n : ℕ)
    → (m < n → is_joined r m n ≡ false)
    → is_after_failure (with_ended r m res bytes) n ≡ is_after_failure r n
unfolding is_after_failure
after_end r m res bytes n apart = grind (arith, some_below_same, failure_end)

module _ (r : Requests) (n : ℕ) (res : ℤ) (bytes : List ℕ) where
  pub first_ended : (m : ℕ) → IsFirst r m → IsFirst (with_ended r n res bytes) m
  first_ended m first k lt joined = any_kept (λ x. x.number == k) r.ended _ (first k lt (sym (is_joined_ended r n res bytes k m) ∙ joined))

  -- who was in its turn while n hadn't ended stays as doomed as it was
  pub doom_ended : (m : ℕ) → has_ended r n ≡ false → IsFirst r m
      → is_doomed (with_ended r n res bytes) m ≡ is_doomed r m
  doom_ended m still first = grind (arith, faulty_ended, after_end)

  -- the first end of a doomed request
  ends_first : has_ended r n ≡ false → res ≡ doomed_result r n
      → list_any (is_otherwise (with_ended r n res bytes) n) (with_ended r n res bytes).ended ≡ false
  ends_first still is =
      grind (arith, list_any_push, (any_looser (λ (e : Ending). e.number == n) (λ e. not (int_eq e.res (doomed_result r n))) r.ended), ((Decides-int_eq res (doomed_result r n)).1 is), or_from, false_from_ne_true)

  pub end_linux : has_ended r n ≡ false → IsFirst r n
      → (is_doomed r n ≡ true → res ≡ doomed_result r n) → IsSoundLinux r
      → IsSoundLinux (with_ended r n res bytes)
  end_linux still first how s =
      record {
        started_spared = λ m e. doom_ended m still (s.started_first m e) ∙ s.started_spared m e;
        started_first = λ m e. first_ended m (s.started_first m e);
        ended_first = grind (arith, any_new, first_ended);
        ended_how = grind (arith, any_new, list_any_push, or_from, false_from_ne_true, both_ways, eqb-true, doom_ended, ends_first);
      }

  -- who is after a failure, or doomed, stays so, whoever ends
  pub after_stays : (m : ℕ) → is_after_failure r m ≡ true → is_after_failure (with_ended r n res bytes) m ≡ true
  after_stays m after =
      let t = is_after_failure_tells r m after in
      grind (arith, (is_after_failure_from (with_ended r n res bytes) m t.0), (is_joined_ended r n res bytes t.0 m), any_kept, t)

  pub doom_stays : (m : ℕ) → is_doomed r m ≡ true → is_doomed (with_ended r n res bytes) m ≡ true
  doom_stays m doomed = grind (arith, faulty_ended r n res bytes m, after_stays m, doomed)

-- A call accepts entries, and closes: what stands before it stays.

module _ (r : Requests) (entries : List Sqe) (cut : IsCut r) where
  -- what is accepted now is of no group before
  group_apart : (m n : ℕ) → length r.accepted ≤ m → n < length r.accepted → is_in_group (with_call r entries) m n ≡ false
  group_apart m n le below = grind (arith, (is_joined_no (with_call r entries) (min m n) (max m n) (length r.accepted - 1)), any_kept)

  refused_kept : (n : ℕ) → n < length r.accepted → is_refused_drain (with_call r entries) n ≡ is_refused_drain r n
  refused_kept n below = grind (arith, some_below_same, entry_kept)

  faulty_kept : (n : ℕ) → n < length r.accepted → is_in_faulty_group (with_call r entries) n ≡ is_in_faulty_group r n
  unfolding is_in_faulty_group
  faulty_kept n below =
      grind (arith, (some_below_between (λ m. is_in_group (with_call r entries) m n && has_fault (with_call r entries) m) (length r.accepted) (length (with_call r entries).accepted) (longer r entries cut)), group_apart, some_below_same, join_kept, entry_kept, refused_kept)

  after_kept : (n : ℕ) → n < length r.accepted → is_after_failure (with_call r entries) n ≡ is_after_failure r n
  unfolding is_after_failure
  after_kept n below = grind (arith, some_below_same, join_kept, entry_kept)

  pub doom_called : (n : ℕ) → n < length r.accepted
      → is_doomed (with_call r entries) n ≡ is_doomed r n
  doom_called n below = grind (arith, faulty_kept, after_kept)

  result_kept : (n : ℕ) → n < length r.accepted → doomed_result (with_call r entries) n ≡ doomed_result r n
  result_kept n below = grind (arith, entry_kept, refused_kept)

  pub call_linux : IsSoundRequests r → IsSoundLinux r → IsSoundLinux (with_call r entries)
  call_linux i s = grind (arith, doom_called, result_kept, join_kept)

-- Histories.

linux_kept : (g : Setup) (w : World) (s : Step) (a : Answer) → Change (by_linux g) w s a
    → IsSoundRequests w.requests → IsSoundLinux w.requests
    → IsSoundLinux (happens (by_linux g) w s a).requests
linux_kept g w s a (refuses _ _ same silent) i sound = grind arith
linux_kept g w s a (closes accepted missed head call opened all told) i sound = grind (arith, call_linux)
linux_kept g w s a (runs n outstanding idle spared ready no_cancel) i sound = grind (arith, start_linux, turn_first)
linux_kept g w s a (dooms n outstanding idle doomed) i sound = grind (arith, end_linux, turn_first)
linux_kept g w s a (cancels n outstanding idle spared ready cancel) i sound =
    grind (arith, requests_of, end_linux, outstanding_tells, turn_first, both_ways)
linux_kept g w s a (finishes n res bytes running) i sound = grind (arith, end_linux, not-true)
linux_kept g w s a _ i sound = grind arith

pub linux_sound : (g : Setup) (h : History) → IsLawfulApart (by_linux g) h
    → IsSoundLinux (world (by_linux g) h).requests
linux_sound g [] lawful = grind arith
linux_sound g ((s, a) ∷ before) lawful = grind (arith, linux_kept, change_of, sound_of, (linux_sound g before lawful.1))
