-- What holds of the requests stays as one ends.
use Rattle.std.proofs.Common.{◌≡◌, count_by, ◌≤◌, ◌≢◌, ℕ, ◌==◌, ◌<◌, ℤ, pos, neg_ℤ, List, [], ◌∷◌, ◌++◌, length, Bool, true, false, not, refl, sym, ◌∙◌, ◌⊎◌, inl, inr, arith}
use Rattle.uring_core.proofs.Common.{Chose, Requests, all_success, and_from, and_parts, cancel_result, choices_of, chosen_by, cond_both, doomed_result, entry_of, eqb-true, has_ended, has_started, int_eq, is_cancel, is_cancel_all, is_cancelled, is_doomed, is_doomed_after, is_doomed_cancelled, is_doomed_faulty, is_faulty, is_joined, is_outstanding, is_ready, is_running, list_any, list_any_push, lt-ltb, never_success, no_bytes, one_success, option_to_list, or_cases, some_member, target_in, target_of, targets_of, with_ended, with_issued_end}
use Rattle.std.proofs.lemmas.Bool.Decides.{Decides-int_eq}
use Rattle.std.proofs.lemmas.List.Folds.{list_any-append}
use Rattle.uring_entry.specs.Success.{is_success}
use Rattle.uring_entry.specs.declared.errno.TheConstants.{EINVAL, ECANCELED}
use Rattle.uring_rules.specs.Rules as by_rules
use Rattle.uring_core.proofs.ListCounts.{any_looser, any_kept, any_new, count_once_more}
use Rattle.uring_entry.proofs.EventLemmas.{is_doomed_tells, is_after_failure_tells, is_after_failure_from, target_of_tells}
use Rattle.uring_core.proofs.SoundRequests.{IsFree, EndsDoomed, IsSoundRequests, IsSoundManual, outstanding_tells, idle_tells, ready_first}

-- A request ends, and these are the ones that cancels chose so far.
abbrev pub ended_as : Requests → ℕ → ℤ → List ℕ → List ℕ → Requests
ended_as r n res bytes cancelled = record r { cancelled = cancelled; ended = r.ended ++ record { number = n; res = res; bytes = bytes } ∷ [] }

pub end_sound : (r : Requests) (n : ℕ) (res : ℤ) (bytes : List ℕ) (cancelled : List ℕ)
    → is_outstanding r n ≡ true → IsSoundRequests r
    → IsSoundRequests (ended_as r n res bytes cancelled)
end_sound r n res bytes cancelled outstanding s =
    let within : (m : ℕ) → has_ended (ended_as r n res bytes cancelled) m ≡ true → m < length r.accepted =
    λ m e. grind (arith, list_any_push, eqb-true, outstanding_tells) in
    let once : (m : ℕ) → count_by (λ e. e.number == m) (ended_as r n res bytes cancelled).ended ≤ 1 =
    λ m. count_once_more (λ x. x.number == m) r.ended _ (s.ends_once m) (λ same. grind (arith, eqb-true, outstanding_tells)) in
    assumption (s, within, once)

-- a request ends as it is issued, by either's rules
pub issued_end_sound : (linux : Bool) (r : Requests) (n : ℕ) (res : ℤ) → is_outstanding r n ≡ true
    → IsSoundRequests r → IsSoundRequests (by_rules.with_issued_end linux r n res)
issued_end_sound linux r n res outstanding s =
    grind (arith, (end_sound r n res no_bytes r.cancelled), (end_sound r n res no_bytes (r.cancelled ++ chosen_by r n res)))

-- a running request ends
pub finish_sound : (r : Requests) (n : ℕ) (res : ℤ) (bytes : List ℕ) → is_running r n ≡ true
    → IsSoundRequests r → IsSoundRequests (with_ended r n res bytes)
finish_sound r n res bytes running s = end_sound r n res bytes r.cancelled (grind (arith, lt-ltb)) s

-- a cancel chose m, which is another request than n, and has neither started nor ended
pub record IsChosen (r : Requests) (n m : ℕ) : Type 0 where
  pub other : m ≢ n
  pub unstarted : has_started r m ≡ false
  pub unended : has_ended r m ≡ false
  pub accepted : m < length r.accepted

-- those that cancels chose, with what the end of n adds
pub record IsChoice (r : Requests) (n : ℕ) (cancelled : List ℕ) : Type 0 where
  pub kept : (m : ℕ) → is_cancelled r m ≡ true → list_any (λ k. k == m) cancelled ≡ true
  pub added : (m : ℕ) → list_any (λ k. k == m) cancelled ≡ true
      → (is_cancelled r m ≡ true) ⊎ IsChosen r n m

module _ (r : Requests) (n : ℕ) (res : ℤ) (bytes : List ℕ) (cancelled : List ℕ) (choice : IsChoice r n cancelled) where
  pub end_join : (k m : ℕ) → is_joined (ended_as r n res bytes cancelled) k m ≡ is_joined r k m
  unfolding is_joined
  end_join k m = refl

  -- who is doomed stays doomed
  pub end_doom : (m : ℕ) → is_doomed r m ≡ true
      → is_doomed (ended_as r n res bytes cancelled) m ≡ true
  unfolding is_joined some_member
  end_doom m doomed =
      grind (arith, (is_doomed_tells r m doomed), (is_doomed_faulty (ended_as r n res bytes cancelled) m), (is_after_failure_tells r m), (is_after_failure_from (ended_as r n res bytes cancelled) m), (is_doomed_after (ended_as r n res bytes cancelled) m), (is_doomed_cancelled (ended_as r n res bytes cancelled) m), list_any_push, (choice.kept m))

  -- who is doomed newly is a later member of n's group, or chosen
  end_doomed : (m : ℕ) → is_doomed (ended_as r n res bytes cancelled) m ≡ true → (is_doomed r m ≡ true) ⊎ (((n < m) × (is_joined r n m ≡ true)) ⊎ IsChosen r n m)
  unfolding is_joined some_member
  end_doomed m doomed =
      grind (arith, (is_doomed_tells (ended_as r n res bytes cancelled) m doomed), (is_doomed_faulty r m), (is_after_failure_tells (ended_as r n res bytes cancelled) m), (is_after_failure_from r m), (is_doomed_after r m), (is_doomed_cancelled r m), list_any_push, eqb-true, (choice.added m))

  -- who is free stays free, unless chosen
  free_kept : (m : ℕ) → has_ended r n ≡ false → (IsChosen r n m → ⊥) → IsFree r m → IsFree (ended_as r n res bytes cancelled) m
  free_kept m unended unchosen f = grind (arith, end_doomed, end_join, list_any_push)

  -- the first end of a doomed request
  ends_doomed_first : has_ended r n ≡ false → res ≡ doomed_result r n → EndsDoomed (ended_as r n res bytes cancelled) n
  ends_doomed_first unended is =
      grind (arith, list_any_push, (any_looser (λ e. e.number == n) (λ e. not (int_eq e.res (doomed_result r n))) r.ended), Decides-int_eq)

  -- how the end of n came: n was doomed, with that result, or free
  pub end_manual : is_outstanding r n ≡ true → (res ≡ doomed_result r n) ⊎ IsFree r n
      → IsSoundManual r → IsSoundManual (ended_as r n res bytes cancelled)
  end_manual outstanding how s = record {
    started_free = λ m e. grind (arith, outstanding_tells, (free_kept m), (s.started_free m e));
    ended_how = λ m e. grind (arith, outstanding_tells, (any_new (λ x. x.number == m) r.ended (record { number = n; res = res; bytes = bytes }) e), (s.ended_how m), list_any_push, ends_doomed_first, free_kept, eqb-true);
  }

-- nothing is chosen where a running request ends
pub no_choice : (r : Requests) (n : ℕ) → IsChoice r n r.cancelled
no_choice r n = record { kept = λ m e. e; added = λ m e. inl e }

pub finish_manual : (r : Requests) (n : ℕ) (res : ℤ) (bytes : List ℕ) → is_running r n ≡ true
    → IsSoundRequests r → IsSoundManual r → IsSoundManual (with_ended r n res bytes)
finish_manual r n res bytes running s m = grind (arith, and_parts, end_manual, no_choice, and_from, lt-ltb)

-- What a cancel chooses.

pub any_both : {X : Type 0} (p : X → Bool) (xs ys : List X) → list_any p (xs ++ ys) ≡ true
    → (list_any p xs ≡ true) ⊎ (list_any p ys ≡ true)
any_both p xs ys e = or_cases _ _ (sym (list_any-append p xs ys) ∙ e)

-- whom a cancel chose that succeeded with this result
chose_so : (r : Requests) (n : ℕ) (res : ℤ) (m : ℕ) → is_cancel (entry_of r n) ≡ true
    → is_success (entry_of r n) res ≡ true → list_any (λ k. k == m) (choices_of r n) ≡ true
    → Chose r n res m
chose_so r n res m cancel success there =
    cond_both (is_cancel_all (entry_of r n)) (targets_of r n) (option_to_list (target_of r n))
    (λ xs. list_any (λ k. k == m) xs ≡ true → Chose r n res m)
    (λ all among. grind (arith, (all_success (entry_of r n) res all), (target_in r n m among)))
    (λ one among. grind (arith, (one_success (entry_of r n) res cancel one), (Decides-int_eq res (pos 0)), or_cases, eqb-true))
    there

-- who is chosen with a result
pub chose : (r : Requests) (n : ℕ) (res : ℤ) (m : ℕ)
    → list_any (λ k. k == m) (chosen_by r n res) ≡ true
    → (is_success (entry_of r n) res ≡ true) × Chose r n res m
chose r n res m e = grind (arith, (chose_so r n res m))

-- no doomed request succeeds
pub doomed_fails : (r : Requests) (n : ℕ) → is_success (entry_of r n) (doomed_result r n) ≡ false
doomed_fails r n = cond_both (is_faulty (entry_of r n)) (neg_ℤ EINVAL) (neg_ℤ ECANCELED) (λ res. is_success (entry_of r n) res ≡ false) (λ _. never_success (entry_of r n) 21) (λ _. never_success (entry_of r n) 124)

module _ (r : Requests) (n : ℕ) where
  -- whom a cancel chose
  is_chosen : (m : ℕ) → Chose r n (cancel_result r n) m → IsChosen r n m
  is_chosen m c = grind (arith, (target_of_tells r n m), (outstanding_tells r m), (idle_tells r m), Decides-int_eq)

  -- who is chosen by the end of n with this result
  pub choice_of : (res : ℤ) → (res ≡ doomed_result r n) ⊎ (res ≡ cancel_result r n)
      → IsChoice r n (r.cancelled ++ chosen_by r n res)
  choice_of res how =
      grind (arith, (λ (m : ℕ). any_kept (λ k. k == m) r.cancelled (chosen_by r n res)), (λ (m : ℕ). any_both (λ k. k == m) r.cancelled (chosen_by r n res)), (chose r n res), (doomed_fails r n), is_chosen)

pub doom_manual : (r : Requests) (n : ℕ) → is_outstanding r n ≡ true → IsSoundManual r
    → IsSoundManual (with_issued_end r n (doomed_result r n))
doom_manual r n outstanding s = end_manual r n _ no_bytes _ (choice_of r n _ (inl refl)) outstanding (inl refl) s

pub cancel_manual : (r : Requests) (n : ℕ) → is_outstanding r n ≡ true → is_doomed r n ≡ false
    → is_ready r n ≡ true → IsSoundManual r
    → IsSoundManual (with_issued_end r n (cancel_result r n))
cancel_manual r n outstanding spared ready s =
    end_manual r n _ no_bytes _ (choice_of r n _ (inr refl)) outstanding (inr (record { spared = spared; first = ready_first r n ready })) s
