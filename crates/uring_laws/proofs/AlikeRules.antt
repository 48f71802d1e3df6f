-- Requests with other lists, of which the definitions read the same, stand alike by the rules of each set-up, if by Linux's the drains stand the same.
use Rattle.std.proofs.Common.{◌≡◌, ℕ, ◌==◌, ℤ, Bool, true, false, ◌++◌, ◌∷◌, [], List, refl, sym, rules}
use Rattle.uring_laws.proofs.Common.{Drains, Ending, LinuxRequests, Sqe, StandAlike, drains_called, drains_ended, list_any, may_start, no_bytes, is_after_failure, is_doomed, is_in_turn, is_joined, is_ready, keeps_back, some_member, is_in_faulty_group}
use Rattle.uring_rules.specs.Rules.{next_of, with_issued_end, is_issuable}
use Rattle.std.proofs.lemmas.List.Folds.{list_any-append}
use Rattle.uring_entry.specs.Requests as manual
use Rattle.uring_linux.specs.LinuxRequests as kernel
use Rattle.uring_laws.proofs.AlikeRequests.{AreSame, ReadSame, read_same, listed, chosen_same}
use Rattle.uring_laws.proofs.AlikeDrains.{called_same, going_same}

-- what is pushed after both is found in both
pub pushed : {X : Type 0} (p : X → Bool) (xs ys zs : List X) → list_any p xs ≡ list_any p ys
    → list_any p (xs ++ zs) ≡ list_any p (ys ++ zs)
pushed p xs ys zs e = simp (list_any-append, e)

-- requests with other lists, and drains that stand the same by Linux's rules
abbrev pub relisted : LinuxRequests → List ℕ → List ℕ → List Ending → Drains → LinuxRequests
relisted l s c e d = record { requests = listed l.requests s c e; drains = d }

module _ (l : LinuxRequests) (s c : List ℕ) (e : List Ending) (a : ReadSame l.requests s c e) where
  pub may_start_same : (linux : Bool) (d : Drains) → (linux ≡ true → l.drains ≡ d) → (n : ℕ)
      → may_start linux (relisted l s c e d) n ≡ may_start linux l n
  unfolding is_in_turn is_ready some_member is_joined
  may_start_same true d same n = rw (← same refl) (simp (a.ended, keeps_back))
  may_start_same false d same n = simp (a.ended, manual.holds_back)

  pub next_of_same : (linux : Bool) (d : Drains) → (linux ≡ true → l.drains ≡ d)
      → next_of linux (relisted l s c e d) ≡ next_of linux l
  unfolding is_in_turn is_in_faulty_group is_doomed is_after_failure is_ready some_member is_joined
  next_of_same true d same = rw (← same refl) (simp (a.started, a.ended, a.failed, is_issuable, kernel.is_issuable, kernel.goes_on, keeps_back))
  next_of_same false d same = simp (a.started, a.cancelled, a.ended, a.failed, is_issuable, manual.is_issuable, manual.holds_back)

  pub drains_called_same : (linux : Bool) (d : Drains) → l.drains ≡ d → (entries : List Sqe)
      → drains_called linux l entries ≡ drains_called linux (relisted l s c e d) entries
  drains_called_same linux d same entries = sym (rw (← same, called_same l s c e a.ended entries))

-- and, where the same is found in the lists, once a request ends
module _ (l : LinuxRequests) (s c : List ℕ) (e : List Ending) (a : AreSame l.requests s c e) where
  pub ended_same : (n : ℕ) (res : ℤ) (bytes : List ℕ)
      → AreSame (manual.with_ended l.requests n res bytes) s c (e ++ record { number = n; res = res; bytes = bytes } ∷ [])
  ended_same n res bytes = search (rules, pushed, a)

  pub drains_ended_same : (linux : Bool) (d : Drains) → l.drains ≡ d → (n : ℕ) (res : ℤ)
      → drains_ended linux l n res ≡ drains_ended linux (relisted l s c e d) n res
  drains_ended_same linux d same n res =
      sym (rw (← same, going_same (manual.with_ended l.requests n res no_bytes) s c _ (λ k. sym ((ended_same n res no_bytes).ended (λ x. x.number == k)))))

  -- who ends as it is issued dooms the same requests
  pub issued_end_same : (linux : Bool) (n : ℕ) (res : ℤ)
      → StandAlike (with_issued_end linux l.requests n res) (with_issued_end linux (listed l.requests s c e) n res)
  issued_end_same true n res = assumption (ended_same n res no_bytes)
  issued_end_same false n res = rw (chosen_same l.requests s c e (read_same l.requests s c e a) n res) (search (rules, ended_same n res no_bytes, pushed, a))
