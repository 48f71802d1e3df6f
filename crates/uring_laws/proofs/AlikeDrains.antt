-- What calls and ends make of the drains, by Linux's rules, reads of the lists of requests only which numbers have ended: who started counts for nothing there.
use Rattle.std.proofs.Common.{◌≡◌, ℕ, List, [], ◌∷◌, ap, ◌∙◌}
use Rattle.uring_laws.proofs.Common.{Deferred, Ending, LinuxRequests, Requests, Sqe, after_going_on, is_alone, is_faulty_from, with_accepted, with_cut, with_entries}
use Rattle.uring_laws.proofs.AlikeRequests.{listed, EndSame}

pub going_same : (r : Requests) (s c : List ℕ) (e : List Ending) → EndSame r e → (groups : List Deferred)
    → after_going_on (listed r s c e) groups ≡ after_going_on r groups
unfolding is_alone
going_same r s c e same groups = simp same

-- the same with other lists
abbrev pub relisted : LinuxRequests → List ℕ → List ℕ → List Ending → LinuxRequests
relisted l s c e = record l { requests = listed l.requests s c e }

accepted_same : (l : LinuxRequests) (x : Sqe) (s c : List ℕ) (e : List Ending) → EndSame l.requests e
    → with_accepted (relisted l s c e) x ≡ relisted (with_accepted l x) s c e
unfolding is_alone is_faulty_from
accepted_same l x s c e a = simp a

-- what a call makes of the drains
pub called_same : (l : LinuxRequests) (s c : List ℕ) (e : List Ending) → EndSame l.requests e
    → (xs : List Sqe)
    → (with_cut (with_entries (relisted l s c e) xs)).drains ≡ (with_cut (with_entries l xs)).drains
unfolding is_alone is_faulty_from
called_same l s c e a [] = simp a
called_same l s c e a (x ∷ xs) =
    ap (λ (y : LinuxRequests). (with_cut (with_entries y xs)).drains) (accepted_same l x s c e a)
    ∙ called_same (with_accepted l x) s c e a xs
