-- Entries accepted one by one, and a whole call.
use Rattle.std.proofs.Common.{◌≡◌, Bool, true, false, List, [], ◌∷◌, ◌++◌, refl, sym, ◌∙◌, ap, subst, length, append_assoc}
use Rattle.std.proofs.lemmas.List.{append-nil}
use Rattle.uring_entry.specs.Layout.{Sqe}
use Rattle.uring_entry.specs.Requests.{Requests}
use Rattle.uring_linux.specs.LinuxRequests.{LinuxRequests, with_accepted, with_cut}
use Rattle.uring_linux.specs.Happenings.{with_entries}
use Rattle.uring_rules.specs.RulesCalls.{accepted_by, all_accepted_by, cut_by, called_by}
use Rattle.uring_rules.specs.RulesDispatch.{Rules, ShowsRequests}

-- one more entry
entries_push : (l : LinuxRequests) (xs : List Sqe) (e : Sqe)
    → with_entries l (xs ++ e ∷ []) ≡ with_accepted (with_entries l xs) e
entries_push l [] e = refl
entries_push l (x ∷ xs) e = entries_push (with_accepted l x) xs e

pub all_push : (is_linux : Bool) (l : LinuxRequests) (xs : List Sqe) (e : Sqe)
    → all_accepted_by is_linux l (xs ++ e ∷ []) ≡ accepted_by is_linux (all_accepted_by is_linux l xs) e
all_push true l xs e = entries_push l xs e
all_push false l xs e =
    ap (λ ys. record { requests = record l.requests { accepted = ys }; drains = l.drains }) (sym (append_assoc l.requests.accepted xs (e ∷ [])))

-- the requests of these entries are those of the manual pages' rules
entries_requests : (l : LinuxRequests) (xs : List Sqe)
    → (with_entries l xs).requests ≡ record l.requests { accepted = l.requests.accepted ++ xs }
entries_requests l [] = ap (λ ys. record l.requests { accepted = ys }) (sym (append-nil l.requests.accepted))
entries_requests l (x ∷ xs) =
    entries_requests (with_accepted l x) xs ∙ ap (λ ys. record l.requests { accepted = ys }) (append_assoc l.requests.accepted (x ∷ []) xs)

-- entries one by one and the cut after them are a whole call
pub whole_call : (is_linux : Bool) (l : LinuxRequests) (xs : List Sqe)
    → cut_by is_linux (all_accepted_by is_linux l xs) ≡ called_by is_linux l xs
whole_call true l xs =
    ap (λ (r : Requests). record { requests = record r { cuts = r.cuts ++ length r.accepted ∷ [] }; drains = (with_cut (with_entries l xs)).drains }) (entries_requests l xs)
whole_call false l xs = refl

-- the loop over the entries goes on
pub call_more : (y : Rules) (b c : Bool) (l : LinuxRequests) (xs ys : List Sqe) (e : Sqe) → b ≡ c → ys ≡ xs ++ e ∷ []
    → ShowsRequests y (accepted_by b (all_accepted_by c l xs) e) → ShowsRequests y (all_accepted_by c l ys)
call_more y b c l xs ys e same more h =
    subst (ShowsRequests y) (sym (all_push c l xs e) ∙ ap (all_accepted_by c l) (sym more)) (subst (λ x. ShowsRequests y (accepted_by x (all_accepted_by c l xs) e)) same h)

-- and ends
pub call_all : (y : Rules) (b c : Bool) (l : LinuxRequests) (xs ys : List Sqe) → b ≡ c → ys ≡ xs
    → ShowsRequests y (cut_by b (all_accepted_by c l ys)) → ShowsRequests y (called_by c l xs)
call_all y b c l xs ys same all h =
    subst (ShowsRequests y) (ap (λ zs. cut_by c (all_accepted_by c l zs)) all ∙ whole_call c l xs) (subst (λ x. ShowsRequests y (cut_by x (all_accepted_by c l ys))) same h)
