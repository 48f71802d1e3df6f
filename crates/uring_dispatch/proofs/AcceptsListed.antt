-- Who waits, when an entry is accepted, a call ends and memory is asked for.
use Rattle.std.proofs.Common.{◌≡◌, ◌≢◌, ◌⊎◌, ℕ, ◌+◌, ◌/◌, ◌<◌, ◌≤◌, length, Bool, Option, Some, None, is_some, refl, sym, ◌∙◌, ap, arith, inl, inr}
use Rattle.uring_dispatch.proofs.Common.{Accepts, Group, Groups, GrowsTo, HasSame, IsListed, IsListedAt, IsSound, NumberSet, Reaches, Request, Sqe, Starts, Waiting, Window, at, cases_eq, end_of, found_or, group_at, holds_same, is_drain, is_faulty, with_member}
use Rattle.uring_dispatch.proofs.HeldLemmas.{linked, least_before}
use Rattle.uring_dispatch.proofs.WaitingLemmas.{told_before, stands_apart, stands_in}

-- An entry is accepted.

-- a fault that is new is that of the new member
fault_cases : (o : Option ℕ) (faulty : Bool) (n : ℕ)
    → (is_some (found_or o faulty n) ≡ is_some o) ⊎ (found_or o faulty n ≡ Some n)
fault_cases o faulty n = grind arith

pub low_member : (s : Waiting) (o : Option Group) (n : ℕ) (d f : Bool) → Starts s n
    → ((q : Group) → o ≡ Some q → Starts s q.least) → Starts s (with_member o n d f).least
low_member s o n d f own old = grind arith

-- what is covered begins before each group's least member
pub starts_least : (w : Window) (g : Groups) (s : Waiting) (key : ℕ) (q : Group) → IsSound w g
    → IsListed w g s → group_at g key ≡ Some q → Starts s q.least
starts_least w g s key q sound l is = grind (arith, (sound.kept key q is))

reaches_accepted : (w v : Window) (s t : NumberSet) (n : ℕ) → Reaches w s
    → GrowsTo s t n → n ≡ end_of w → end_of v ≡ end_of w + 1
    → ((k : ℕ) → k ≢ end_of w → at v k ≡ at w k) → Reaches v t
reaches_accepted w v s t n r grows is end others =
    let old = r.few in
    let a = grows.few (s.first + length s.blocks) in
    let b = grows.few (n / 64 + 1) in
    record {
      start = omega arith;
      stop = omega arith;
      few = omega arith;
      low = λ k there. grind (arith, (cases_eq k (end_of w)), (others k), (r.low k));
    }

pub accept_listed : (w v : Window) (g h : Groups) (entry : Sqe) (request : Request) (s t : Waiting) (n : ℕ)
    → IsSound w g → IsListed w g s → Accepts w v g h entry request → n ≡ end_of w
    → IsListedAt v h t n
    → ((p : Group) → group_at h request.group ≡ Some p → p.fault ≡ Some n → (k : ℕ) → p.least ≤ k → k < n → IsListedAt v h t k)
    → ((k : ℕ) → IsListedAt v h s k → IsListedAt v h t k) → GrowsTo s.heads t.heads n
    → GrowsTo s.doomed t.doomed n → IsListed v h t
accept_listed w v g h entry request s t n sound l a is own members told heads doomed = record {
  told = λ k.
      elim (cases_eq k (end_of w)) [
        | inl same ↦ rw (same, ← is) own
        | inr other ↦ older k other (at w k) refl
      ];
  heads = reaches_accepted w v s.heads t.heads n l.heads heads is a.end (λ k ne. a.changes.others k ne);
  doomed = reaches_accepted w v s.doomed t.doomed n l.doomed doomed is a.end (λ k ne. a.changes.others k ne);
}
  where
    older : (k : ℕ) → k ≢ end_of w → (o : Option Request) → at w k ≡ o → IsListedAt v h t k
    older k ne None e =
        grind (arith, (told k), (told_before w v g h s k (l.told k)), (stands_apart w v g h k), (a.changes.others k ne))
    older k ne (Some x) e =
        elim (cases_eq x.group request.group) [
          | inr apart ↦
              grind (arith, (told k), (told_before w v g h s k (l.told k)), (a.changes.others k ne), (a.exchange.others x.group apart))
          | inl here ↦
              let link = linked sound e in
              let q : Group = link.group in
              let was : group_at g request.group ≡ Some q = ap (group_at g) (sym here) ∙ link.found in
              let p : Group = with_member (Some q) (end_of w) (is_drain entry) (is_faulty entry) in
              let now : group_at h request.group ≡ Some p = a.exchange.here ∙ ap (λ o. Some (with_member o (end_of w) (is_drain entry) (is_faulty entry))) (sym a.joins ∙ was) in
              grind (arith, (told k), (told_before w v g h s k (l.told k)), (stands_in w v g h k x p q), (a.changes.others k ne), (fault_cases q.fault (is_faulty entry) (end_of w)), (members p now), (least_before sound e), (sound.kept request.group q was), link.to)
        ]

-- A call ends.
pub cut_listed : (w : Window) (g : Groups) (s : Waiting) → IsListed w g s
    → IsListed w (record g { last = None }) s
cut_listed w g s l = record { told = λ n. let t = l.told n in assumption; heads = l.heads; doomed = l.doomed }

-- Memory is asked for.

pub same_listed : (w : Window) (g : Groups) (s t : Waiting) → IsListed w g s
    → HasSame s.heads t.heads → HasSame s.doomed t.doomed → IsListed w g t
same_listed w g s t l x y = grind (arith, holds_same)
