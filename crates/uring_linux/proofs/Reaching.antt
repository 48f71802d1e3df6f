-- What is so of the requests of a ring whatever happened: to the members of deferred groups nothing has happened, and not all that is outstanding is deferred.
use Rattle.std.proofs.Common.{◌≡◌, ℕ, suc, ◌<◌, ◌≤◌, ℤ, length, true, false, not, ◌||◌, List, [], ◌∷◌, refl, ◌∙◌, arith, inl, inr, length-append}
use Rattle.uring_linux.proofs.Common.{Deferred, Drains, IsNew, LinuxRequests, Requests, Sqe, added_other, cases_Bool, cases_lt, deferred_with, entry_of_accepted_at, false_from_ne_true, has_ended_other, is_alone, is_faulty_from, is_in_some, is_issuable, is_last, is_last_cut_last, is_linked, is_running, ltb-false, ltb-true, nat_lt, or_cases, or_parts, with_group, with_last_entry}
use Rattle.uring_linux.specs.LinuxRequests.{no_request, with_accepted, with_cut, with_started, with_ended}
use Rattle.uring_entry.specs.Requests as manual
use Rattle.uring_linux.specs.Happenings.{Happening, Call, Start, End, with_entries, after, made_by, MayHappen, MayHaveHappened}
use Rattle.uring_linux.proofs.WindowEvents.{last_accepted, last_kept, new_cut}
use Rattle.uring_linux.proofs.Deferring.{IsIdle, IsWaiting, AreWaiting, HasGoneOn, held_by, not_alone, gone_on, not_doomed}
use Rattle.uring_linux.proofs.InOrder.{order_higher, order_push, order_past, order_still, order_kept}
use Rattle.uring_linux.proofs.FaultsKept.{accepted_faults, healthy_from}

-- what is so whatever happened
pub record IsSettled (l : LinuxRequests) : Type 0 where
  pub low : l.drains.from ≤ length l.requests.accepted
  pub begins : (k : ℕ) → suc k ≡ l.drains.from → is_last l.requests k ≡ true
  pub amid : (k : ℕ) → l.drains.from ≤ k → k < length l.requests.accepted → IsIdle l.requests k
  pub later : (k : ℕ) → length l.requests.accepted ≤ k → IsNew l.requests k
  pub waiting : AreWaiting l.requests 0 l.drains.deferred l.drains.from
  pub gone : HasGoneOn l.requests l.drains.deferred

pub nothing_settled : IsSettled no_request
nothing_settled = grind arith

-- A group is accepted.

-- a group is amid, to whose members nothing has happened
record IsAmid (r : Requests) (from : ℕ) (deferred : List Deferred) : Type 0 where
  pub low : from < length r.accepted
  pub begins : (k : ℕ) → suc k ≡ from → is_last r k ≡ true
  pub idle : (k : ℕ) → from ≤ k → k < length r.accepted → IsIdle r k
  pub later : (k : ℕ) → length r.accepted ≤ k → IsNew r k
  pub waiting : AreWaiting r 0 deferred from

amid_alone : (r : Requests) (from : ℕ) (xs : List Deferred) → IsAmid r from xs → is_alone r xs ≡ false
amid_alone r from xs a = grind (arith, not_alone, order_past)

group_settled : (r : Requests) (d : Drains) → IsAmid r d.from d.deferred
    → ((k : ℕ) → suc k ≡ length r.accepted → is_last r k ≡ true)
    → IsSettled (record { requests = r; drains = with_group r d })
group_settled r d a last =
    let n = length r.accepted in
    elim (cases_Bool (not d.ring || is_faulty_from r d.from)) [
      | inl e ↦ rw e (grind (arith, amid_alone, (order_higher (IsWaiting r) 0 d.deferred d.from n)))
      | inr e ↦
          let g : Deferred = record { from = d.from; end = n; drains = d.group } in
          let w : IsWaiting r g = grind (arith, (healthy_from r d.from (or_parts (not d.ring) (is_faulty_from r d.from) e).1)) in
          let all = order_push (IsWaiting r) 0 d.deferred d.from g (omega arith) a.low w a.waiting in
          rw e (grind (arith, (order_still (IsWaiting r) (is_alone r (deferred_with d n)) 0 (deferred_with d n) n all), (gone_on r 0 (deferred_with d n) n (omega arith) all)))
    ]

-- An entry is accepted.

accepted_amid : (l : LinuxRequests) (e : Sqe) → IsSettled l
    → IsAmid (manual.with_accepted l.requests e) l.drains.from l.drains.deferred
accepted_amid l e s =
    let r = l.requests in
    let more = length-append r.accepted (e ∷ []) in
    let low = s.low in
    record {
      low = omega arith;
      begins = λ k is. last_accepted r e k (omega (arith, is)) ∙ s.begins k is;
      idle = λ k le lt. grind (arith, (cases_lt k (length r.accepted)));
      later = λ k le. let new = s.later k (omega (arith, le)) in assumption;
      waiting = order_kept (IsWaiting r) (IsWaiting (manual.with_accepted r e)) 0 l.drains.deferred l.drains.from s.waiting
          (λ g there some within w. grind (arith, (accepted_faults r e), last_accepted));
    }

pub accepted_settled : (l : LinuxRequests) (e : Sqe) → IsSettled l → IsSettled (with_accepted l e)
accepted_settled l e s =
    let t = manual.with_accepted l.requests e in
    let d = with_last_entry t (length l.requests.accepted) l.drains in
    elim (cases_Bool (is_linked e)) [
      | inl linked ↦ rw linked (grind (arith, amid_alone, (accepted_amid l e s)))
      | inr free ↦ rw free (group_settled t d (accepted_amid l e s) (λ k is. grind (arith, (length-append l.requests.accepted (e ∷ [])), (entry_of_accepted_at l.requests e))))
    ]

-- A call closes.

alone_cut : (r : Requests) (xs : List Deferred) → is_alone (manual.with_cut r) xs ≡ is_alone r xs
unfolding is_alone
alone_cut r xs = refl

-- settled, and no group is amid
pub record IsBetween (l : LinuxRequests) : Type 0 where
  pub settled : IsSettled l
  pub closed : length l.requests.accepted ≤ l.drains.from

pub cut_between : (l : LinuxRequests) → IsSettled l → IsBetween (with_cut l)
cut_between l s =
    let r = l.requests in
    let t = manual.with_cut r in
    let begins : (k : ℕ) → suc k ≡ l.drains.from → is_last t k ≡ true = λ k is. last_kept r k (s.begins k is) in
    let idle : (k : ℕ) → l.drains.from ≤ k → k < length r.accepted → IsIdle t k = λ k le lt. let idle = s.amid k le lt in assumption in
    let later : (k : ℕ) → length r.accepted ≤ k → IsNew t k = λ k le. new_cut r k le (s.later k le) in
    let waiting = order_kept (IsWaiting r) (IsWaiting t) 0 l.drains.deferred l.drains.from s.waiting (λ g there some within w. grind (arith, last_kept)) in
    elim (cases_Bool (nat_lt l.drains.from (length r.accepted))) [
      | inl e ↦
          let low = ltb-true _ _ e in
          rw e (record {
            settled = group_settled t l.drains (assumption) (is_last_cut_last r);
            closed = grind arith;
          })
      | inr e ↦
          let low = s.low in
          let gone : HasGoneOn t l.drains.deferred = rw (alone_cut r l.drains.deferred) s.gone in
          rw e (record { settled = assumption; closed = ltb-false _ _ e })
    ]

pub entries_settled : (l : LinuxRequests) (entries : List Sqe) → IsSettled l → IsSettled (with_entries l entries)
entries_settled l [] s = s
entries_settled l (e ∷ rest) s = entries_settled (with_accepted l e) rest (accepted_settled l e s)

-- A request starts or ends.

-- who can be issued or runs isn't deferred
record IsFree (l : LinuxRequests) (n : ℕ) : Type 0 where
  pub low : n < length l.requests.accepted
  pub out : is_in_some l.drains.deferred n ≡ false

issuable_free : (l : LinuxRequests) (n : ℕ) → IsSettled l → is_issuable l n ≡ true → IsFree l n
issuable_free l n s e =
    record {
      low = grind arith;
      out = false_from_ne_true _
          (λ held.
          let h = held_by l.requests 0 l.drains.deferred l.drains.from n s.waiting held in
          grind (arith, (not_doomed l.requests h.group n h.waiting h.low h.high)));
    }

running_free : (l : LinuxRequests) (n : ℕ) → IsSettled l → is_running l.requests n ≡ true → IsFree l n
running_free l n s e =
    record {
      low = grind (arith, (cases_lt n (length l.requests.accepted)), (s.later n));
      out = false_from_ne_true _
          (λ held.
          let h = held_by l.requests 0 l.drains.deferred l.drains.from n s.waiting held in
          grind (arith, (h.waiting.idle n h.low h.high)));
    }

started_settled : (l : LinuxRequests) (n : ℕ) → IsBetween l → IsFree l n → IsBetween (with_started l n)
unfolding is_alone
started_settled l n b f = grind (arith, added_other, order_kept)

ended_settled : (l : LinuxRequests) (n : ℕ) (res : ℤ) (bytes : List ℕ) → IsBetween l → IsFree l n
    → IsBetween (with_ended l n res bytes)
ended_settled l n res bytes b f =
    let s = b.settled in
    let r = l.requests in
    let t = manual.with_ended r n res bytes in
    let all = order_kept (IsWaiting r) (IsWaiting t) 0 l.drains.deferred l.drains.from s.waiting
    (λ g there some within w. grind (arith, has_ended_other))
    in
    let waiting = order_still (IsWaiting t) (is_alone t l.drains.deferred) 0 l.drains.deferred l.drains.from all in
    let gone = gone_on t 0 l.drains.deferred l.drains.from s.low all in
    grind (arith, has_ended_other)

-- Whatever happened.

happened_between : (l : LinuxRequests) (h : Happening) → IsBetween l → MayHappen l h → IsBetween (after l h)
happened_between l (Call entries) b may = cut_between (with_entries l entries) (entries_settled l entries b.settled)
happened_between l (Start n) b may = started_settled l n b (issuable_free l n b.settled may)
happened_between l (End n res bytes) b may =
    ended_settled l n res bytes b
    (elim (or_cases _ _ may) [
      | inl runs ↦ running_free l n b.settled runs
      | inr issuable ↦ issuable_free l n b.settled issuable
    ])

pub all_between : (happened : List Happening) → MayHaveHappened happened → IsBetween (made_by happened)
all_between [] may = record { settled = nothing_settled; closed = omega arith }
all_between (h ∷ earlier) may = happened_between (made_by earlier) h (all_between earlier may.1) may.0
