-- When a request ends: the window and the groups still fit one another, and what is held is what the lists say.
use Rattle.std.proofs.Common.{◌≡◌, ◌≢◌, ℕ, ◌+◌, ◌<◌, ◌≤◌, ◌⊎◌, ℤ, List, length, true, not, ◌&&◌, Option, Some, None, sym, ◌∙◌, arith, inl, inr}
use Rattle.uring_dispatch.proofs.Common.{AreHeld, Changes, Exchanges, Group, Groups, HasLost, IsBeyond, IsNext, IsSound, Request, Requests, Window, at, cases_eq, cases_lt, earlier_of, end_of, entry_of, group_at, has_ended_other, has_ended_same, is_outstanding, is_running, is_running_ended_other, is_running_ended_same, is_soft, is_success, one_if, outstanding_in, with_ended}
use Rattle.uring_entry.proofs.GroupEvents.{group_ended, first_broken_ended, first_broken_elsewhere}
use Rattle.uring_dispatch.proofs.Changes.{before_end}
use Rattle.uring_dispatch.proofs.Counting.{count_below_changed}
use Rattle.uring_dispatch.proofs.HeldLemmas.{within_group, shown_within, outstanding_some, running_some}

-- what is left of a group
abbrev pub left_with : Group → ℕ → Option ℕ → Group
left_with q least broken = record q { least = least; broken = broken }

-- Request n of this group ends: what the window and the groups are before and after. The group's least outstanding member is then this one, and its end if there is none.
pub record Ends (w v : Window) (g h : Groups) (n : ℕ) (request : Request) (q : Group) (least : ℕ) (broken : Option ℕ) : Type 0 where
  pub there : at w n ≡ Some request
  pub changes : Changes w v n None
  pub end : end_of v ≡ end_of w
  pub group : group_at g request.group ≡ Some q
  pub next : IsNext v q.least q.end least
  pub left : Option Group
  pub exchange : Exchanges g h request.group left
  pub some : least < q.end → left ≡ Some (left_with q least broken)
  pub none : q.end ≤ least → left ≡ None
  pub closed : h.last ≡ None

module _ {w v : Window} {g h : Groups} {n : ℕ} {request : Request} {q : Group} {least : ℕ} (broken : Option ℕ)
    (there : at w n ≡ Some request) (changes : Changes w v n None) (end : end_of v ≡ end_of w) (group : group_at g request.group ≡ Some q)
    (next : IsNext v q.least q.end least) where
  -- the group's last member has ended
  pub ends_last : q.end ≤ least → Exchanges g h request.group None → h.last ≡ None
      → Ends w v g h n request q least broken
  ends_last le exchange closed = grind arith

  -- another member is outstanding
  pub ends_more : least < q.end → Exchanges g h request.group (Some (left_with q least broken))
      → h.last ≡ None → Ends w v g h n request q least broken
  ends_more lt exchange closed = grind arith

module _ {w v : Window} {g h : Groups} {n : ℕ} {request : Request} {q : Group} {least : ℕ} {broken : Option ℕ} (s : IsSound w g)
    (e : Ends w v g h n request q least broken) where
  -- what is kept under a key now
  now : (key : ℕ) (x : Group) → group_at h key ≡ Some x
      → ((key ≡ request.group) × (least < q.end) × (x ≡ left_with q least broken)) ⊎ ((key ≢ request.group) × (group_at g key ≡ Some x))
  now key x found = grind arith

  -- no member before the least is outstanding now
  over : (m : ℕ) → q.from ≤ m → m < least → at v m ≡ None
  over m from low = grind (arith, (cases_lt m q.least), (s.kept request.group q e.group))

  -- where another member is
  pub left_member : {k : ℕ} {x : Request} → at v k ≡ Some x → x.group ≡ request.group
      → (q.from ≤ k) × (least ≤ k) × (k < q.end)
  left_member {k} there same = grind (arith, within_group, over)

  pub end_sound : IsBeyond h.barriers (end_of w) → IsSound v h
  end_sound beyond = record {
    linked = λ k x there.
        grind (arith, (before_end e.changes there), (s.linked k x), (cases_eq x.group request.group), (e.exchange.others x.group), left_member, e.exchange.here, e.some);
    members = λ key x k y found from to there.
        grind (arith, (before_end e.changes there), (now key x found), (s.members key x k y), (s.members key q k y));
    kept = λ key x found.
        grind (arith, (now key x found), (s.kept key x), (s.kept request.group q e.group), over, (s.members key x n request), e.there, e.changes.others);
    beyond = rw e.end beyond;
    last = λ key x is found. cc (e.closed);
  }

-- The lists.

outstanding_less : (r : Requests) (n : ℕ) (res : ℤ) (bytes : List ℕ) → is_outstanding r n ≡ true → n < length r.accepted
    → outstanding_in (with_ended r n res bytes) + 1 ≡ outstanding_in r
outstanding_less r n res bytes was within =
    grind (arith, has_ended_same, (count_below_changed (is_outstanding r) (is_outstanding (with_ended r n res bytes)) _ n within (λ j ne. grind (arith, has_ended_other))))

module _ {w v : Window} {g h : Groups} {r : Requests} {n : ℕ} {request : Request} {q : Group} {least : ℕ} {broken : Option ℕ} (res : ℤ)
    (bytes : List ℕ) (s : IsSound w g) (e : Ends w v g h n request q least broken) (a : AreHeld w g r) where
  pub end_held : HasLost w v (one_if request.is_running) → g.last ≡ None
      → (least < q.end → broken ≡ earlier_of q.broken (is_soft (entry_of r n) && not (is_success (entry_of r n) res)) n)
      → AreHeld v h (with_ended r n res bytes)
  end_held lost was breaks =
      let within = shown_within s a e.there in
      record {
        count = a.count ∙ sym e.end;
        outstanding = omega (arith, lost.outstanding, a.outstanding, outstanding_less r n res bytes (outstanding_some s a n e.there) within);
        running =
            grind (arith, lost.runs, a.running, (running_some a n e.there), is_running_ended_same, is_running_ended_other, (count_below_changed (is_running r) (is_running (with_ended r n res bytes))));
        ended = λ m gone lt.
            grind (arith, (cases_eq m n), has_ended_same, (has_ended_other r n res bytes m), (a.ended m), (e.changes.others m));
        shown = λ k x there. grind (arith, (before_end e.changes there), (has_ended_other r n res bytes k), (a.shown k x));
        groups = λ key x found.
            elim (now s e key x found) [
              | inl left ↦
                  let old = a.shown n request e.there in
                  let broken_is = breaks left.1 in
                  rw left.2
                  (grind (arith, (a.groups request.group q e.group), (within_group s e.there e.group), (group_ended r n res bytes q.from q.end), (first_broken_ended r n res bytes q.from q.end)))
              | inr kept ↦ grind (arith, group_ended, first_broken_elsewhere, (s.members key x n request kept.1), e.there, kept.0, (a.groups key x kept.1))
            ];
        last = λ k end. grind (arith, (a.last k), e.closed);
        untouched = λ m past. grind (arith, (a.untouched m), (has_ended_other r n res bytes m));
      }
