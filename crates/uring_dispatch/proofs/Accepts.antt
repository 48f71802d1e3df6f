-- When an entry is accepted and when a call ends: the window and the groups still fit one another, and what is held is what the lists say.
use Rattle.std.proofs.Common.{◌≡◌, ◌≢◌, ◌⊎◌, ℕ, ◌+◌, ◌≤◌, length, Bool, ◌==◌, Option, Some, None, is_some, refl, sym, ◌∙◌, ap, subst, arith, inl, inr, [], ◌∷◌, length-append, false, not, ◌||◌}
use Rattle.uring_dispatch.proofs.Common.{Accepts, AreHeld, Changes, Exchanges, Group, Groups, IfErr, IfOk, IsBeyond, IsGroup, IsKept, IsShownGroup, IsSound, Op, Request, Requests, Result, Sqe, Window, added_other, groups_apart, cases_eq, end_of, entry_of, entry_of_accepted_at, entry_of_accepted_other, false≢true, fault_of, group_at, has_ended, has_started, if◌then◌else◌, is_drain, is_faulty, is_last, is_linked, is_some_value, last_group, list_any, ne_eqb, new_request, op_of, operation_of, or-false, outstanding_in, running_in, with_accepted, with_cut, with_member}
use Rattle.uring_entry.proofs.GroupEvents.{group_cut, is_last_cut_last, group_accepted, group_joined, group_new, first_entry_accepted, first_entry_more, first_broken_accepted, first_broken_more, first_member_none}
use Rattle.uring_dispatch.proofs.GroupsKept.{only_key}
use Rattle.uring_dispatch.proofs.HeldLemmas.{kept_on}
use Rattle.std.specs.Result.{result_ok}
use Rattle.uring_entry.specs.declared.fault.Fault.{Fault}
use Rattle.uring_dispatch.proofs.Changes.{before_write, shown_written}
use Rattle.uring_dispatch.proofs.Counting.{count_below_same}

-- where the group that is joined, or the new one, begins and ends
member_is : (o : Option Group) (n : ℕ) (d f : Bool)
    → ((with_member o n d f).end ≡ n + 1) × ((q : Group) → o ≡ Some q → (with_member o n d f).from ≡ q.from)
    × (o ≡ None → (with_member o n d f).from ≡ n)
member_is o n d f = grind arith

-- The group p has one more member, the last request.
joined_sound : {w v : Window} {g h : Groups} {request : Request} → IsSound w g
    → Changes w v (end_of w) (Some request) → end_of v ≡ end_of w + 1 → IsBeyond h.barriers (end_of w + 1) → (p : Group)
    → Exchanges g h request.group (Some p) → p.end ≡ end_of w + 1 → IsKept v p
    → ((q : Group) → group_at g request.group ≡ Some q → (p.from ≡ q.from) × (q.end ≡ end_of w))
    → (group_at g request.group ≡ None → p.from ≡ end_of w)
    → ((key : ℕ) → h.last ≡ Some key → key ≡ request.group) → IsSound v h
joined_sound {w} {v} {g} {h} {request} s c end beyond p e top own begins fresh only = record {
  linked = λ k x is.
      grind (arith, (before_write c is), (s.linked k x), (s.kept x.group), (cases_eq x.group request.group), (e.others x.group));
  members = λ key x k y found from to is.
      grind (arith, (before_write c is), (s.members key x k y), (cases_eq key request.group), (e.others key), (λ (q : Group). s.members request.group q k y), (s.kept key x));
  kept = λ key x found. grind (arith, (cases_eq key request.group), (e.others key), (s.kept key x), c.others);
  beyond = rw end beyond;
  last = λ key x is found. grind (arith, (only key is));
}

module _ {w v : Window} {g h : Groups} {entry : Sqe} {request : Request} (s : IsSound w g) (a : Accepts w v g h entry request) where
  -- the group that is joined ends where the window does
  joined_end : {q : Group} → last_group g.records g.last ≡ Some q → q.end ≡ end_of w
  joined_end {q} e = grind arith

  -- what is kept under a key now
  now : (key : ℕ) (x : Group) → group_at h key ≡ Some x
      → ((key ≡ request.group) × (x ≡ with_member (last_group g.records g.last) (end_of w) (is_drain entry) (is_faulty entry))) ⊎ ((key ≢ request.group) × (group_at g key ≡ Some x))
  now key x found = grind arith

  -- the group that was joined, or the new one
  joined_kept : (o : Option Group) → last_group g.records g.last ≡ o
      → IsKept v (with_member o (end_of w) (is_drain entry) (is_faulty entry))
  joined_kept None e = grind arith
  joined_kept (Some q) e = grind (arith, kept_on, joined_end, (s.kept request.group q))

  pub accept_sound : IsSound v h
  accept_sound =
      let o : Option Group = last_group g.records g.last in
      let is = member_is o (end_of w) (is_drain entry) (is_faulty entry) in
      joined_sound s a.changes a.end a.beyond (with_member o (end_of w) (is_drain entry) (is_faulty entry)) a.exchange is.0
      (joined_kept o refl)
      (λ q found. (is.1 q (sym a.joins ∙ found), joined_end (sym a.joins ∙ found)))
      (λ none. is.2 (sym a.joins ∙ none))
      (λ key found. only_key (is_linked entry) request.group key _ a.last found)

-- The lists, when an entry is accepted.

-- the counts
counts_more : (r : Requests) (entry : Sqe) → has_ended r (length r.accepted) ≡ false → has_started r (length r.accepted) ≡ false
    → (outstanding_in (with_accepted r entry) ≡ outstanding_in r + 1) × (running_in (with_accepted r entry) ≡ running_in r)
counts_more r entry none idle = (grind (arith, length-append, count_below_same), grind (arith, length-append))

module _ {w v : Window} {g h : Groups} {r : Requests} {entry : Sqe} {request : Request} (s : IsSound w g) (a : AreHeld w g r)
    (c : Accepts w v g h entry request) where
  -- the group that was joined, or the new one
  joined_shown : (o : Option Group) → last_group g.records g.last ≡ o
      → IsShownGroup (with_accepted r entry) (with_member o (length r.accepted) (is_drain entry) (is_faulty entry))
  joined_shown None e =
      let n : ℕ = length r.accepted in
      let none = (a.untouched n (omega arith)).ended in
      record {
        group = group_new r entry (λ k end. a.last k end ∙ ap not (sym c.kept ∙ ap is_some e));
        fault = cc (first_entry_more r entry is_faulty n (omega arith), first_member_none (λ m. is_faulty (entry_of r m)) n);
        drain = cc (first_entry_more r entry is_drain n (omega arith), first_member_none (λ m. is_drain (entry_of r m)) n);
        broken = sym (first_broken_more r entry n none (omega arith) ∙ first_member_none _ n);
      }
  joined_shown (Some q) e =
      let n : ℕ = length r.accepted in
      let none = (a.untouched n (omega arith)).ended in
      let end : q.end ≡ n = joined_end s c e ∙ sym a.count in
      let old = a.groups request.group q (c.joins ∙ e) in
      let group : IsGroup r q.from n = subst (λ k. IsGroup r q.from k) end old.group in
      let low : q.from ≤ n = omega (arith, group.some) in
      record {
        group = group_joined r entry q.from group (λ k last. a.last k last ∙ ap not (sym c.kept ∙ ap is_some e));
        fault = cc (first_entry_more r entry is_faulty q.from low, old.fault);
        drain = cc (first_entry_more r entry is_drain q.from low, old.drain);
        broken = cc (first_broken_more r entry q.from none low, old.broken);
      }

  -- two groups don't end together
  end_apart : {other : ℕ} {x : Group} → group_at g other ≡ Some x → other ≢ request.group
      → (q : Group) → group_at g request.group ≡ Some q → q.end ≢ x.end
  end_apart {other} {x} is ne q here end =
      let kept = s.kept other x is in
      let one = a.groups other x is in
      let two = a.groups request.group q here in
      grind (arith, (groups_apart r x.from x.end q.from q.end x.least), (s.members other x x.least), (s.members request.group q x.least), is_some_value)

  -- a group of another key is closed, and so stays as it was
  elsewhere_shown : {other : ℕ} {x : Group} → group_at g other ≡ Some x → other ≢ request.group
      → IsShownGroup (with_accepted r entry) x
  elsewhere_shown {other} {x} is ne =
      let old = a.groups other x is in
      let none = (a.untouched (length r.accepted) (omega arith)).ended in
      grind (arith, (group_accepted r entry x.from x.end old.group), a.last, (joined_end s c), (end_apart is ne), is_some_value, (first_entry_accepted r entry is_faulty x.from x.end), (first_entry_accepted r entry is_drain x.from x.end), (first_broken_accepted r entry x.from x.end none))

pub accept_held : {w v : Window} {g h : Groups} {r : Requests} {entry : Sqe} {key : ℕ} → IsSound w g
    → AreHeld w g r → Accepts w v g h entry (new_request entry key)
    → v.outstanding ≡ w.outstanding + 1 → v.running ≡ w.running → AreHeld v h (with_accepted r entry)
accept_held {w} {v} {g} {h} {r} {entry} {key} s a c outstanding running =
    let n : ℕ = length r.accepted in
    let top : end_of w ≡ n = sym a.count in
    let fresh = a.untouched n (omega arith) in
    let more = length-append r.accepted (entry ∷ []) in
    let here = entry_of_accepted_at r entry in
    record {
      count = omega (arith, c.end);
      outstanding = omega (arith, (counts_more r entry fresh.ended fresh.started).0, a.outstanding);
      running = running ∙ a.running ∙ sym (counts_more r entry fresh.ended fresh.started).1;
      ended = λ m e lt. grind (arith, (cases_eq m (end_of w)), (a.ended m), (c.changes.others m), c.changes.here);
      shown =
          shown_written c.changes a.shown
          (rw top
          (record { entry = sym here; op = ap op_of (sym here); unended = fresh.ended; cancelled = sym fresh.cancelled; running = sym fresh.started; sound = λ f. absurd (false≢true f) }))
          (λ k other. record { entry = entry_of_accepted_other r entry k (λ j. other (j ∙ sym top)); ended = refl; cancelled = refl; started = refl });
      groups = λ k x found.
          elim (now s c k x found) [
            | inl same ↦ rw (same.1, top) (joined_shown s a c (last_group g.records g.last) refl)
            | inr other ↦ elsewhere_shown s a c other.1 other.0
          ];
      last = λ k e.
          let at_n : k ≡ n = omega arith in
          ap (is_last (with_accepted r entry)) at_n
          ∙ ap (λ x. not (is_linked x) || list_any (λ cut. cut == n + 1) r.cuts) here
          ∙ ap (λ b. not (is_linked entry) || b) fresh.cut ∙ or-false (not (is_linked entry))
          ∙ grind (arith, c.last);
      untouched = λ m le. let old = a.untouched m (omega arith) in assumption;
    }

pub kept_op : (e : Sqe) (p : Result Op Fault) (o : Option Op) (none : Bool)
    → IfOk p (λ op. (fault_of e ≡ None) × (op ≡ operation_of e))
    → IfErr p (λ fault. fault_of e ≡ Some fault) → o ≡ result_ok p → is_some o ≡ not none
    → (o ≡ op_of e) × (none ≡ is_faulty e)
kept_op e p o none right wrong is empty = grind arith

pub accepts_new : (w v : Window) (g h : Groups) (entry : Sqe) (key n : ℕ) (op : Option Op) (faulty : Bool)
    → n ≡ end_of w → (op ≡ op_of entry) × (faulty ≡ is_faulty entry)
    → Changes w v (end_of w) (Some (record (new_request entry key) { op = op }))
    → end_of v ≡ end_of w + 1 → group_at g key ≡ last_group g.records g.last
    → ((k : ℕ) → g.last ≡ Some k → key ≡ k)
    → is_some (last_group g.records g.last) ≡ is_some g.last
    → Exchanges g h key (Some (with_member (last_group g.records g.last) n (is_drain entry) faulty))
    → IsBeyond h.barriers (n + 1) → h.last ≡ (if is_linked entry then Some key else None)
    → Accepts w v g h entry (new_request entry key)
accepts_new w v g h entry key n op faulty top same changes end joins only kept exchange beyond last = grind arith

-- A call ends.

pub cut_sound : (w : Window) (g : Groups) → IsSound w g → IsSound w (record g { last = None })
cut_sound w g s = grind arith

pub cut_held : (w : Window) (g : Groups) (r : Requests) → AreHeld w g r
    → AreHeld w (record g { last = None }) (with_cut r)
cut_held w g r h = record {
  count = h.count;
  outstanding = h.outstanding;
  running = h.running;
  ended = h.ended;
  shown = λ n q e. let old = h.shown n q e in assumption;
  groups = λ key q e. let old = h.groups key q e in let group = group_cut r q.from q.end old.group in assumption;
  last = λ k e. is_last_cut_last r k e;
  untouched = λ n le.
      let old = h.untouched n le in
      let cut = added_other (λ cut. cut == n + 1) r.cuts (length r.accepted) (ne_eqb _ _ (λ e. absurd (omega arith))) in
      grind arith;
}
