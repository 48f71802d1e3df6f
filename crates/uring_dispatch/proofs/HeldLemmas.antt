-- How an outstanding request stands, from what is held.
use Rattle.uring_dispatch.proofs.Common.{is_drain, AreHeld, Group, Groups, HasBarrierBefore, HasBefore, HasGroup, IsGroup, IsKept, IsShownGroup, IsSound, Request, Requests, Window, addr_of, and_from, and_left, at, doomed_is, drain_of, draining_is, end_of, entry_of, first_member_inside, group_at, groups_apart, has_ended, is_before, is_candidate, is_doomed, is_draining, is_issuable, is_outstanding, is_ready, is_running, is_some_value, lt-ltb, or-false, ready_not_after, ready_not_alone, ready_not_member, ready_yes, user_data_of}
use Rattle.std.proofs.Common.{◌≡◌, ◌≢◌, ℕ, ◌<◌, ◌≤◌, length, Bool, true, false, not, ◌&&◌, ◌||◌, Some, None, is_some, sym, ◌∙◌, ap, arith}
use Rattle.std.proofs.Math.Numerals.{lt_of_le_of_ne}

-- a group is kept where its members up to the least are outstanding as they were
pub kept_on : {w v : Window} {q : Group} → IsKept w q → end_of w ≤ end_of v
    → ((m : ℕ) → q.from ≤ m → m ≤ q.least → is_some (at v m) ≡ is_some (at w m)) → IsKept v q
kept_on {q = q} k more same = grind arith

-- A request's group.

module _ {w : Window} {g : Groups} {n : ℕ} {request : Request} (s : IsSound w g) (e : at w n ≡ Some request) where
  -- it is kept
  pub linked : HasGroup g request.group n
  linked = grind (arith, (s.linked n request e))

  pub within_group : {q : Group} → group_at g request.group ≡ Some q → (q.from ≤ n) × (n < q.end)
  within_group {q} is = grind (arith, linked)

  pub least_before : {q : Group} → group_at g request.group ≡ Some q → q.least ≤ n
  least_before {q} is = grind (arith, within_group, (s.kept request.group q is))

-- Numbers, by what is held.

module _ {w : Window} {g : Groups} {r : Requests} (h : AreHeld w g r) where
  pub outstanding_none : (n : ℕ) → at w n ≡ None → is_outstanding r n ≡ false
  outstanding_none n e = grind arith

  pub running_none : (n : ℕ) → at w n ≡ None → is_running r n ≡ false
  running_none n e = grind arith

  pub running_some : (n : ℕ) {q : Request} → at w n ≡ Some q → is_running r n ≡ q.is_running
  running_some n {q} e = grind arith

  -- What a cancel may choose.

  pub candidate_none : (n m : ℕ) → at w m ≡ None → is_candidate r n m ≡ false
  candidate_none n m e = and_left _ _ (and_left _ _ (and_left _ _ (outstanding_none m e)))

pub doomed_rest : (a b c : Bool) → a ≡ false → c ≡ false → ((a || b) || c) ≡ b
doomed_rest a b c x y = ap (λ v. (v || b) || c) x ∙ ap (λ v. b || v) y ∙ or-false b

module _ {w : Window} {g : Groups} {r : Requests} (s : IsSound w g) (h : AreHeld w g r) where
  -- a number with a request is outstanding
  pub shown_within : {n : ℕ} {q : Request} → at w n ≡ Some q → n < length r.accepted
  shown_within {q = q} e = let link = linked s e in grind (arith, (s.kept q.group link.group link.found))

  pub outstanding_some : (n : ℕ) {q : Request} → at w n ≡ Some q → is_outstanding r n ≡ true
  outstanding_some n {q} e = and_from _ _ (lt-ltb n (length r.accepted) (shown_within e)) (ap not (h.shown n q e).unended)

  pub issuable_some : (n : ℕ) {q : Request} → at w n ≡ Some q
      → is_issuable r n ≡ (not q.is_running && (is_doomed r n || is_ready r n))
  issuable_some n e = grind (arith, outstanding_some)

  pub candidate_else : (n m : ℕ) {named_data : ℕ} {q : Request} → at w m ≡ Some q → named_data ≡ addr_of (entry_of r n)
      → m ≢ n → user_data_of q.entry ≡ named_data → is_candidate r n m ≡ not (is_doomed r m)
  candidate_else n m {q = q} e named other same = grind (arith, and_from, outstanding_some)

  -- a kept group's least member is outstanding
  pub least_open : (key : ℕ) {q : Group} → group_at g key ≡ Some q → has_ended r q.least ≡ false
  least_open key {q} is = grind (arith, (s.kept key q is), (h.shown q.least), is_some_value)

-- Request n is outstanding, and a member of this group.
pub record InGroup (w : Window) (g : Groups) (r : Requests) (n : ℕ) (request : Request) (q : Group) : Type 0 where
  pub sound : IsSound w g
  pub held : AreHeld w g r
  pub there : at w n ≡ Some request
  pub found : group_at g request.group ≡ Some q
  pub from : q.from ≤ n
  pub to : n < q.end
  pub shown : IsShownGroup r q
  pub kept : IsKept w q

module _ {w : Window} {g : Groups} {r : Requests} {n : ℕ} {request : Request} (s : IsSound w g) (h : AreHeld w g r) (e : at w n ≡ Some request) where
  pub in_group : {q : Group} → group_at g request.group ≡ Some q → InGroup w g r n request q
  in_group {q} is =
      let within = within_group s e is in
      record { sound = s; held = h; there = e; found = is; from = within.0; to = within.1; shown = h.groups request.group q is; kept = s.kept request.group q is }

  pub its_group : (q : Group) × InGroup w g r n request q
  its_group = let link = linked s e in (link.group, in_group link.found)

module _ {w : Window} {g : Groups} {r : Requests} {n : ℕ} {request : Request} {q : Group} (i : InGroup w g r n request q) where
  pub doomed_held : is_doomed r n ≡ ((is_some q.fault || is_before q.broken n) || request.is_cancelled)
  doomed_held = grind (arith, doomed_is)

  pub draining_held : is_draining r n ≡ is_some q.drain
  draining_held = draining_is r q.from q.end n i.shown.group i.from i.to ∙ ap is_some (sym i.shown.drain)

  -- What isn't the least of its group waits for that one.
  pub not_least : q.least ≢ n → is_ready r n ≡ false
  not_least ne =
      ready_not_member r q.from q.end n q.least i.shown.group i.to i.kept.from (lt_of_le_of_ne (least_before i.sound i.there i.found) ne) (least_open i.sound i.held request.group i.found)

  -- A group that drains from a number before this group on has an outstanding member before it, and that drains too.
  pub after_barrier : HasBarrierBefore g q.from → is_ready r n ≡ false
  after_barrier b =
      let other : (p : Group) × (group_at g b.key ≡ Some p) × (p.drain ≡ Some b.number) = grind (arith, b.drains) in
      let p : Group = other.0 in
      let kept = i.sound.kept b.key p other.1 in
      let shown = i.held.groups b.key p other.1 in
      let drains = sym shown.drain ∙ other.2 in
      let inside = first_member_inside (λ m. is_drain (entry_of r m)) p.from p.end b.number drains in
      let going = least_open i.sound i.held b.key other.1 in
      grind (arith, (groups_apart r p.from p.end q.from q.end b.number shown.group i.shown.group), (ready_not_after r n p.least), (draining_is r p.from p.end p.least shown.group))

  -- A group that drains waits for all that is earlier.
  pub not_alone : is_some q.drain ≡ true → HasBefore w q.from → is_ready r n ≡ false
  not_alone drains b = grind (arith, ready_not_alone, draining_held)

-- no member of a group before this one drains, if no group drains from a number before it on
pub plain_before : {w : Window} {g : Groups} {r : Requests} {from end m : ℕ} {other : Request}
    → IsSound w g → AreHeld w g r → IsGroup r from end
    → ((key number : ℕ) → drain_of (group_at g key) ≡ Some number → from ≤ number)
    → at w m ≡ Some other → m < from → is_draining r m ≡ false
plain_before {r = r} {from = from} {end = end} {m = m} {other = other} s h group free there low =
    let its = its_group s h there in
    grind (arith, (draining_held its.1), first_member_inside, (free other.group), (groups_apart r its.0.from its.0.end from end m))

module _ {w : Window} {g : Groups} {r : Requests} {n : ℕ} {request : Request} {q : Group} (i : InGroup w g r n request q) where
  -- What waits for nobody is ready.
  pub ready_held : q.least ≡ n
      → ((key number : ℕ) → drain_of (group_at g key) ≡ Some number → q.from ≤ number)
      → (is_some q.drain ≡ true → (m : ℕ) → m < q.from → at w m ≡ None) → is_ready r n ≡ true
  ready_held least free alone =
      let within = shown_within i.sound i.held i.there in
      grind (arith, (ready_yes r q.from q.end n i.shown.group i.from i.to), i.held.ended, draining_held, i.kept, (λ (m : ℕ) (low : m < q.from) (x : Request) (e : at w m ≡ Some x). plain_before i.sound i.held i.shown.group free e low))
