-- What is kept of groups shows them, whatever happens.
use Rattle.std.proofs.Common.{◌≡◌, ◌≢◌, ℕ, suc, ◌+◌, ◌-◌, ◌<◌, ◌≤◌, ℤ, List, length, Bool, true, false, not, ◌&&◌, [], ◌∷◌, ◌++◌, set, Option, Some, None, refl, sym, ◌∙◌, ap, arith, inl, inr, length-append}
use Rattle.uring_linux.proofs.Common.{Group, IsAmid, IsGrouped, IsMember, IsWithin, Request, Requests, Shows, Sqe, Starts, Tells, TellsGroup, Window, at, cases_eq, end_of, groups_apart, has_ended, has_fault, is_last, is_soft, is_success, with_accepted, with_cut, with_end, with_ended, with_member, with_started}
use Rattle.uring_linux.proofs.WindowLemmas.{kept}
use Rattle.uring_linux.proofs.WindowEvents.{Keeps, keeps, shows, at_within, at_push_here, at_push_other, at_set_here, at_set_other, accepted_keeps, started_keeps, ended_keeps, cut_keeps, cut_keeps_none}
use Rattle.uring_linux.proofs.GroupEvents.{told_closed, told_joined, told_new, starts_accepted, grouped_cut, told_ended, starts_ended, told_elsewhere}

-- Where groups begin.

-- the group of a request that is kept is kept whole
pub kept_from : (s : Window) (r : Requests) (n from : ℕ) → Shows s r → Starts r n from → s.first ≤ n
    → s.first ≤ from
kept_from s r n from h t le = grind (arith, (t.joined (s.first - 1)), (h.begins (s.first - 1)))

-- two members of one group have the same first
pub same_from : (r : Requests) (n from first : ℕ) → Starts r n from → Starts r from first → first ≡ from
same_from r n from first t u = grind arith

-- the first member of a kept request's group
pub first_kept : (s : Window) (r : Requests) (n : ℕ) (q : Request) → Shows s r → at s n ≡ Some q
    → (p : Request) × (at s q.group.from ≡ Some p)
first_kept s r n q h here =
    let w = at_within s n q here in
    let t = (h.grouped n q here).starts in
    kept s q.group.from (grind (arith, (kept_from s r n q.group.from h t w.low)))

pub member_is : (s : Window) (r : Requests) (n : ℕ) (q p : Request) → Shows s r → at s n ≡ Some q
    → at s q.group.from ≡ Some p → (p.group.from ≡ q.group.from) × IsMember r n p.group
member_is s r n q p h here first =
    let t = (h.grouped n q here).starts in
    let i = h.grouped q.group.from p first in
    let same = same_from r n q.group.from p.group.from t i.starts in
    let told = i.told same in
    let w = at_within s n q here in
    (same, grind (arith, (t.joined (p.group.end - 1)), (told.group.ends (p.group.end - 1))))

-- What is kept of a group is written anew.

-- this is kept of a group now, with its first member
pub record Regroups (u t : Window) (g : Group) : Type 0 where
  pub here : (q : Request) → at u g.from ≡ Some q → at t g.from ≡ Some (record q { group = g })
  pub others : (k : ℕ) → k ≢ g.from → at t k ≡ at u k
  pub first : t.first ≡ u.first
  pub end : end_of t ≡ end_of u

retold : (q : Request) (g : Group) (r : Requests) (n : ℕ) → Tells q r n → Tells (record q { group = g }) r n
retold q g r n t = assumption

regrouped : (u t : Window) (g : Group) (r : Requests) → Regroups u t g → IsWithin u g.from → Keeps u r
    → IsGrouped g r g.from
    → ((k : ℕ) (x : Request) → k ≢ g.from → at u k ≡ Some x → IsGrouped x.group r k) → Shows t r
regrouped u t g r w inside h here others =
    let q = kept u g.from inside in
    let now = w.here q.0 q.1 in
    let was = h.told g.from q.0 q.1 in
    record {
      count = w.end ∙ h.count;
      told = λ k x is. elim (cases_eq k g.from) [
        | inl same ↦ let one : x ≡ record q.0 { group = g } = grind (arith, now) in rw (one, same) (retold q.0 g r g.from was)
        | inr other ↦ h.told k x (sym (w.others k other) ∙ is)
      ];
      gone = λ k lt. h.gone k (omega (arith, w.first, lt));
      begins = λ k is. h.begins k (is ∙ w.first);
      later = h.later;
      grouped = λ k x is. elim (cases_eq k g.from) [
        | inl same ↦ let one : x ≡ record q.0 { group = g } = grind (arith, now) in rw (one, same) here
        | inr other ↦ others k x other (sym (w.others k other) ∙ is)
      ];
    }

-- A request is added.

-- a group that the next request doesn't join is closed
closed_group : (s : Window) (r : Requests) (x : Group) (joins : Option Group) (faulty : Bool) → IsAmid s r joins
    → TellsGroup x r → x.from ≢ (with_member joins (length r.accepted) faulty).from → (k : ℕ) → suc k ≡ x.end
    → is_last r k ≡ true
closed_group s r x None faulty amid t apart k is = grind arith
closed_group s r x (Some g) faulty amid t apart k is =
    grind (arith, (t.group.ends k), (groups_apart r g.from g.end x.from x.end g.from), (groups_apart r x.from x.end g.from g.end x.from))

-- what is kept of the group that the next request joins
joined_told : (s : Window) (r : Requests) (e : Sqe) (joins : Option Group) (faulty : Bool) → IsAmid s r joins
    → has_ended r (length r.accepted) ≡ false → faulty ≡ has_fault (with_accepted r e) (length r.accepted)
    → TellsGroup (with_member joins (length r.accepted) faulty) (with_accepted r e)
joined_told s r e None faulty amid none is = told_new r e faulty amid none is
joined_told s r e (Some g) faulty amid none is = told_joined g r e faulty amid.told amid.end amid.amid none is

grouped_first : (g : Group) (r : Requests) → TellsGroup g r → IsGrouped g r g.from
grouped_first g r t = grind arith

joined_end : (joins : Option Group) (n : ℕ) (faulty : Bool) → (with_member joins n faulty).end ≡ n + 1
joined_end joins n faulty = grind arith

pub pushed_shows : (s u t : Window) (q : Request) (r : Requests) (e : Sqe) (joins : Option Group) (faulty : Bool)
    → Shows s r → IsAmid s r joins → faulty ≡ has_fault (with_accepted r e) (length r.accepted)
    → Tells q (with_accepted r e) (length r.accepted)
    → u.first ≡ s.first → u.items ≡ s.items ++ record q { group = with_member joins (length r.accepted) faulty } ∷ []
    → Regroups u t (with_member joins (length r.accepted) faulty) → Shows t (with_accepted r e)
pushed_shows s u t q r e joins faulty h amid is tells ef ei w =
    let n = length r.accepted in
    let g = with_member joins n faulty in
    let x = record q { group = g } in
    let room = u.room in
    let v : Window = record { first = s.first; items = s.items ++ x ∷ []; room = room } in
    let told : TellsGroup g (with_accepted r e) = joined_told s r e joins faulty amid (h.later n (omega arith)).ended is in
    let low : s.first ≤ g.from = grind arith in
    let high : g.from ≤ n = grind arith in
    let long = length-append s.items (x ∷ []) in
    let count = h.count in
    let all : Keeps v (with_accepted r e) = accepted_keeps s x room r e (keeps s r h) (retold q g (with_accepted r e) n tells) in
    let turned : Regroups v t g = rw (← ei, ← ef) w in
    regrouped v t g (with_accepted r e) turned (record { low = low; high = omega arith }) all (grouped_first g (with_accepted r e) told)
    (λ k y apart there.
    elim (cases_eq k (end_of s)) [
      | inl last ↦ grind (arith, (at_push_here s x room), told, (joined_end joins n faulty))
      | inr other ↦
          let was : at s k ≡ Some y = sym (at_push_other s x room k other) ∙ there in
          let inside = (at_within s k y was).high in
          let i = h.grouped k y was in
          record {
            starts = starts_accepted r e k y.group.from (omega arith) i.starts;
            told = λ first. told_closed y.group r e (i.told first) (closed_group s r y.group joins faulty amid (i.told first) (λ f. apart (sym first ∙ f))) (h.later n (omega arith)).ended;
          }
    ])

-- A request is written anew, in the same group.

written_grouped : (s : Window) (q x : Request) (r t : Requests) (n : ℕ) → Shows s r → at s n ≡ Some q
    → x.group ≡ q.group → ((g : Group) (k : ℕ) → k < length r.accepted → IsGrouped g r k → IsGrouped g t k)
    → (k : ℕ) (y : Request) → at (record s { items = set s.items (n - s.first) x }) k ≡ Some y
    → IsGrouped y.group t k
written_grouped s q x r t n h here same f k y is =
    let w = at_within s n q here in
    let count = h.count in
    elim (cases_eq k n) [
      | inl place ↦
          let one : y ≡ x = let g : Some y ≡ Some x = sym is ∙ ap (at _) place ∙ at_set_here s x n w in cc in
          let high = w.high in
          rw (one, same) (f q.group k (omega arith) (h.grouped k q (ap (at s) place ∙ here)))
      | inr other ↦
          let was : at s k ≡ Some y = sym (at_set_other s x n k w.low other) ∙ is in
          let inside = (at_within s k y was).high in
          f y.group k (omega arith) (h.grouped k y was)
    ]

pub started_shows : (s : Window) (q : Request) (r : Requests) (n : ℕ) → Shows s r → at s n ≡ Some q
    → has_ended r n ≡ false
    → Shows (record s { items = set s.items (n - s.first) (record q { is_running = true }) }) (with_started r n)
started_shows s q r n h here going =
    shows _ (with_started r n) (started_keeps s q r n (keeps s r h) here going)
    (written_grouped s q (record q { is_running = true }) r (with_started r n) n h here refl (λ g k within i. grind arith))

pub cut_shows : (s : Window) (q : Request) (r : Requests) (n : ℕ) → Shows s r → at s n ≡ Some q
    → n + 1 ≡ end_of s
    → Shows (record s { items = set s.items (n - s.first) (record q { is_last = true }) }) (with_cut r)
cut_shows s q r n h here is =
    shows _ (with_cut r) (cut_keeps s q r n (keeps s r h) here is)
    (written_grouped s q (record q { is_last = true }) r (with_cut r) n h here refl (λ g k within i. grouped_cut g r k within i))

pub cut_shows_none : (s : Window) (r : Requests) → Shows s r → end_of s ≤ s.first → Shows s (with_cut r)
cut_shows_none s r h none = grind (arith, cut_keeps_none, at_within)

-- A request ends.

-- what is kept of a request that ended
abbrev pub ended_request : Request → Bool → Request
ended_request q failed = record q { is_running = false; has_ended = true; has_failed = failed }

pub finished_shows : (s u t : Window) (q : Request) (r : Requests) (n : ℕ) (res : ℤ) (bytes : List ℕ) (failed breaks : Bool) (g : Group)
    → Shows s r → at s n ≡ Some q → has_ended r n ≡ false → failed ≡ not (is_success q.entry res)
    → breaks ≡ (is_soft q.entry && failed) → IsMember r n g → g.from ≡ q.group.from → s.first ≤ g.from
    → u ≡ record s { items = set s.items (n - s.first) (ended_request q failed) }
    → Regroups u t (with_end g n breaks) → Shows t (with_ended r n res bytes)
finished_shows s u t q r n res bytes failed breaks g h here going is break m same low eu w =
    let x = ended_request q failed in
    let after = with_ended r n res bytes in
    let v : Window = record s { items = set s.items (n - s.first) x } in
    let inside = at_within s n q here in
    let entry = (h.told n q here).entry in
    let all : Keeps v after = ended_keeps s q r n res bytes failed (keeps s r h) here going is in
    let turned : Regroups v t (with_end g n breaks) = rw eu at w in
    let told = told_ended g r n res bytes breaks m going (rw (is, entry) at break) in
    let from_low = m.low in
    let high = inside.high in
    let count : end_of v ≡ end_of s = all.count ∙ sym h.count in
    regrouped v t (with_end g n breaks) after turned (record { low = low; high = omega arith }) all (grouped_first (with_end g n breaks) after told)
    (λ k y apart there.
    elim (cases_eq k n) [
      | inl place ↦
          grind (arith, (at_set_here s x n inside), (starts_ended r n res bytes k q.group.from (h.grouped k q (ap (at s) place ∙ here)).starts))
      | inr other ↦
          let was : at s k ≡ Some y = sym (at_set_other s x n k inside.low other) ∙ there in
          let i = h.grouped k y was in
          record {
            starts = starts_ended r n res bytes k y.group.from i.starts;
            told = λ first. told_elsewhere y.group g r n res bytes m (i.told first) (λ f. apart (sym first ∙ f));
          }
    ])
