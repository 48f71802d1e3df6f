-- What is told of who waits: how it is kept when other requests are told of anew.
use Rattle.std.proofs.Common.{◌≡◌, ◌≢◌, ℕ, ◌<◌, ◌≤◌, Bool, true, false, ◌⊎◌, ◌||◌, Option, Some, None, is_some, refl, arith}
use Rattle.uring_dispatch.proofs.Common.{CanTell, Changes, Group, Groups, GrowsTo, HasGrown, HasMoved, IsListed, IsListedAt, holds, IsSameReach, IsSound, Keeps, NumberSet, Puts, Reaches, Request, StandsAsBefore, Waiting, Window, at, dooms, earlier_of, end_of, group_at, holds_same, is_before, is_some_value, leads, runs, waits_at_head, waits_doomed}
use Rattle.uring_dispatch.proofs.WindowFront.{within_end}
use Rattle.uring_dispatch.proofs.EndLemmas.{Ends, left_member}
use Rattle.uring_dispatch.proofs.Changes.{before_end}

-- Telling anew.

pub keeps_both : (w : Window) (g : Groups) (s t u : Waiting) → Keeps w g s t → Keeps w g t u
    → Keeps w g s u
keeps_both w g s t u a b = grind arith

pub tell_kept : (w : Window) (g : Groups) (s t : Waiting) (n : ℕ) → CanTell s n → Keeps w g s t
    → CanTell t n
tell_kept w g s t n c k = omega (arith, c, k.heads, k.doomed)

-- A request that has ended doesn't wait, nor does one that was started.

pub idle_listed : (w : Window) (g : Groups) (s t : Waiting) (n : ℕ) (o : Option Request) → at w n ≡ o
    → waits_at_head g o n ≡ false → waits_doomed g o n ≡ false → Puts s.heads t.heads n false
    → Puts s.doomed t.doomed n false → IsListedAt w g t n
idle_listed w g s t n o is head doomed a b = grind arith

-- who runs isn't told of
pub running_absent : (w : Window) (g : Groups) (s : Waiting) (n : ℕ) → IsListedAt w g s n → runs (at w n) ≡ true
    → (holds s.heads n ≡ false) × (holds s.doomed n ≡ false)
running_absent w g s n l ran = grind (arith, (is_some_value (at w n)))

-- who waits and isn't doomed isn't told of as doomed
pub spared_absent : (w : Window) (g : Groups) (s : Waiting) (n : ℕ) (q : Request) (p : Group) (b : Bool) → IsListedAt w g s n → at w n ≡ Some q
    → group_at g q.group ≡ Some p → b ≡ (dooms (Some p) n || q.is_cancelled) → b ≡ false → holds s.doomed n ≡ false
spared_absent w g s n q p b l e is doom spared = grind arith

pub forgotten_keeps : (w : Window) (g : Groups) (s t : Waiting) (n : ℕ) → IsListedAt w g t n
    → Puts s.heads t.heads n false → Puts s.doomed t.doomed n false → Keeps w g s t
forgotten_keeps w g s t n own a b = grind arith

-- What an event leaves as it was.

-- what is told stays right where the request stands as it did
pub told_before : (w v : Window) (g h : Groups) (s : Waiting) (k : ℕ) → IsListedAt w g s k
    → StandsAsBefore w v g h k → IsListedAt v h s k
told_before w v g h s k t b = grind arith

-- the request k of another group, or of none
pub stands_apart : (w v : Window) (g h : Groups) (k : ℕ) → at v k ≡ at w k
    → ((x : Request) → at w k ≡ Some x → group_at h x.group ≡ group_at g x.group)
    → StandsAsBefore w v g h k
stands_apart w v g h k same others = grind (arith, is_some_value)

-- the request k of a group that leads and dooms it as before
pub stands_in : (w v : Window) (g h : Groups) (k : ℕ) (x : Request) (p q : Group) → at v k ≡ at w k
    → at w k ≡ Some x → group_at g x.group ≡ Some q → group_at h x.group ≡ Some p
    → leads (Some p) k ≡ leads (Some q) k → dooms (Some p) k ≡ dooms (Some q) k
    → StandsAsBefore w v g h k
stands_in w v g h k x p q same e was now leads_on dooms_on = grind arith

-- A request ends.

pub stands_ended : {w v : Window} {g h : Groups} {n : ℕ} {request : Request} {q : Group} {least k : ℕ} {broken : Option ℕ}
    → IsSound w g → Ends w v g h n request q least broken → (breaks : Bool)
    → (least < q.end → broken ≡ earlier_of q.broken breaks n)
    → (breaks ≡ true → k < q.end → (k < n) ⊎ (is_before q.broken k ≡ true)) → k ≢ n
    → (least < q.end → k ≢ least) → StandsAsBefore w v g h k
stands_ended {w} {v} {g} {h} {n} {request} {q} {least} {k} {broken} s e breaks broken_is after ne_n ne_least =
    grind (arith, (e.changes.others k ne_n), (left_member s e), (λ (x : Request). e.exchange.others x.group), e.next.from_on, (is_some_value (at w k)))

-- What is covered.

-- what can be told of an outstanding request
pub tell_outstanding : (w : Window) (g : Groups) (s : Waiting) (n : ℕ) → IsListed w g s
    → is_some (at w n) ≡ true → CanTell s n
tell_outstanding w g s n l there = grind (arith, within_end)

-- a set covers a number more, and is then told of numbers that it covers
pub grows_told : (s t u : NumberSet) (n : ℕ) → HasGrown s t n → IsSameReach t u → GrowsTo s u n
grows_told s t u n g r =
    record { start = omega arith; longer = omega arith; covered = omega arith; few = λ m old below. let most = g.few m old below in omega arith; limit = omega arith }

-- request n ended, others were told of anew, and what was let go at the front isn't needed
reaches_ended : (w v : Window) (s t u : NumberSet) (first : ℕ) {n : ℕ} → Reaches w s → end_of v ≡ end_of w
    → IsSameReach s t → HasMoved t u first → first ≤ end_of v
    → ((k : ℕ) → k < first → at v k ≡ None) → Changes w v n None → Reaches v u
reaches_ended w v s t u first r end same moved within before c = grind (arith, before_end)

-- A request ended, and all whose standing may have changed were told of anew.
pub end_listed : (w v : Window) (g h : Groups) (s t u : Waiting) (n head stop first : ℕ)
    → IsListed w g s → Changes w v n None → end_of v ≡ end_of w
    → ((k : ℕ) → k ≢ n → k ≢ head → (k < n) ⊎ (stop ≤ k) → StandsAsBefore w v g h k) → Keeps v h s t
    → IsListedAt v h t n → IsListedAt v h t head → ((k : ℕ) → n ≤ k → k < stop → IsListedAt v h t k)
    → HasMoved t.heads u.heads first → HasMoved t.doomed u.doomed first → first ≤ end_of v
    → ((k : ℕ) → k < first → at v k ≡ None) → IsListed v h u
end_listed w v g h s t u n head stop first l c end others keeps own at_head between x y within before = record {
  told = λ k.
      let anew : IsListedAt v h t k = grind (arith, (keeps.told k), (told_before w v g h s k (l.told k)), (others k)) in
      grind (arith, holds_same);
  heads = reaches_ended w v s.heads t.heads u.heads first l.heads end keeps.heads x within before c;
  doomed = reaches_ended w v s.doomed t.doomed u.doomed first l.doomed end keeps.doomed y within before c;
}

-- A request was written, and it was told of anew.
pub restarted_listed : (w v : Window) (g h : Groups) (s t : Waiting) (n : ℕ) (q : Request)
    → IsListed w g s → is_some (at w n) ≡ true → Changes w v n (Some q) → end_of v ≡ end_of w → h ≡ g
    → Keeps v h s t → IsListedAt v h t n → IsListed v h t
restarted_listed w v g h s t n q l there c end same_groups keeps own = grind arith
