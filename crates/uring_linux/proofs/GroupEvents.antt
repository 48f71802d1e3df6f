-- What each event makes of what is kept of a group.
use Rattle.std.proofs.Common.{◌≡◌, ◌≢◌, ℕ, suc, ◌+◌, ◌<◌, ◌≤◌, ℤ, List, length, Bool, true, false, not, ◌&&◌, ◌==◌, Some, None, sym, ◌∙◌, ap, subst, arith}
use Rattle.uring_linux.proofs.Common.{Group, IsGroup, IsGrouped, IsMember, Requests, Sqe, Starts, TellsGroup, entry_of, entry_same, first_broken, first_broken_accepted, first_broken_elsewhere, first_broken_ended, first_broken_more, first_member_more, first_member_none, first_member_same, group_accepted, group_ended, group_joined, group_new, groups_apart, has_ended, has_ended_other, has_ended_same, has_fault, if◌then◌else◌, is_faulty, is_last, is_last_cut, is_soft, is_success, with_accepted, with_cut, with_end, with_ended, with_member}
use Rattle.uring_linux.proofs.WindowEvents.{refused_accepted, last_accepted, last_kept}

-- An entry is accepted.

fault_accepted : (r : Requests) (e : Sqe) (k : ℕ) → k < length r.accepted
    → has_fault (with_accepted r e) k ≡ has_fault r k
fault_accepted r e k lt = grind (arith, (entry_same r e is_faulty k lt), (refused_accepted r e k lt))

-- after a group that was closed
pub told_closed : (g : Group) (r : Requests) (e : Sqe) → TellsGroup g r
    → ((k : ℕ) → suc k ≡ g.end → is_last r k ≡ true) → has_ended r (length r.accepted) ≡ false
    → TellsGroup g (with_accepted r e)
told_closed g r e t closed none =
    let within = t.group.accepted in
    let same = first_member_same (has_fault (with_accepted r e)) (has_fault r) g.from g.end (λ m lt. fault_accepted r e m (omega arith)) in
    grind (arith, (group_accepted r e g.from g.end t.group closed), same, (first_broken_accepted r e g.from g.end none within))

-- into the group that is open
pub told_joined : (g : Group) (r : Requests) (e : Sqe) (faulty : Bool) → TellsGroup g r
    → g.end ≡ length r.accepted → ((k : ℕ) → suc k ≡ length r.accepted → is_last r k ≡ false)
    → has_ended r (length r.accepted) ≡ false → faulty ≡ has_fault (with_accepted r e) (length r.accepted)
    → TellsGroup (with_member (Some g) (length r.accepted) faulty) (with_accepted r e)
told_joined g r e faulty t end amid none is =
    let some = t.group.some in
    let n = length r.accepted in
    let le : g.from ≤ n = omega arith in
    let high = t.high in
    record {
      group = group_joined r e g.from (subst (IsGroup r g.from) end t.group) amid;
      low = t.low;
      high = omega arith;
      ended = t.ended;
      fault = grind (arith, (first_member_more (has_fault (with_accepted r e)) g.from n le), first_member_same, fault_accepted);
      broken = t.broken ∙ ap (first_broken r g.from) end ∙ sym (first_broken_more r e g.from none le);
    }

-- into a new group
pub told_new : (r : Requests) (e : Sqe) (faulty : Bool)
    → ((k : ℕ) → suc k ≡ length r.accepted → is_last r k ≡ true)
    → has_ended r (length r.accepted) ≡ false → faulty ≡ has_fault (with_accepted r e) (length r.accepted)
    → TellsGroup (with_member None (length r.accepted) faulty) (with_accepted r e)
told_new r e faulty closed none is =
    grind (arith, (group_new r e closed), first_member_none, first_member_more, first_broken_more)

pub starts_accepted : (r : Requests) (e : Sqe) (n from : ℕ) → n < length r.accepted → Starts r n from
    → Starts (with_accepted r e) n from
starts_accepted r e n from lt s = grind (arith, last_accepted)

-- A call closes.

pub grouped_cut : (g : Group) (r : Requests) (k : ℕ) → k < length r.accepted → IsGrouped g r k
    → IsGrouped g (with_cut r) k
grouped_cut g r k within i = grind (arith, last_kept, is_last_cut)

-- A request ends.

ended_stays : (r : Requests) (n : ℕ) (res : ℤ) (bytes : List ℕ) (k : ℕ) → has_ended r k ≡ true
    → has_ended (with_ended r n res bytes) k ≡ true
ended_stays r n res bytes k e = grind (arith, has_ended_same, has_ended_other)

-- the least member after an end
least_after : (least n : ℕ) (P : ℕ → Type 0) → (least ≡ n → P (n + 1)) → P least
    → P (if least == n then n + 1 else least)
least_after least n P here other = grind arith

pub told_ended : (g : Group) (r : Requests) (n : ℕ) (res : ℤ) (bytes : List ℕ) (breaks : Bool) → IsMember r n g
    → has_ended r n ≡ false → breaks ≡ (is_soft (entry_of r n) && not (is_success (entry_of r n) res))
    → TellsGroup (with_end g n breaks) (with_ended r n res bytes)
told_ended g r n res bytes breaks m going is =
    grind (arith, group_ended, least_after, ended_stays, has_ended_same, first_broken_ended)

pub starts_ended : (r : Requests) (n : ℕ) (res : ℤ) (bytes : List ℕ) (k from : ℕ) → Starts r k from
    → Starts (with_ended r n res bytes) k from
starts_ended r n res bytes k from s = assumption

-- another group than that of the request that ends
pub told_elsewhere : (x g : Group) (r : Requests) (n : ℕ) (res : ℤ) (bytes : List ℕ) → IsMember r n g
    → TellsGroup x r → x.from ≢ g.from → TellsGroup x (with_ended r n res bytes)
told_elsewhere x g r n res bytes m t apart =
    let one = groups_apart r g.from g.end x.from x.end g.from m.told.group t.group in
    let two = groups_apart r x.from x.end g.from g.end x.from t.group m.told.group in
    let broken = first_broken_elsewhere r n res bytes x.from x.end (λ k le lt e. grind (arith, one, two)) in
    grind (arith, (group_ended r n res bytes x.from x.end t.group), ended_stays, broken)
