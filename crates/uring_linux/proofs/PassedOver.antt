-- What a search may pass over: requests that have ended, and members of a group after one that hasn't.
use Rattle.std.proofs.Common.{◌≡◌, ℕ, ◌+◌, ◌-◌, ◌<◌, ◌≤◌, Bool, true, false, ◌&&◌, Some, ◌∙◌, arith}
use Rattle.uring_linux.proofs.Common.{Group, IsMember, LinuxRequests, Request, Requests, Shows, TellsGroup, Window, at, count_below, count_below_apart, count_below_zero, end_of, has_ended, is_in_turn, is_issuable, is_outstanding, joined_member, keeps_back, le-leb, one_if, some_below_some}
use Rattle.uring_linux.proofs.GroupsShown.{kept_from}

-- Before the least that is kept of the first group, all have ended.

first_told : (s : Window) (r : Requests) (q : Request) → Shows s r → at s s.first ≡ Some q
    → (q.group.from ≡ s.first) × TellsGroup q.group r
first_told s r q h here =
    let i = h.grouped s.first q here in
    let high = kept_from s r s.first q.group.from h i.starts (omega arith) in
    grind (arith, high, i)

pub least_ended : (s : Window) (r : Requests) (q : Request) (k : ℕ) → Shows s r → at s s.first ≡ Some q
    → k < q.group.least → has_ended r k ≡ true
least_ended s r q k h here lt = grind (arith, (first_told s r q h here))

pub least_within : (s : Window) (r : Requests) (q : Request) → Shows s r → at s s.first ≡ Some q
    → q.group.least ≤ end_of s
least_within s r q h here = grind (arith, (first_told s r q h here))

-- After a member that hasn't ended, no member is in turn.

pub after_passed : (r : Requests) (n k : ℕ) (g : Group) → IsMember r n g → has_ended r n ≡ false → n < k
    → k < g.end → (is_outstanding r k && is_in_turn r k) ≡ false
unfolding is_in_turn
after_passed r n k g m going after lt =
    let low = m.low in
    let joined = joined_member r g.from g.end n k m.told.group (omega arith) lt (omega arith) ∙ le-leb g.from n low in
    grind (arith, (some_below_some (keeps_back r k) k n after), joined)

-- who isn't in turn, or has ended, can't be issued
pub passed_issuable : (l : LinuxRequests) (k : ℕ)
    → (is_outstanding l.requests k && is_in_turn l.requests k) ≡ false → is_issuable l k ≡ false
passed_issuable l k e = grind arith

-- none in between is counted
pub count_passed : (p : ℕ → Bool) (n m : ℕ) → n < m → ((k : ℕ) → n < k → k < m → p k ≡ false)
    → count_below p m ≡ count_below p n + one_if (p n)
count_passed p n m lt none = grind (arith, (count_below_apart p (n + 1) (m - (n + 1))), count_below_zero)
