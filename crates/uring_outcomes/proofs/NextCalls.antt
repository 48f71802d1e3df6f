-- Whether no entry of the next call has a user data that a cancel names.
use Rattle.std.proofs.Common.{◌≡◌, ℕ, ◌+◌, ◌<◌, ◌≤◌, false, true, List, [], ◌∷◌, length, take, drop, get_or, sym, subst, ap, ◌∙◌}
use Rattle.uring_outcomes.proofs.Common.{All-more, AreUnnamed, Global, IsNextUnnamed, Moment, Sqe, Vec, among, both_ways, entries_of, user_data_of}
use Rattle.uring_outcomes.proofs.Moving.{next_left, none_left}

-- the entries so far, and one more
pub unnamed_more : (names : List ℕ) (entries : List Sqe) (k : ℕ) (e : Sqe) → k < length entries
    → e ≡ get_or entries k e → among names (user_data_of e) ≡ false
    → AreUnnamed (among names) (take k entries) → AreUnnamed (among names) (take (k + 1) entries)
unnamed_more names entries k e low is quiet before =
    All-more (λ x. among names (user_data_of x) ≡ false) entries k e low before (subst (λ x. among names (user_data_of x) ≡ false) is quiet)

pub one_named : (names : List ℕ) (entries : List Sqe) (k : ℕ) (e : Sqe) → k < length entries
    → e ≡ get_or entries k e → among names (user_data_of e) ≡ true
    → AreUnnamed (among names) entries → ⊥
one_named names entries k e low is there none =
    both_ways (among names (user_data_of e)) (ap (λ x. among names (user_data_of x)) is ∙ none k e low) there

-- the call that is next
pub next_unnamed : (names : List ℕ) (calls : List (Vec Sqe Global)) (m : Moment) (k : ℕ) (call : Vec Sqe Global)
    → m.left ≡ drop k (entries_of calls) → k < length calls → call ≡ get_or calls k call
    → AreUnnamed (among names) call.items → IsNextUnnamed (among names) m
next_unnamed names calls m k call left low is none = record {
  call = call.items;
  later = drop (k + 1) (entries_of calls);
  left = next_left calls m k call left low is;
  unnamed = none;
}

first_is : (call other : List Sqe) (later others : List (List Sqe)) → call ∷ later ≡ other ∷ others → other ≡ call
first_is call other later others e = cc

pub unnamed_next : (names : List ℕ) (calls : List (Vec Sqe Global)) (m : Moment) (k : ℕ) (call : Vec Sqe Global)
    → m.left ≡ drop k (entries_of calls) → k < length calls → call ≡ get_or calls k call
    → IsNextUnnamed (among names) m → AreUnnamed (among names) call.items
unnamed_next names calls m k call left low is e =
    subst (AreUnnamed (among names)) (first_is call.items e.call (drop (k + 1) (entries_of calls)) e.later (sym (next_left calls m k call left low is) ∙ e.left)) e.unnamed

-- there is none
pub none_next : (names : List ℕ) (calls : List (Vec Sqe Global)) (m : Moment) (k : ℕ)
    → m.left ≡ drop k (entries_of calls) → length calls ≤ k → IsNextUnnamed (among names) m → ⊥
none_next names calls m k left past e =
    let both : ◌≡◌ {A = List (List Sqe)} [] (e.call ∷ e.later) = sym (none_left calls m k left past) ∙ e.left in cc
