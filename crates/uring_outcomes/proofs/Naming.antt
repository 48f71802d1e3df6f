-- The user data that cancels name.
use Rattle.std.proofs.Common.{◌≡◌, ℕ, ◌+◌, ◌<◌, true, List, [], ◌∷◌, ◌++◌, length, take, get_or, sym, subst, ap, ◌∙◌, arith}
use Rattle.uring_outcomes.proofs.Common.{All-more, All-push, AreNamed, Global, NamesAll, Sqe, Vec, addr_of, among, entries_of, is_cancel, list_any_push, map-append, or_right, take_more}
use Rattle.std.proofs.lemmas.List.Folds.{list_any-append}

pub among_kept : (names more : List ℕ) (u : ℕ) → among names u ≡ true → among (names ++ more) u ≡ true
among_kept names more u there = grind (arith, list_any-append)

pub among_pushed : (names : List ℕ) (u : ℕ) → among (names ++ u ∷ []) u ≡ true
among_pushed names u = grind (arith, list_any_push, or_right)

pub names_kept : (old new : List ℕ) (entries : List Sqe)
    → ((u : ℕ) → among old u ≡ true → among new u ≡ true)
    → NamesAll (among old) entries → NamesAll (among new) entries
names_kept old new entries kept names k d low cancels = kept _ (names k d low cancels)

pub named_kept : (old new : List ℕ) (calls : List (List Sqe))
    → ((u : ℕ) → among old u ≡ true → among new u ≡ true)
    → AreNamed (among old) calls → AreNamed (among new) calls
named_kept old new calls kept named k d low = names_kept old new (get_or calls k d) kept (named k d low)

-- those of one entry more
pub names_more : (names : List ℕ) (entries : List Sqe) (k : ℕ) (e : Sqe) → k < length entries
    → e ≡ get_or entries k e → (is_cancel e ≡ true → among names (addr_of e) ≡ true)
    → NamesAll (among names) (take k entries) → NamesAll (among names) (take (k + 1) entries)
names_more names entries k e low is here before =
    All-more (λ x. is_cancel x ≡ true → among names (addr_of x) ≡ true) entries k e low before (subst (λ x. is_cancel x ≡ true → among names (addr_of x) ≡ true) is here)

-- those of one call more
pub named_more : (names : List ℕ) (calls : List (Vec Sqe Global)) (k : ℕ) (call : Vec Sqe Global) → k < length calls
    → call ≡ get_or calls k call → NamesAll (among names) call.items
    → AreNamed (among names) (entries_of (take k calls)) → AreNamed (among names) (entries_of (take (k + 1) calls))
named_more names calls k call low is here before =
    let taken : take (k + 1) calls ≡ take k calls ++ call ∷ [] = take_more calls k call low ∙ ap (λ y. take k calls ++ y ∷ []) (sym is) in
    subst (AreNamed (among names)) (sym (ap entries_of taken ∙ map-append (λ (c : Vec Sqe Global). c.items) (take k calls) (call ∷ [])))
    (All-push (NamesAll (among names)) (entries_of (take k calls)) call.items before here)
