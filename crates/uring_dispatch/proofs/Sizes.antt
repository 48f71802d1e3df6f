-- How many groups, barriers and outstanding requests are kept: no more than requests were accepted.
use Rattle.std.proofs.Common.{◌≡◌, ℕ, suc, ◌+◌, ◌<◌, ◌≤◌, ◌==◌, List, [], ◌∷◌, length, filter, Bool, true, not, ◌&&◌, Option, Some, None, is_some, refl, arith, get_or}
use Rattle.uring_dispatch.proofs.Common.{AreHeld, Barrier, Group, Groups, IsBeyond, IsSorted, IsSound, Requests, Window, count_below, count_by, end_of, ltb-true, ne_eqb, is_outstanding}
use Rattle.uring_dispatch.proofs.Counting.{count_below_changed, count_below_within}
use Rattle.std.proofs.lemmas.List.Sums.{length-filter}

-- No two groups have one least member, and each of these passes the test: so many numbers pass it.
groups_counted : (records : List (Option Group)) (p : ℕ → Bool) (n : ℕ)
    → ((k : ℕ) (q : Group) → get_or records k None ≡ Some q → (q.least < n) × (p q.least ≡ true))
    → ((j k : ℕ) (q x : Group) → get_or records j None ≡ Some q → get_or records k None ≡ Some x → q.least ≡ x.least → j ≡ k)
    → length (filter is_some records) ≤ count_below p n
groups_counted [] p n pass own = omega arith
groups_counted (None ∷ rest) p n pass own =
    groups_counted rest p n (λ k. pass (suc k)) (λ j k q x e f same. let one = own (suc j) (suc k) q x e f same in omega arith)
groups_counted (Some g ∷ rest) p n pass own =
    let others : ℕ → Bool = λ m. p m && not (m == g.least) in
    let few : length (filter is_some rest) ≤ count_below others n =
    groups_counted rest others n (λ k q e. grind (arith, (pass (suc k) q e), (own 0 (suc k) g q refl e), (ne_eqb q.least g.least)))
    (λ j k q x e f same. let one = own (suc j) (suc k) q x e f same in omega arith) in
    grind (arith, (count_below_changed p others n g.least), (pass 0 g refl), (λ (m : ℕ). ne_eqb m g.least))

pub groups_few : (w : Window) (g : Groups) → IsSound w g → count_by is_some g.records ≤ end_of w
groups_few w g s =
    let few = groups_counted g.records (λ m. true) (end_of w) (λ k q e. grind (arith, (s.kept k q e)))
    (λ j k p q e f same. grind (arith, (s.kept j p e), (s.kept k q f), (s.members j p p.least), (s.members k q p.least))) in
    grind (arith, (length-filter is_some g.records), count_below_within)

-- barriers in order, above one number and below another
sorted_few : (b : Barrier) (rest : List Barrier) (n : ℕ) → IsSorted (b ∷ rest) → IsBeyond (b ∷ rest) n
    → b.number + suc (length rest) ≤ n
sorted_few b [] n sorted beyond = grind (arith, ltb-true)
sorted_few b (c ∷ rest) n sorted beyond = grind (arith, ltb-true, (sorted_few c rest n sorted.1))

pub barriers_few : (barriers : List Barrier) (n : ℕ) → IsSorted barriers → IsBeyond barriers n
    → length barriers ≤ n
barriers_few [] n sorted beyond = omega arith
barriers_few (b ∷ rest) n sorted beyond = let few = sorted_few b rest n sorted beyond in omega arith

pub window_few : (w : Window) (g : Groups) (r : Requests) → AreHeld w g r
    → w.outstanding ≤ end_of w
window_few w g r h = grind (arith, (count_below_within (is_outstanding r) (length r.accepted)))
