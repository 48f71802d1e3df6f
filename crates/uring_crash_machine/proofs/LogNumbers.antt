-- The numbers of a log's requests, of what runs, and of those that are kept.
use Rattle.std.proofs.Common.{◌≡◌, ◌==◌, ◌||◌, ◌&&◌, ◌<◌, ◌≤◌, ◌+◌, ◌-◌, ◌⊎◌, ℕ, zero, suc, Bool, true, false, not, cond, List, [], ◌∷◌, ◌++◌, length, length-append, map, reverse, Option, Some, None, refl, sym, subst, ap, ◌∙◌, inl, inr, arith}
use Rattle.uring_crash_machine.proofs.Common.{IsIn, Volume, Write, WriteEnded, SyncEnded, SyncFailed, both_ways, but, cases_Bool, cond-false, cond-true, eq-eqb, eqb-true, false_from_ne_true, is_one_of, issued, length-map, named, number_of, or_left, or_right, reverse-append, running_syncs, running_writes, slice_get, sync_with, with_sync, with_write, write_ended, ℤ}
use Rattle.std.specs.List.{filter, list_any}
use Rattle.std.specs.Prelude.{IfNone, IfSome, nat_le}
use Rattle.std.proofs.lemmas.Bool.{leb-true}
use Rattle.std.proofs.lemmas.List.{length-reverse}
use Rattle.std.proofs.lemmas.List.Folds.{list_any-append}
use Rattle.std.proofs.lemmas.Option.{slice_get_within}
use Rattle.uring_volume.specs.Choices.{has_safe}
use Rattle.uring_volume.specs.Events.{History, writes}
use Rattle.uring_volume.specs.Folds.{IsFoldedFrom}
use Rattle.uring_volume.specs.Volume.{is_known}
use Rattle.uring_volume.specs.declared.event.Event.{Event}
use Rattle.uring_volume.specs.declared.event.Event.TheVariants.{SyncIssued, WriteIssued}
use Rattle.uring_volume.specs.declared.event.SyncRange.{SyncRange}
use Rattle.uring_volume.proofs.Chosen.{in_issued, of_issued}
use Rattle.uring_volume.proofs.Fitting.{in_either}
use Rattle.uring_volume.proofs.FoldedEvents.{runs_issued}
use Rattle.uring_volume.proofs.KeptLists.{none_filtered, of_filter, of_map}
use Rattle.uring_volume.proofs.Numbers.{is_in_but, one_more}
use Rattle.uring_volume.proofs.Puts.{any_is, is_any}
use Rattle.uring_crash_machine.specs.Logs.{AreNumbered, Begun, IsGivenBy, one_begun, request_of, has_number, left_of, most_numbers, numbered_as, unless_last}
use Rattle.uring_crash_machine.specs.declared.numbering.Numbered.{Numbered}

pub number_short : (n : ℕ) (q : List ℕ) → number_of n q ≤ length q
number_short n [] = omega arith
number_short n (m ∷ q) = grind (arith, (number_short n q))

pub number_old : (m n : ℕ) (q : List ℕ) → (m == n) ≡ false → number_of n (m ∷ q) ≡ number_of n q
number_old m n q other = cond-false (m == n) (suc (length q)) (number_of n q) other

-- no two requests have the same number
pub number_once : (n m : ℕ) (q : List ℕ) → 0 < number_of n q → number_of n q ≡ number_of m q → n ≡ m
number_once n m [] some same = absurd (omega (arith, some))
number_once n m (x ∷ q) some same = elim (cases_Bool (x == n)) [
  | inl is_n ↦ elim (cases_Bool (x == m)) [
    | inl is_m ↦ sym (eqb-true x n is_n) ∙ eqb-true x m is_m
    | inr not_m ↦ absurd (omega (arith, same, cond-true (x == n) (suc (length q)) (number_of n q) is_n, number_old x m q not_m, number_short m q))
  ]
  | inr not_n ↦ elim (cases_Bool (x == m)) [
    | inl is_m ↦ absurd (omega (arith, same, cond-true (x == m) (suc (length q)) (number_of m q) is_m, number_old x n q not_n, number_short n q))
    | inr not_m ↦ number_once n m q (omega (arith, some, number_old x n q not_n)) (sym (number_old x n q not_n) ∙ same ∙ number_old x m q not_m)
  ]
]

or_either : (x y : Bool) → (x || y) ≡ true → (x ≡ true) ⊎ (y ≡ true)
or_either x y is = grind arith

was_true : (b : Bool) → not b ≡ false → b ≡ true
was_true b e = grind arith

-- what runs, with one more
pub in_more : (k j : ℕ) (ns : List ℕ) → is_one_of j ns ≡ true → is_one_of j (ns ++ k ∷ []) ≡ true
in_more k j ns is = grind (arith, list_any-append)

pub in_new : (k : ℕ) (ns : List ℕ) → is_one_of k (ns ++ k ∷ []) ≡ true
in_new k ns = grind (arith, list_any-append, or_right)

-- and without another
pub in_but : (k j : ℕ) (ns : List ℕ) → (j ≡ k → ⊥) → is_one_of j ns ≡ true
    → is_one_of j (but k ns) ≡ true
in_but k j [] differ is = absurd (both_ways false refl is)
in_but k j (n ∷ ns) differ is = elim (cases_Bool (not (n == k))) [
  | inl stays ↦
      let here : is_one_of j (n ∷ but k ns) ≡ true = elim (or_either (n == j) (is_one_of j ns) is) [
        | inl same ↦ or_left (n == j) (is_one_of j (but k ns)) same
        | inr more ↦ or_right (n == j) (is_one_of j (but k ns)) (in_but k j ns differ more)
      ] in
      subst (λ ks. is_one_of j ks ≡ true) (sym (cond-true (not (n == k)) (n ∷ but k ns) (but k ns) stays)) here
  | inr goes ↦
      let here : is_one_of j (but k ns) ≡ true = elim (or_either (n == j) (is_one_of j ns) is) [
        | inl same ↦ absurd (differ (sym (eqb-true n j same) ∙ eqb-true n k (was_true (n == k) goes)))
        | inr more ↦ in_but k j ns differ more
      ] in
      subst (λ ks. is_one_of j ks ≡ true) (sym (cond-false (not (n == k)) (n ∷ but k ns) (but k ns) goes)) here
]

-- Requests and their numbers.

get_more : (xs ys : List ℕ) (i x : ℕ) → slice_get xs i ≡ Some x → slice_get (xs ++ ys) i ≡ Some x
get_more [] ys i x is = let e : None ≡ Some x = is in absurd cc
get_more (y ∷ xs) ys zero x is = is
get_more (y ∷ xs) ys (suc i) x is = get_more xs ys i x is

get_last : (xs : List ℕ) (y : ℕ) → slice_get (xs ++ y ∷ []) (length xs) ≡ Some y
get_last [] y = refl
get_last (x ∷ xs) y = get_last xs y

turned : (n : ℕ) (q : List ℕ) → reverse (n ∷ q) ≡ reverse q ++ n ∷ []
turned n q = reverse-append (n ∷ []) q

-- what the request of a number is
request_is : (k : ℕ) (q : List ℕ) → 0 < k → request_of k q ≡ slice_get (reverse q) (k - 1)
request_is k q some =
    cond-false (k == 0) None (slice_get (reverse q) (k - 1)) (false_from_ne_true (k == 0) (λ e. omega (arith, eqb-true k 0 e, some)))

-- the number of a request past those so far
pub request_new : (n : ℕ) (q : List ℕ) → request_of (suc (length q)) (n ∷ q) ≡ Some n
request_new n q =
    let at : suc (length q) - 1 ≡ length (reverse q) = omega (arith, length-reverse q) in
    request_is (suc (length q)) (n ∷ q) (omega arith) ∙ ap (λ i. slice_get (reverse (n ∷ q)) i) at ∙ ap (λ (xs : List ℕ). slice_get xs (length (reverse q))) (turned n q) ∙ get_last (reverse q) n

pub request_some : (m : ℕ) (q : List ℕ) → request_of 0 q ≡ Some m → ⊥
request_some m q is = let e : None ≡ Some m = is in absurd cc

pub request_old : (n k m : ℕ) (q : List ℕ) → request_of k q ≡ Some m → request_of k (n ∷ q) ≡ Some m
request_old n zero m q is = absurd (request_some m q is)
request_old n (suc k) m q is =
    request_is (suc k) (n ∷ q) (omega arith) ∙ ap (λ (xs : List ℕ). slice_get xs (suc k - 1)) (turned n q)
    ∙ get_more (reverse q) (n ∷ []) (suc k - 1) m (sym (request_is (suc k) q (omega arith)) ∙ is)

pub request_short : (k m : ℕ) (q : List ℕ) → request_of k q ≡ Some m → k ≤ length q
request_short zero m q is = omega arith
request_short (suc k) m q is =
    let within = slice_get_within (reverse q) (suc k - 1) m (sym (request_is (suc k) q (omega arith)) ∙ is) in
    omega (arith, within, length-reverse q)

-- a request has its number
pub request_numbered : (n : ℕ) (q : List ℕ) → 0 < number_of n q → request_of (number_of n q) q ≡ Some n
request_numbered n [] some = absurd (omega (arith, some))
request_numbered n (m ∷ q) some = elim (cases_Bool (m == n)) [
  | inl same ↦
      let at : number_of n (m ∷ q) ≡ suc (length q) = cond-true (m == n) (suc (length q)) (number_of n q) same in
      ap (λ k. request_of k (m ∷ q)) at ∙ request_new m q ∙ ap Some (eqb-true m n same)
  | inr other ↦
      let at : number_of n (m ∷ q) ≡ number_of n q = cond-false (m == n) (suc (length q)) (number_of n q) other in
      ap (λ k. request_of k (m ∷ q)) at ∙ request_old m (number_of n q) n q (request_numbered n q (omega (arith, some, at)))
]

-- One that is kept, as a request begins.

numbered_old : (n : ℕ) (q : List ℕ) (p : Numbered) → IsGivenBy q p → IsGivenBy (n ∷ q) (unless_last n p)
numbered_old n q p is = elim (cases_Bool (p.request == n)) [
  | inl same ↦
      let short = request_short p.number p.request q is.request in
      let here : (n == p.request) ≡ true = eq-eqb n p.request (sym (eqb-true p.request n same)) in
      let at : number_of p.request (n ∷ q) ≡ suc (length q) = cond-true (n == p.request) (suc (length q)) (number_of p.request q) here in
      let past : (suc (length q) == p.number) ≡ false = false_from_ne_true (suc (length q) == p.number) (λ e. omega (arith, eqb-true (suc (length q)) p.number e, short)) in
      subst (λ (x : Numbered). IsGivenBy (n ∷ q) x) (sym (cond-true (p.request == n) (record p { is_last = false }) p same))
      (record { request = request_old n p.number p.request q is.request; last = sym (ap (λ k. k == p.number) at ∙ past) })
  | inr other ↦
      let there : (n == p.request) ≡ false = false_from_ne_true (n == p.request) (λ e. both_ways (p.request == n) other (eq-eqb p.request n (sym (eqb-true n p.request e)))) in
      let at : number_of p.request (n ∷ q) ≡ number_of p.request q = cond-false (n == p.request) (suc (length q)) (number_of p.request q) there in
      subst (λ (x : Numbered). IsGivenBy (n ∷ q) x) (sym (cond-false (p.request == n) (record p { is_last = false }) p other))
      (record { request = request_old n p.number p.request q is.request; last = is.last ∙ sym (ap (λ k. k == p.number) at) })
]

numbered_new : (n : ℕ) (q : List ℕ) → IsGivenBy (n ∷ q) (record { request = n; number = suc (length q); is_last = true })
numbered_new n q =
    let at : number_of n (n ∷ q) ≡ suc (length q) = cond-true (n == n) (suc (length q)) (number_of n q) (eq-eqb n n refl) in
    record { request = request_new n q; last = sym (eq-eqb (number_of n (n ∷ q)) (suc (length q)) at) }

same_number : (n k : ℕ) (p : Numbered) → ((unless_last n p).number == k) ≡ (p.number == k)
same_number n k p = grind arith

number_kept : (n k : ℕ) (ps : List Numbered) → has_number k (map (unless_last n) ps) ≡ has_number k ps
number_kept n k [] = refl
number_kept n k (p ∷ ps) = grind (arith, same_number, (number_kept n k ps))

-- All that are kept.

-- as one begins, and the history knows what it knew and the new number
pub numbered_more : (n : ℕ) (q : List ℕ) (h now : History) (ps : List Numbered)
    → ((k : ℕ) → is_known k now ≡ true → (is_known k h ≡ true) ⊎ (k ≡ suc (length q)))
    → AreNumbered q h ps → AreNumbered (n ∷ q) now (numbered_as n (suc (length q)) ps)
numbered_more n q h now ps knows are =
    let new : Numbered = record { request = n; number = suc (length q); is_last = true } in
    record {
      each = λ p among. elim (in_either p (map (unless_last n) ps) (new ∷ []) among) [
        | inl old ↦
            let from = of_map (unless_last n) p ps old in
            subst (λ (x : Numbered). IsGivenBy (n ∷ q) x) (sym from.2) (numbered_old n q from.0 (are.each from.0 from.1))
        | inr here ↦ elim here [
          | inl same ↦ subst (λ (x : Numbered). IsGivenBy (n ∷ q) x) (sym same) (numbered_new n q)
          | inr none ↦ absurd none
        ]
      ];
      all = λ k known.
          let parts = list_any-append (λ (p : Numbered). p.number == k) (map (unless_last n) ps) (new ∷ []) in
          parts ∙ elim (knows k known) as (λ _. (has_number k (map (unless_last n) ps) || has_number k (new ∷ [])) ≡ true) [
            | inl old ↦ or_left _ (has_number k (new ∷ [])) (number_kept n k ps ∙ are.all k old)
            | inr same ↦ or_right (has_number k (map (unless_last n) ps)) _ (or_left (suc (length q) == k) false (eq-eqb (suc (length q)) k (sym same)))
          ];
      few = omega (arith, are.few, length-append (map (unless_last n) ps) (new ∷ []), length-map ps (unless_last n));
    }

knows_write : (w : Write) (h : History) (k : ℕ) → is_known k (WriteIssued w ∷ h) ≡ true → (is_known k h ≡ true) ⊎ (k ≡ w.number)
knows_write w h k known = elim (or_either (list_any (λ v. v.number == k) (issued h ++ w ∷ [])) (is_one_of k (running_syncs h)) known) [
  | inl among ↦ elim (or_either (list_any (λ v. v.number == k) (issued h)) (list_any (λ v. v.number == k) (w ∷ [])) (sym (list_any-append (λ v. v.number == k) (issued h) (w ∷ [])) ∙ among)) [
    | inl old ↦ inl (or_left _ (is_one_of k (running_syncs h)) old)
    | inr new ↦ elim (or_either (w.number == k) false new) [
      | inl same ↦ inr (sym (eqb-true w.number k same))
      | inr none ↦ absurd (both_ways false refl none)
    ]
  ]
  | inr syncs ↦ inl (or_right (list_any (λ v. v.number == k) (issued h)) _ syncs)
]

pub numbered_write : (n : ℕ) (q : List ℕ) (h : History) (ps : List Numbered) (w : Write) → w.number ≡ suc (length q)
    → AreNumbered q h ps → AreNumbered (n ∷ q) (WriteIssued w ∷ h) (numbered_as n (suc (length q)) ps)
numbered_write n q h ps w is are = numbered_more n q h (WriteIssued w ∷ h) ps (λ k known. elim (knows_write w h k known) [
  | inl old ↦ inl old
  | inr new ↦ inr (new ∙ is)
]) are

knows_sync : (s : ℕ) (range : SyncRange) (h : History) (k : ℕ) → is_known k (SyncIssued s range ∷ h) ≡ true → (is_known k h ≡ true) ⊎ (k ≡ s)
knows_sync s range h k known = elim (or_either (list_any (λ v. v.number == k) (issued h)) (is_one_of k (running_syncs h ++ s ∷ [])) known) [
  | inl among ↦ inl (or_left _ (is_one_of k (running_syncs h)) among)
  | inr syncs ↦ elim (one_more s k (running_syncs h) syncs) [
    | inl old ↦ inl (or_right (list_any (λ v. v.number == k) (issued h)) _ old)
    | inr new ↦ inr new
  ]
]

pub numbered_sync : (n : ℕ) (q : List ℕ) (h : History) (ps : List Numbered) (s : ℕ) (range : SyncRange) → s ≡ suc (length q)
    → AreNumbered q h ps → AreNumbered (n ∷ q) (SyncIssued s range ∷ h) (numbered_as n (suc (length q)) ps)
numbered_sync n q h ps s range is are = numbered_more n q h (SyncIssued s range ∷ h) ps (λ k known. elim (knows_sync s range h k known) [
  | inl old ↦ inl old
  | inr new ↦ inr (new ∙ is)
]) are

-- what a log keeps once a write has begun, and once a sync has
pub numbered_written : (n k off : ℕ) (bytes : List ℕ) (b b' : Begun) (old new : Volume) (ps ns : List Numbered)
    → b' ≡ one_begun n b → new ≡ with_write off bytes old → ns ≡ numbered_as n k ps → k ≡ old.next
    → old.next ≡ length b.requests + 1 → AreNumbered b.requests old.history ps → AreNumbered b'.requests new.history ns
numbered_written n k off bytes b b' old new ps ns told issued put given next are =
    let last : k ≡ suc (length b.requests) = omega (arith, given, next) in
    let number : old.next ≡ suc (length b.requests) = omega (arith, next) in
    subst (λ (c : Begun). AreNumbered c.requests new.history ns) (sym told)
    (subst (λ (v : Volume). AreNumbered (n ∷ b.requests) v.history ns) (sym issued)
    (subst (λ (xs : List Numbered). AreNumbered (n ∷ b.requests) (with_write off bytes old).history xs) (sym (put ∙ ap (λ (m : ℕ). numbered_as n m ps) last))
    (numbered_write n b.requests old.history ps (record { number = old.next; off = off; bytes = bytes }) number are)))

pub numbered_synced : (n k : ℕ) (range : SyncRange) (b b' : Begun) (old new : Volume) (ps ns : List Numbered)
    → b' ≡ one_begun n b → new ≡ with_sync range old → ns ≡ numbered_as n k ps → k ≡ old.next
    → old.next ≡ length b.requests + 1 → AreNumbered b.requests old.history ps → AreNumbered b'.requests new.history ns
numbered_synced n k range b b' old new ps ns told issued put given next are =
    let last : k ≡ suc (length b.requests) = omega (arith, given, next) in
    let number : old.next ≡ suc (length b.requests) = omega (arith, next) in
    subst (λ (c : Begun). AreNumbered c.requests new.history ns) (sym told)
    (subst (λ (v : Volume). AreNumbered (n ∷ b.requests) v.history ns) (sym issued)
    (subst (λ (xs : List Numbered). AreNumbered (n ∷ b.requests) (with_sync range old).history xs) (sym (put ∙ ap (λ (m : ℕ). numbered_as n m ps) last))
    (numbered_sync n b.requests old.history ps old.next range number are)))

-- and how many there are then
pub next_begun : (n : ℕ) (b b' : Begun) (old new : Volume) → b' ≡ one_begun n b → new.next ≡ old.next + 1
    → old.next ≡ length b.requests + 1 → new.next ≡ length b'.requests + 1
next_begun n b b' old new told more next = subst (λ (c : Begun). new.next ≡ length c.requests + 1) (sym told) (omega (arith, more, next))

-- where no more is known
pub numbered_less : (q : List ℕ) (h now : History) (ps : List Numbered) → ((k : ℕ) → is_known k now ≡ true → is_known k h ≡ true)
    → AreNumbered q h ps → AreNumbered q now ps
numbered_less q h now ps less are = record { each = are.each; all = λ k known. are.all k (less k known); few = are.few }

knows_less : (s : ℕ) (h : History) (k : ℕ) → (list_any (λ (w : Write). w.number == k) (issued h) || is_one_of k (but s (running_syncs h))) ≡ true → is_known k h ≡ true
knows_less s h k known = elim (or_either (list_any (λ (w : Write). w.number == k) (issued h)) (is_one_of k (but s (running_syncs h))) known) [
  | inl among ↦ or_left _ (is_one_of k (running_syncs h)) among
  | inr syncs ↦ or_right (list_any (λ (w : Write). w.number == k) (issued h)) _ (is_in_but s k (running_syncs h) syncs)
]

pub numbered_write_end : (q : List ℕ) (h : History) (ps : List Numbered) (n : ℕ) → AreNumbered q h ps → AreNumbered q (WriteEnded n ∷ h) ps
numbered_write_end q h ps n are = numbered_less q h (WriteEnded n ∷ h) ps (λ k known. known) are

pub numbered_sync_end : (q : List ℕ) (h : History) (ps : List Numbered) (s : ℕ) → AreNumbered q h ps → AreNumbered q (SyncEnded s ∷ h) ps
numbered_sync_end q h ps s are = numbered_less q h (SyncEnded s ∷ h) ps (λ k known. knows_less s h k known) are

pub numbered_sync_failure : (q : List ℕ) (h : History) (ps : List Numbered) (s : ℕ) → AreNumbered q h ps → AreNumbered q (SyncFailed s ∷ h) ps
numbered_sync_failure q h ps s are = numbered_less q h (SyncFailed s ∷ h) ps (λ k known. knows_less s h k known) are

-- A fold.

knows_folded : (old new : Volume) (k : ℕ) → IsFoldedFrom old new → is_known k new.history ≡ true → is_known k old.history ≡ true
knows_folded old new k f known = elim (or_either (list_any (λ (w : Write). w.number == k) (issued new.history)) (is_one_of k (running_syncs new.history)) known) [
  | inl among ↦
      let found = any_is (λ (w : Write). w.number == k) (issued new.history) among in
      let there = in_issued old.history found.0 (f.none_new found.0 (of_issued new.history found.0 found.1)) in
      or_left _ (is_one_of k (running_syncs old.history)) (is_any (λ (w : Write). w.number == k) found.0 (issued old.history) there found.2)
  | inr syncs ↦ or_right (list_any (λ (w : Write). w.number == k) (issued old.history)) _ (subst (λ (ns : List ℕ). is_one_of k ns ≡ true) f.syncs_run syncs)
]

pub numbered_folded : (q : List ℕ) (old new : Volume) (ps : List Numbered) → IsFoldedFrom old new
    → AreNumbered q old.history ps → AreNumbered q new.history ps
numbered_folded q old new ps f are = numbered_less q old.history new.history ps (λ k known. knows_folded old new k f known) are

has_left : (h : History) (k : ℕ) (ps : List Numbered) → is_known k h ≡ true → has_number k ps ≡ true
    → has_number k (filter (λ p. is_known p.number h) ps) ≡ true
has_left h k [] known is = is
has_left h k (p ∷ ps) known is = elim (cases_Bool (p.number == k)) [
  | inl here ↦
      let same : is_known p.number h ≡ true = subst (λ (n : ℕ). is_known n h ≡ true) (sym (eqb-true p.number k here)) known in
      subst (λ (xs : List Numbered). has_number k xs ≡ true) (sym (cond-true (is_known p.number h) (p ∷ filter (λ x. is_known x.number h) ps) (filter (λ x. is_known x.number h) ps) same)) (or_left (p.number == k) _ here)
  | inr other ↦
      let rest : has_number k ps ≡ true = elim (or_either (p.number == k) (has_number k ps) is) [
        | inl e ↦ absurd (both_ways (p.number == k) other e)
        | inr e ↦ e
      ] in
      let left = has_left h k ps known rest in
      elim (cases_Bool (is_known p.number h)) [
        | inl stays ↦ subst (λ (xs : List Numbered). has_number k xs ≡ true) (sym (cond-true (is_known p.number h) (p ∷ filter (λ x. is_known x.number h) ps) (filter (λ x. is_known x.number h) ps) stays)) (or_right (p.number == k) _ left)
        | inr goes ↦ subst (λ (xs : List Numbered). has_number k xs ≡ true) (sym (cond-false (is_known p.number h) (p ∷ filter (λ x. is_known x.number h) ps) (filter (λ x. is_known x.number h) ps) goes)) left
      ]
]

numbered_known : (q : List ℕ) (h : History) (ps : List Numbered) → length q ≤ most_numbers → AreNumbered q h ps
    → AreNumbered q h (filter (λ p. is_known p.number h) ps)
numbered_known q h ps few are = record {
  each = λ p among. are.each p (of_filter (λ (x : Numbered). is_known x.number h) p ps among);
  all = λ k known. has_left h k ps known (are.all k known);
  few = omega (arith, few);
}

pub numbered_left : (q : List ℕ) (v : Volume) (ps : List Numbered) → v.next ≡ length q + 1 → AreNumbered q v.history ps
    → AreNumbered q v.history (left_of v.next v.history ps)
numbered_left q v ps next are =
    let known : List Numbered = filter (λ p. is_known p.number v.history) ps in
    elim (cases_Bool (nat_le v.next most_numbers)) [
      | inl few ↦
          let within : v.next ≤ most_numbers = leb-true v.next most_numbers few in
          subst (λ (ns : List Numbered). AreNumbered q v.history ns) (sym (cond-true (nat_le v.next most_numbers) known ps few)) (numbered_known q v.history ps (omega (arith, within, next)) are)
      | inr many ↦ subst (λ (ns : List Numbered). AreNumbered q v.history ns) (sym (cond-false (nat_le v.next most_numbers) known ps many)) are
    ]

-- What isn't among these isn't there.

none_of : (h : History) (k : ℕ) → is_known k h ≡ false → list_any (λ (w : Write). w.number == k) (issued h) ≡ false
none_of h k out = false_from_ne_true (list_any (λ (w : Write). w.number == k) (issued h)) (λ is. both_ways (is_known k h) out (or_left _ (is_one_of k (running_syncs h)) is))

pub no_write_ends : (v : Volume) (k : ℕ) → is_known k v.history ≡ false → write_ended k v ≡ v
no_write_ends v k out =
    let idle : is_one_of k (running_writes v.history) ≡ false = false_from_ne_true (is_one_of k (running_writes v.history)) (λ runs.
    let found = runs_issued v.history k runs in
    both_ways (list_any (λ (w : Write). w.number == k) (issued v.history)) (none_of v.history k out)
    (is_any (λ (w : Write). w.number == k) found.0 (issued v.history) (in_issued v.history found.0 found.1) (eq-eqb found.0.number k found.2))) in
    grind (arith, idle)

pub no_sync_ends : (res : ℤ) (v : Volume) (k : ℕ) → is_known k v.history ≡ false → sync_with res k v ≡ v
no_sync_ends res v k out =
    let idle : is_one_of k (running_syncs v.history) ≡ false = false_from_ne_true (is_one_of k (running_syncs v.history)) (λ runs.
    both_ways (is_known k v.history) out (or_right (list_any (λ (w : Write). w.number == k) (issued v.history)) _ runs)) in
    grind (arith, idle)

pub none_safe : (h : History) (k : ℕ) → is_known k h ≡ false → has_safe h (named k (issued h)) ≡ false
none_safe h k out = ap (λ (ws : List Write). has_safe h ws) (none_filtered (λ (w : Write). w.number == k) (issued h) (none_of h k out))

-- Searches.

pub last_found : (q : List ℕ) (n : ℕ) (p : Numbered) → IsGivenBy q p → (p.is_last && p.request == n) ≡ true → number_of n q ≡ p.number
last_found q n p is found = grind (arith, is.last)

pub none_found : (q : List ℕ) (n : ℕ) (ps : List Numbered) → ((p : Numbered) → IsIn p ps → IsGivenBy q p)
    → list_any (λ p. p.is_last && p.request == n) ps ≡ false → has_number (number_of n q) ps ≡ false
none_found q n ps each none = false_from_ne_true (has_number (number_of n q) ps) (λ is.
    let found = any_is (λ (p : Numbered). p.number == number_of n q) ps is in
    let p : Numbered = found.0 in
    let right = each p found.1 in
    let same : p.number ≡ number_of n q = eqb-true p.number (number_of n q) found.2 in
    let some : 0 < number_of n q = elim (cases_Bool (number_of n q == 0)) [
      | inl zero_it ↦ absurd (request_some p.request q (ap (λ k. request_of k q) (sym (eqb-true (number_of n q) 0 zero_it) ∙ sym same) ∙ right.request))
      | inr more ↦ (let e : (number_of n q ≡ 0 → ⊥) = λ e. both_ways (number_of n q == 0) more (eq-eqb (number_of n q) 0 e) in omega (arith, e))
    ] in
    let mine : Some p.request ≡ Some n = sym right.request ∙ ap (λ k. request_of k q) same ∙ request_numbered n q some in
    let asked : p.request ≡ n = cc in
    let last : p.is_last ≡ true = right.last ∙ eq-eqb (number_of p.request q) p.number (ap (λ m. number_of m q) asked ∙ sym same) in
    both_ways (list_any (λ (x : Numbered). x.is_last && x.request == n) ps) none
    (is_any (λ (x : Numbered). x.is_last && x.request == n) p ps found.1 (ap (λ b. b && p.request == n) last ∙ eq-eqb p.request n asked)))

-- One of two is so, and both are as wanted.
pub either_way : {X : Type 0} (b : Bool) (x y now : X) (P : X → Type 0) → now ≡ cond b x y → P x → P y → P now
either_way true x y now P is one other = subst P (sym is) one
either_way false x y now P is one other = subst P (sym is) other

pub request_there : (found : Option ℕ) (q : List ℕ) (h : History) (ps : List Numbered) (k : ℕ) → AreNumbered q h ps
    → IfSome found (λ n. request_of k q ≡ Some n) → IfNone found (has_number k ps ≡ false)
    → is_known k h ≡ true → found ≡ request_of k q
request_there (Some n) q h ps k are right none known = sym right
request_there None q h ps k are right none known = absurd (both_ways (has_number k ps) none (are.all k known))
