-- Lists of items and of places: which entries they have, how many are dropped, and how calls are cut.
use Rattle.std.proofs.Common.{◌≡◌, ℕ, ◌+◌, ◌≤◌, Bool, List, [], ◌∷◌, ◌++◌, length, take, drop, map, sum, Option, cond, refl, sym, ap, ap₂, ◌∙◌, arith, append-nil}
use Rattle.uring_outcomes.proofs.Common.{Place, Published, Sqe, Submission, bad_in, bad_word, drop-append_seam, drop-map, dropped_in, entries_from, entries_in, entry_in, is_bad, is_none, item_of, items_in, places_from, published_items, take-length, take-map, taken, with_entry}
use Rattle.uring_entry.specs.Submission.{entries_of}
use Rattle.std.specs.List.{cons_option}
use Rattle.std.proofs.lemmas.List.Concat.{length-flat_map}
use Rattle.std.proofs.lemmas.List.Sums.{sum-map, sum_by-cons}
use Rattle.std.proofs.lemmas.Grind.{flat_map-append}

abbrev pub item : Place → Published
item place = item_of place.word place.entry

entry_back : (word : ℕ) (entry : Option Sqe) → entry_in (item_of word entry) ≡ entry
entry_back word entry = grind arith

-- the entries of places are those of their items
pub entries_back : (places : List Place) → entries_in (map item places) ≡ entries_of places
entries_back [] = refl
entries_back (p ∷ places) = ap₂ (λ o es. cons_option o es) (entry_back p.word p.entry) (entries_back places)

bad_back : (word : ℕ) (entry : Option Sqe) → is_bad (item_of word entry) ≡ is_none entry
bad_back word entry = grind arith

-- as many places drop their word as their items are bad
pub dropped_back : (places : List Place) → bad_in (map item places) ≡ dropped_in places
dropped_back [] = refl
dropped_back (p ∷ places) =
    sum_by-cons (λ x. cond (is_bad x) 1 0) (item p) (map item places)
    ∙ ap₂ (λ (b : Bool) (n : ℕ). cond b 1 0 + n) (bad_back p.word p.entry) (dropped_back places)
    ∙ sym (sum_by-cons (λ (q : Place). cond (is_none q.entry) 1 0) p places)

-- no more entries than items
pub few_entries : (items : List Published) → length (entries_in items) ≤ length items
few_entries [] = omega arith
few_entries (with_entry entry ∷ later) = let e = few_entries later in omega arith
few_entries (bad_word word ∷ later) = let e = few_entries later in omega arith

-- the items of the positions after those taken, if these were the ones before
pub items_after : (l : Submission) (old new : List Published) → published_items l ≡ old ++ new
    → taken l ≡ length old → entries_from l (length new) ≡ entries_in new
items_after l old new are reached =
    sym (entries_back (places_from l (length new)))
    ∙ ap entries_in (sym (take-map item (length new) (drop (taken l) l.published)) ∙ ap (take (length new)) (sym (drop-map item (taken l) l.published) ∙ ap₂ drop reached are ∙ drop-append_seam old new) ∙ take-length new)

-- one call more
pub items_more : (calls : List (List Published)) (call : List Published)
    → items_in (calls ++ call ∷ []) ≡ items_in calls ++ call
items_more calls call = flat_map-append (λ (c : List Published). c) calls (call ∷ []) ∙ ap (λ xs. items_in calls ++ xs) (append-nil call)

-- all calls have as many items as each has together
pub length_items : (calls : List (List Published)) → length (items_in calls) ≡ sum (map length calls)
length_items calls = grind (arith, length-flat_map, sum-map)
