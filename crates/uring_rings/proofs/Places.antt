-- The entries and the dropped words among published places.
use Rattle.std.proofs.Common.{◌≡◌, ℕ, ◌+◌, List, [], ◌∷◌, ◌++◌, length, take, drop, cond, Some, None, refl, ap, arith}
use Rattle.uring_rings.proofs.Common.{Place, Sqe, append-nil, dropped_in, entries_of, get_or-drop, get_or_from_slice_get, length-drop, length_push, slice_get, slice_get_within, take_more}
use Rattle.std.proofs.lemmas.List.Elements.{filter_map-append}
use Rattle.std.proofs.lemmas.List.Sums.{sum_by-append, sum_by-cons}
use Rattle.std.proofs.Math.Seq.{take-add}

-- each place has an entry, or its word is dropped
pub entries_and_dropped : (places : List Place)
    → length (entries_of places) + dropped_in places ≡ length places
entries_and_dropped [] = refl
entries_and_dropped (p ∷ places) = rw sum_by-cons (grind (arith, cond, entries_and_dropped places))

-- the next place, at the end of those taken
pub places_more : (places : List Place) (n t : ℕ) (p : Place) → slice_get places (n + t) ≡ Some p
    → take (t + 1) (drop n places) ≡ take t (drop n places) ++ p ∷ []
places_more places n t p found =
    grind (arith, slice_get_within places (n + t) p found, length-drop n places, get_or-drop n places t p, get_or_from_slice_get places (n + t) p p found, take_more (drop n places) t p)

-- one more place with an entry is one more entry
pub entry_more : (places : List Place) (n t : ℕ) (p : Place) (e : Sqe)
    → slice_get places (n + t) ≡ Some p → p.entry ≡ Some e
    → length (entries_of (take (t + 1) (drop n places)))
    ≡ length (entries_of (take t (drop n places))) + 1
entry_more places n t p e found has = rw (places_more places n t p found, filter_map-append, has) (length_push _ _)

-- one more place with no entry is no more entry
pub dropped_more : (places : List Place) (n t : ℕ) (p : Place) → slice_get places (n + t) ≡ Some p
    → p.entry ≡ None
    → length (entries_of (take (t + 1) (drop n places)))
    ≡ length (entries_of (take t (drop n places)))
dropped_more places n t p found has = rw (places_more places n t p found, filter_map-append, has) (ap length (append-nil _))

-- the words dropped among the first n + m places
pub dropped_beyond : (places : List Place) (n m : ℕ)
    → dropped_in (take (n + m) places)
    ≡ dropped_in (take n places) + dropped_in (take m (drop n places))
dropped_beyond places n m = rw take-add (sum_by-append _ (take n places) (take m (drop n places)))
