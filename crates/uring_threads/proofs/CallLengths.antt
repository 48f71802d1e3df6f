-- Lengths of the calls that take in calls that were submitted.
use Rattle.std.proofs.Common.{◌≡◌, ℕ, zero, suc, ◌+◌, ◌<◌, Bool, true, false, List, [], ◌∷◌, ◌++◌, length, map, flat_map, refl, sym, ap, ◌∙◌, arith, add-zero, append-nil}
use Rattle.uring_threads.proofs.Common.{Item, KeepsLengths, Setup, calls_after, calls_of, ends_after_item, flat_map-append, lengths_of, map-append}
use Rattle.std.proofs.lemmas.Bool.{cases_Bool}
use Rattle.uring_ports.specs.declared.item.Item.TheVariants as item

-- by the manual pages' rules a call ends after no item
none_ends : (g : Setup) → g.linux ≡ false → (i : Item) → ends_after_item g i ≡ false
none_ends g manual (item.Entry entry) = refl
none_ends g manual (item.Bad word) = grind arith

-- so all of them are of the call that has taken so many before
whole_after : (g : Setup) → g.linux ≡ false → (items : List Item) (before : ℕ)
    → 0 < before + length items
    → calls_after (map (ends_after_item g) items) before ≡ (before + length items) ∷ []
unfolding calls_after
whole_after g manual [] zero some = absurd (omega (arith, some))
whole_after g manual [] (suc before) some = rw (add-zero (suc before)) refl
whole_after g manual (i ∷ items) before some =
    rw (none_ends g manual i) (whole_after g manual items (suc before) (omega arith) ∙ ap (λ n. n ∷ []) (omega arith))

pub keeps_lengths : (g : Setup) → KeepsLengths g
keeps_lengths g manual items some = whole_after g manual items 0 (omega arith) ∙ ap (λ n. n ∷ []) (omega arith)

pub lengths_none : (g : Setup) → lengths_of g [] ≡ []
lengths_none g = grind (arith, cases_Bool g.linux)

pub lengths_append : (g : Setup) (xs ys : List (List Item))
    → lengths_of g (xs ++ ys) ≡ lengths_of g xs ++ lengths_of g ys
lengths_append g xs ys = grind (arith, cases_Bool g.linux, flat_map-append, map-append)

-- one call more is taken in by its calls
pub lengths_more : (g : Setup) (calls : List (List Item)) (items : List Item) → 0 < length items
    → lengths_of g (calls ++ items ∷ []) ≡ lengths_of g calls ++ calls_of g items
lengths_more g calls items some =
    lengths_append g calls (items ∷ [])
    ∙ ap (λ ls. lengths_of g calls ++ ls) (grind (arith, cases_Bool g.linux, append-nil, keeps_lengths g))
