-- The orders of the outcomes that have a line.
use Rattle.std.proofs.Common.{◌≡◌, ◌↔◌, ℕ, ◌+◌, ◌<◌, List, [], ◌∷◌, ◌++◌, length, map, get_or, Some, refl, sym, ap, subst, ◌∙◌, arith, append-nil, inl, inr}
use Rattle.uring_litmus.proofs.Common.{AreLinesOf, Contains, Contains-append_left, Contains-append_right, Contains-push_cases, CountsOrders, Ending, Form, Global, HasBoth, IsLineOf, IsSortedOnce, String, false, length-map, option_map, order_text, slice_get, slice_get-map, slice_get_read, slice_get_within, string_bytes, texts_of, zero}
use Rattle.std.proofs.lemmas.Bool.{cases_lt}

-- the same below a place
abbrev pub HasBelow : List (List ℕ) → List (List ℕ) → List ℕ → ℕ → List ℕ → Type 0
HasBelow each orders line i order =
    (k : ℕ) × (k < i) × (slice_get each k ≡ Some line) × (slice_get orders k ≡ Some order)

pub none_below : (each orders : List (List ℕ)) (line order : List ℕ) (own : List (List ℕ)) → own ≡ []
    → Contains own order ↔ HasBelow each orders line 0 order
none_below each orders line order own none = grind arith

pub same_text : {x y : List ℕ} → Some x ≡ Some y → x ≡ y
same_text e = cc

-- one order more, if the outcome has the line
pub pushed_below : (each orders : List (List ℕ)) (line copy order : List ℕ) (i : ℕ) (before after : List (List ℕ))
    → slice_get each i ≡ Some line → slice_get orders i ≡ Some copy → after ≡ before ++ copy ∷ []
    → Contains before order ↔ HasBelow each orders line i order
    → Contains after order ↔ HasBelow each orders line (i + 1) order
pushed_below each orders line copy order i before after at one is was = (
  λ has. elim (Contains-push_cases before copy order (subst (λ l. Contains l order) is has)) [
    | inl old ↦ (let b = was.0 old in (b.0, (let low = b.1 in omega arith), b.2, b.3))
    | inr same ↦ (i, omega arith, at, one ∙ ap Some same)
  ],
  λ has. subst (λ l. Contains l order) (sym is) (elim (cases_lt has.0 i) [
    | inl low ↦ Contains-append_left before (copy ∷ []) order (was.1 (has.0, low, has.2, has.3))
    | inr high ↦ (let below = has.1 in let same : has.0 ≡ i = omega arith in Contains-append_right before (copy ∷ []) order (zero, omega arith, same_text (sym one ∙ ap (slice_get orders) (sym same) ∙ has.3)))
  ]),
)

-- none, if it hasn't, or there is no order
pub passed_below : (each orders : List (List ℕ)) (line order : List ℕ) (i : ℕ) (own : List (List ℕ))
    → (slice_get each i ≡ Some line → slice_get orders i ≡ Some order → ⊥)
    → Contains own order ↔ HasBelow each orders line i order
    → Contains own order ↔ HasBelow each orders line (i + 1) order
passed_below each orders line order i own other was = grind arith

pub all_below : (each orders : List (List ℕ)) (line order : List ℕ) (i : ℕ) (own : List (List ℕ))
    → length each ≡ i → Contains own order ↔ HasBelow each orders line i order
    → Contains own order ↔ HasBoth each orders line order
all_below each orders line order i own many both = (
  λ has. (let b = both.0 has in (b.0, b.2, b.3)),
  λ has. both.1 (has.0, (let low = slice_get_within each has.0 line has.1 in omega arith), has.1, has.2),
)

-- the count of what is sorted once
pub counted : (each orders : List (List ℕ)) (line : List ℕ) (own sorted : List (String Global)) (count : ℕ)
    → ((order : List ℕ) → Contains (texts_of own) order ↔ HasBoth each orders line order)
    → IsSortedOnce (texts_of own) (texts_of sorted) → count ≡ length sorted
    → CountsOrders each orders line count
counted each orders line own sorted count both once many = record {
  own = texts_of sorted;
  right = λ order has. (both order).0 (once.right order has);
  all = λ order has. once.kept order ((both order).1 has);
  once = once.sorted;
  many = length-map sorted string_bytes ∙ sym many;
}

-- the completions alone, in their order
abbrev pub order_form : Form
order_form = record { is_sorted = false; has_files = false }

order_is : (e : Ending) (line : List ℕ) → IsLineOf order_form e line → line ≡ order_text e
order_is e line shows = grind (arith, append-nil)

pub orders_are : (endings : List Ending) (lines : List (List ℕ)) → AreLinesOf order_form endings lines
    → lines ≡ map order_text endings
orders_are [] [] are = refl
orders_are [] (line ∷ lines) are = absurd are
orders_are (e ∷ endings) [] are = absurd are
orders_are (e ∷ endings) (line ∷ lines) are = grind (arith, (order_is e line are.0), (orders_are endings lines are.1))

-- the text at a place
pub text_at : (each : List (String Global)) (i : ℕ) (text : String Global) → i < length each
    → text ≡ get_or each i text → slice_get (texts_of each) i ≡ Some (string_bytes text)
text_at each i text low is =
    slice_get-map string_bytes each i ∙ ap (option_map string_bytes) (slice_get_read each (length each) i text refl low is)
