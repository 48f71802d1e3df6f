-- What messages were sent for is what they are the messages of.
use Rattle.std.proofs.Common.{◌≡◌, ℕ, suc, ◌+◌, List, [], ◌∷◌, ◌++◌, length, refl, ◌∙◌, ap, arith, append_assoc, add-zero, zero-add, length-append}
use Rattle.uring_ports.specs.declared.item.Item.{Item}
use Rattle.uring_ports.specs.declared.message.Message.{Message}
use Rattle.uring_ports.specs.Ports.{items_of_calls}
use Rattle.uring_ports.specs.Messages.{item_before, items_before, messages_of_calls, calls_of, has_close_mark, owed_from, owed}

-- no call is empty
abbrev pub AreSome : List (List Item) → Type 0
AreSome [] = Unit {0}
AreSome ([] ∷ calls) = ⊥
AreSome ((x ∷ xs) ∷ calls) = AreSome calls

pub some_calls_of : (ms : List Message) → AreSome (calls_of ms)
some_calls_of [] = tt
some_calls_of (m ∷ ms) = grind (arith, some_calls_of ms)

pub some_append : (xs ys : List (List Item)) → AreSome xs → AreSome ys → AreSome (xs ++ ys)
some_append [] ys p q = q
some_append ([] ∷ xs) ys p q = absurd p
some_append ((x ∷ call) ∷ xs) ys p q = some_append xs ys p q

pub calls_of_call : (x : Item) (xs : List Item) (rest : List Message)
    → calls_of (items_before 0 (x ∷ xs) ++ rest) ≡ (x ∷ xs) ∷ calls_of rest
calls_of_call x [] rest = refl
calls_of_call x (y ∷ ys) rest = rw (add-zero (length (y ∷ ys)), calls_of_call y ys rest) refl

pub close_mark_call : (left : ℕ) (xs : List Item) (rest : List Message)
    → has_close_mark (items_before left xs ++ rest) ≡ has_close_mark rest
close_mark_call left [] rest = refl
close_mark_call left (x ∷ xs) rest = close_mark_call left xs rest

pub calls_of_calls : (calls : List (List Item)) (rest : List Message) → AreSome calls
    → (calls_of (messages_of_calls calls ++ rest) ≡ calls ++ calls_of rest) × (has_close_mark (messages_of_calls calls ++ rest) ≡ has_close_mark rest)
calls_of_calls [] rest some = (refl, refl)
calls_of_calls ([] ∷ calls) rest some = absurd some
calls_of_calls ((x ∷ xs) ∷ calls) rest some =
    let assoc = append_assoc (items_before 0 (x ∷ xs)) (messages_of_calls calls) rest in
    let r = calls_of_calls calls rest some in (
      ap calls_of assoc ∙ calls_of_call x xs (messages_of_calls calls ++ rest) ∙ ap (λ cs. (x ∷ xs) ∷ cs) r.0,
      ap has_close_mark assoc ∙ close_mark_call 0 (x ∷ xs) (messages_of_calls calls ++ rest) ∙ r.1,
    )

pub length_items_before : (left : ℕ) (xs : List Item) → length (items_before left xs) ≡ length xs
length_items_before left [] = refl
length_items_before left (x ∷ xs) = ap suc (length_items_before left xs)

pub length_messages_of_calls : (calls : List (List Item))
    → length (messages_of_calls calls) ≡ length (items_of_calls calls)
length_messages_of_calls [] = refl
length_messages_of_calls (call ∷ calls) = rw (length-append (items_before 0 call) (messages_of_calls calls), length-append call (items_of_calls calls)) (rw (length_items_before 0 call, length_messages_of_calls calls) refl)

pub items_before_snoc : (left : ℕ) (xs : List Item) (x : Item)
    → items_before (suc left) xs ++ item_before left x ∷ [] ≡ items_before left (xs ++ x ∷ [])
items_before_snoc left [] x = rw zero-add refl
items_before_snoc left (y ∷ ys) x = grind (arith, length-append ys (x ∷ []), items_before_snoc left ys x)

pub owed_from_append : (n : ℕ) (xs ys : List Message)
    → owed_from n (xs ++ ys) ≡ owed_from (owed_from n xs) ys
owed_from_append n [] ys = refl
owed_from_append n (x ∷ xs) ys = owed_from_append x.left xs ys

pub owed_from_items : (n left : ℕ) (x : Item) (xs : List Item)
    → owed_from n (items_before left (x ∷ xs)) ≡ left
owed_from_items n left x [] = zero-add left
owed_from_items n left x (y ∷ ys) = owed_from_items (length (y ∷ ys) + left) left y ys

-- after whole calls nothing is owed
pub owed_calls : (calls : List (List Item)) → owed (messages_of_calls calls) ≡ 0
owed_calls [] = refl
owed_calls ([] ∷ calls) = owed_calls calls
owed_calls ((x ∷ xs) ∷ calls) = grind (arith, owed_from_append (length xs + 0) (items_before 0 xs), owed_from_items 0 0 x xs, owed_calls calls)
