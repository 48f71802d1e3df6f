-- Lines tell one thing at most.
use Rattle.std.proofs.Common.{◌≡◌, ℕ, ◌<◌, ◌≤◌, false, List, [], ◌∷◌, ◌++◌, length, Ok, Err, refl, sym, ap, ◌∙◌, arith, ◌⊎◌, inl, inr}
use Rattle.uring_play_text.proofs.Common.{AreCalls, AreItemLines, IsBadLine, IsItemLine, IsTold, Item, PlayFault, Reaches, SpellsCalls, Tells, Told, blocks_of, is_blank, last_block, ne_eqb, open_block, slice_split-cons_no}
use Rattle.uring_text.proofs.LineLaws.{split_once}
use Rattle.uring_play_text.specs.declared.play_fault.PlayFault.TheVariants as fault
use Rattle.uring_play_text.proofs.CallLaws.{glue, some_part, split_append}
use Rattle.uring_play_text.proofs.ItemLaws.{line_once, item_not_blank}

abbrev Line : Type 0
Line = List ℕ

abbrev Block : Type 0
Block = List (List ℕ)

-- ---- calls are one list at most

items_once : (size : ℕ) (lines : Block) (a b : List Item) → AreItemLines size lines a
    → AreItemLines size lines b → a ≡ b
items_once size [] [] [] h k = refl
items_once size (l ∷ lines) (i ∷ a) (j ∷ b) h k = cc (line_once size l i j h.0 k.0, items_once size lines a b h.1 k.1)
items_once size _ _ _ h k = grind arith

calls_once : (size : ℕ) (blocks : List Block) (a b : List (List Item)) → AreCalls size blocks a
    → AreCalls size blocks b → a ≡ b
calls_once size [] [] [] h k = refl
calls_once size ([] ∷ blocks) a b h k = calls_once size blocks a b h k
calls_once size ((l ∷ lines) ∷ blocks) (c ∷ a) (d ∷ b) h k =
    cc (items_once size (l ∷ lines) c d h.0.lines_are k.0.lines_are, calls_once size blocks a b h.1 k.1)
calls_once size _ _ _ h k = grind arith

-- ---- a line among others that spell calls

some_list : {X : Type 0} (l : List X) → 0 < length l → (x : X) × (xs : List X) × (l ≡ x ∷ xs)
some_list [] lt = absurd (omega arith)
some_list (x ∷ xs) lt = (x, xs, refl)

-- a line of a call, after others of it
among : (size : ℕ) (a : Block) (line : Line) (b : Block) (items : List Item)
    → AreItemLines size (a ++ line ∷ b) items
    → (i : Item) × IsItemLine size line i × (length a < length items)
among size [] line b (i ∷ items) h = (i, h.0, omega arith)
among size (l ∷ a) line b (i ∷ items) h = grind (arith, (among size a line b items h.1))
among size _ line b _ h = absurd (grind arith)

abbrev Has : ℕ → Block → Line → Type 0
Has size block line = (i : Item) × IsItemLine size line i × (length block < size)

inside : (size : ℕ) (blocks : List Block) (line : Line) (b : Block) (bs : List Block) (calls : List (List Item))
    → 0 < length blocks → AreCalls size (glue blocks ((line ∷ b) ∷ bs)) calls
    → Has size (last_block blocks) line
inside size ([] ∷ []) line b bs (c ∷ calls) lt h = grind (arith, (among size [] line b c h.0.lines_are))
inside size ((l ∷ a) ∷ []) line b bs (c ∷ calls) lt h = grind (arith, (among size (l ∷ a) line b c h.0.lines_are))
inside size ([] ∷ c ∷ blocks) line b bs calls lt h = inside size (c ∷ blocks) line b bs calls (omega arith) h
inside size ((l ∷ a) ∷ c ∷ blocks) line b bs (d ∷ calls) lt h =
    inside size (c ∷ blocks) line b bs calls (omega arith) h.1
inside size _ line b bs _ lt h = absurd (grind arith)

-- a line that isn't empty is an item for which its call has a place
good : (size : ℕ) (before : Block) (line : Line) (after : Block) (calls : List (List Item))
    → is_blank line ≡ false → SpellsCalls size (before ++ line ∷ after) calls
    → Has size (open_block before) line
good size before line after calls keeps h =
    let parts = some_list (blocks_of after) (some_part is_blank after) in
    inside size (blocks_of before) line parts.0 parts.1 calls (some_part is_blank before) (rw (split_append is_blank before (line ∷ after), slice_split-cons_no is_blank line after keeps, parts.2) at h)

-- the line is the k-th, and faulty after these
abbrev IsFaulty : ℕ → Block → Line → ℕ → PlayFault → Type 0
IsFaulty size before line k f = (IsBadLine size line × (f ≡ fault.Line k))
    ⊎ ((i : Item) × IsItemLine size line i × (size ≤ length (open_block before)) × (f ≡ fault.Long k))

not_blank : (line : Line) → (line ≡ [] → ⊥) → is_blank line ≡ false
not_blank [] some = absurd (some refl)
not_blank (b ∷ line) some = ne_eqb (length (b ∷ line)) 0 (λ e. omega arith)

no_fault : (size : ℕ) (before : Block) (line : Line) (after : Block) (calls : List (List Item)) (k : ℕ) (f : PlayFault)
    → SpellsCalls size (before ++ line ∷ after) calls → IsFaulty size before line k f → ⊥
no_fault size before line after calls k f h faulty = grind (arith, good, not_blank, item_not_blank)

-- ---- the first faulty line stands at one place

places : (b : Block) (l : Line) (a c : Block) (m : Line) (d : Block) → b ++ l ∷ a ≡ c ++ m ∷ d
    → ((b ≡ c) × (l ≡ m)) ⊎ (((x : Block) × (c ≡ b ++ l ∷ x)) ⊎ ((x : Block) × (b ≡ c ++ m ∷ x)))
places [] l a [] m d e = inl (refl, cc)
places [] l a (y ∷ c) m d e = grind arith
places (x ∷ b) l a [] m d e = inr (inr (b, cc))
places (x ∷ b) l a (y ∷ c) m d e = grind (arith, (places b l a c m d cc))

abbrev Faults : ℕ → Block → PlayFault → Type 0
Faults size lines f = (k : ℕ) × (r : Reaches size lines k) × IsFaulty size r.before r.line k f

faults : (size : ℕ) (lines : Block) (f : PlayFault) → Tells size lines (Err f) → Faults size lines f
faults size lines (fault.Line k) h = (k, h.0, inl (h.1, refl))
faults size lines (fault.Long k) h = (k, h.0, inr (h.1, h.2, h.3, refl))
faults size lines _ h = absurd h

same_fault : (size : ℕ) (before : Block) (line : Line) (k : ℕ) (f g : PlayFault)
    → IsFaulty size before line k f → IsFaulty size before line k g → f ≡ g
same_fault size before line k f g h i = grind arith

one_fault : (size : ℕ) (lines : Block) (f g : PlayFault) → Faults size lines f → Faults size lines g
    → f ≡ g
one_fault size lines f g (j, r, h) (k, s, i) =
    elim (places r.before r.line r.after s.before s.line s.after (sym r.all ∙ s.all)) [
      | inl same ↦ let here : j ≡ k = omega (arith, r.number, s.number, ap length same.0) in same_fault size s.before s.line k f g (rw (here, same.0, same.1) at h) i
      | inr (inl x) ↦ absurd (no_fault size r.before r.line x.0 s.calls j f (rw x.1 at s.faultless) h)
      | inr (inr x) ↦ absurd (no_fault size s.before s.line x.0 r.calls k g (rw x.1 at r.faultless) i)
    ]

not_calls : (size : ℕ) (lines : Block) (calls : List (List Item)) (f : PlayFault)
    → Faults size lines f → SpellsCalls size lines calls → ⊥
not_calls size lines calls f h spells = no_fault size h.1.before h.1.line h.1.after calls h.0 f (rw h.1.all at spells) h.2

lines_once : (size : ℕ) (lines : Block) (a b : Told) → Tells size lines a → Tells size lines b
    → a ≡ b
lines_once size lines (Ok a) (Ok b) h k = cc (calls_once size (blocks_of lines) a b h k)
lines_once size lines (Ok a) (Err g) h k = absurd (not_calls size lines a g (faults size lines g k) h)
lines_once size lines (Err f) (Ok b) h k = absurd (not_calls size lines b f (faults size lines f h) k)
lines_once size lines (Err f) (Err g) h k = cc (one_fault size lines f g (faults size lines f h) (faults size lines g k))

-- bytes tell one thing at most
pub told_once : (size : ℕ) (bytes : List ℕ) (a b : Told) → IsTold size bytes a → IsTold size bytes b
    → a ≡ b
told_once size bytes a b h k =
    let split = split_once bytes h.1.ended k.1.ended h.1.rest k.1.rest h.1.splits k.1.splits in
    let same : h.0 ≡ k.0 = cc (split.0, split.1, h.1.all, k.1.all) in
    lines_once size k.0 a b (rw same at h.2) k.2
