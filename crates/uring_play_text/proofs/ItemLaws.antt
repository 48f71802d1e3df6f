-- What the tokens of an item's line spell.
use Rattle.std.proofs.Common.{◌≡◌, ℕ, ◌<◌, ◌≤◌, ◌^◌, false, List, [], ◌∷◌, length, arith}
use mathlib.Core.List.{head-eq_of_cons-eq, tail-eq_of_cons-eq}
use Rattle.uring_play_text.proofs.Common.{IsItemLine, IsNoBadWord, IsNoItem, Item, SpellsItem, Sqe, codes, is_blank, ne_eqb}
use Rattle.uring_text.specs.Tokens.{tokens_of}
use Rattle.uring_text.specs.Spelling.{SpellsNumber}
use Rattle.uring_text.specs.Forms.{SpellsEntry}
use Rattle.uring_text.proofs.Spellings.{number_once, spelled_once}

-- no form is named so

pub no_entry : (rest : List (List ℕ)) (entry : Sqe) → SpellsEntry (codes "bad" ∷ rest) entry → ⊥
no_entry rest entry h = grind (arith, h.form.name, h.spells.1)

-- `bad` and a token that is no such word
pub bad_is_none : (size : ℕ) (token : List ℕ) (tokens : List (List ℕ))
    → tokens ≡ codes "bad" ∷ token ∷ [] → IsNoBadWord size token → IsNoItem size tokens
bad_is_none size token tokens is none h h2 = grind arith

-- a number below the size
pub below : (size : ℕ) (token : List ℕ) (word : ℕ) → SpellsNumber (2 ^ 32) token word → word < size
    → IsNoBadWord size token
below size token word h lt other k = grind (arith, number_once)

-- tokens are one item at most
pub item_once : (size : ℕ) (tokens : List (List ℕ)) (i j : Item) → SpellsItem size tokens i
    → SpellsItem size tokens j → i ≡ j
item_once size tokens i j h k = grind (arith, spelled_once, no_entry, head-eq_of_cons-eq, tail-eq_of_cons-eq, number_once)

pub line_once : (size : ℕ) (line : List ℕ) (i j : Item) → IsItemLine size line i
    → IsItemLine size line j → i ≡ j
line_once size line i j h k = item_once size _ i j h.spells k.spells

-- what a line is, whose tokens spell an item or none
pub item_line : (size : ℕ) (text line : List ℕ) (tokens : List (List ℕ)) (i : Item) → line ≡ text
    → length text ≤ 300 → tokens ≡ tokens_of line → SpellsItem size tokens i
    → IsItemLine size text i
item_line size text line tokens i same short are h = grind arith

-- an empty line is no item

pub item_not_blank : (size : ℕ) (line : List ℕ) (i : Item) → IsItemLine size line i
    → is_blank line ≡ false
item_not_blank size [] i h = grind (arith, h.spells)
item_not_blank size (b ∷ line) i h = ne_eqb (length (b ∷ line)) 0 (λ e. omega arith)
