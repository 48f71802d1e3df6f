-- The form that is read of tokens is the one that they spell.
use Rattle.std.proofs.Common.{◌≡◌, ℕ, ◌^◌, List, [], ◌∷◌, Option, Some, refl, sym, ap, arith}
use Rattle.uring_text.proofs.Common.{Form, Name, Parts, SayParts, SaysPart, SpellsForm, bytes_eq-Decides, form_of, kinds_of, name_of, name_text, option_map, part_of, parts_of}
use Rattle.uring_text.specs.Reading.{form_named}
use Rattle.uring_text.specs.declared.place.TokenKind.{TokenKind}
use Rattle.uring_text.specs.declared.place.TokenKind.TheVariants as kind
use Rattle.uring_text.proofs.Options.{bind_some, mapped}
use Rattle.uring_text.proofs.NumberLaws.{number_found, number_again, file_found, file_again}
use Rattle.uring_text.proofs.FlagLaws.{flags_found, flags_again}
use Rattle.uring_text.proofs.HexLaws.{hex_found, hex_again, data_found, data_again}

-- One part: what is read is said, and the other way round.

pub part_found : (k : TokenKind) (token : List ℕ) (p q : Parts) → part_of k token p ≡ Some q
    → SaysPart k token p q
unfolding part_of
part_found kind.Code token p q e = mapped _ _ _ q (λ n. number_found 256 token n (omega arith)) e
part_found kind.UserData token p q e = mapped _ _ _ q (λ n. number_found (2 ^ 64) token n (omega arith)) e
part_found kind.Flags token p q e = mapped _ _ _ q (flags_found token) e
part_found kind.File token p q e = let m = mapped _ _ _ q (file_found token) e in (m.0, m.1.0, m.1.1, m.2)
part_found kind.Offset token p q e = mapped _ _ _ q (λ n. number_found (2 ^ 64) token n (omega arith)) e
part_found kind.Length token p q e = mapped _ _ _ q (λ n. number_found (2 ^ 32) token n (omega arith)) e
part_found kind.Target token p q e = mapped _ _ _ q (λ n. number_found (2 ^ 64) token n (omega arith)) e
part_found kind.Data token p q e = let m = mapped _ _ _ q (data_found token) e in (m.0, m.1.0, m.1.1, m.2)
part_found kind.Bytes token p q e = let m = mapped _ _ _ q (hex_found 128 token) e in (m.0, m.1.0, m.1.1, m.2)
part_found _ token p q e = absurd cc

pub part_again : (k : TokenKind) (token : List ℕ) (p q : Parts) → SaysPart k token p q
    → part_of k token p ≡ Some q
unfolding part_of
part_again kind.Flags token p q h = rw (flags_again token h.0 h.1, h.2) refl
part_again _ token p q h = grind (arith, number_again, file_again, data_again, hex_again)

-- All parts.

pub parts_found : (kinds : List TokenKind) (tokens : List (List ℕ)) (q : Parts)
    → parts_of kinds tokens ≡ Some q → SayParts kinds tokens q
parts_found [] tokens q e = grind arith
parts_found kinds [] q e = grind arith
parts_found (k ∷ kinds) (token ∷ tokens) q e =
    grind (arith, bind_some, (parts_found kinds tokens), part_found)

pub parts_again : (kinds : List TokenKind) (tokens : List (List ℕ)) (q : Parts)
    → SayParts kinds tokens q → parts_of kinds tokens ≡ Some q
parts_again [] [] q h = ap (λ (p : Parts). Some p) (sym h)
parts_again (k ∷ kinds) (token ∷ tokens) q h = grind (arith, (parts_again kinds tokens h.0 h.1), part_again)
parts_again _ _ q h = absurd h

-- The name.

name_found : (token : List ℕ) (n : Name) → name_of token ≡ Some n → token ≡ name_text n
unfolding name_of
name_found token n e = grind (arith, bytes_eq-Decides)

-- the name and the parts of the form that is made of them
named_parts : (name : Name) (parts : Option Parts) (f : Form)
    → option_map (λ (p : Parts). record { name = name; parts = p }) parts ≡ Some f
    → (name ≡ f.name) × (parts ≡ Some f.parts)
named_parts name parts f e = grind arith

-- what is read is spelled so
pub form_found : (tokens : List (List ℕ)) (f : Form) → form_of tokens ≡ Some f → SpellsForm tokens f
unfolding form_of
form_found [] f e = absurd cc
form_found (token ∷ tokens) f e =
    let read = bind_some (name_of token) (λ name. form_named name tokens) f e in
    let named = named_parts read.0 (parts_of (kinds_of read.0) tokens) f read.2 in
    (tokens, cc (name_found token read.0 read.1, named.0), parts_found (kinds_of f.name) tokens f.parts (cc (named.0, named.1)))

-- what is spelled so is read
pub form_again : (tokens : List (List ℕ)) (f : Form) → SpellsForm tokens f → form_of tokens ≡ Some f
unfolding form_of name_of
form_again tokens f h = grind (arith, parts_again)
