-- What is read of tokens is the entry or the number that they spell.
use Rattle.std.proofs.Common.{◌≡◌, ℕ, ◌^◌, ◌≤◌, List, Option, Some, None, refl, sym, ap, ◌∙◌, arith}
use Rattle.uring_text.proofs.Common.{Form, IsNoEntry, IsNoNumber, MatchOption, ReadsEntry, SpellsEntry, SpellsNumber, Sqe, form_of, number_of, same_Some}
use Rattle.uring_text.proofs.NumberLaws.{number_found, number_again}
use Rattle.uring_text.proofs.FormLaws.{form_found, form_again}
use Rattle.uring_text.proofs.EntryLaws.{entry_once}

-- what a reader of an entry's tokens tells
entry_read : (tokens : List (List ℕ)) (f : Option Form) (read : Option Sqe) → form_of tokens ≡ f
    → ReadsEntry read f → MatchOption read (IsNoEntry tokens) (SpellsEntry tokens)
entry_read tokens None None e h = λ entry s. absurd (cc (e, form_again tokens s.form s.spells))
entry_read tokens (Some f) (Some entry) e h = grind (arith, (form_found tokens f e))
entry_read tokens None (Some entry) e h = absurd cc
entry_read tokens (Some f) None e h = absurd h

pub read_entry_tells : (tokens : List (List ℕ)) (read : Option Sqe)
    → ReadsEntry read (form_of tokens) → MatchOption read (IsNoEntry tokens) (SpellsEntry tokens)
read_entry_tells tokens read h = entry_read tokens (form_of tokens) read refl h

-- tokens spell one entry at most
pub spelled_once : (tokens : List (List ℕ)) (a b : Sqe) → SpellsEntry tokens a
    → SpellsEntry tokens b → a ≡ b
spelled_once tokens a b h k =
    grind (arith, (form_again tokens h.form h.spells), (form_again tokens k.form k.spells), (entry_once h.form a b))

pub read_number_tells : (limit : ℕ) (token : List ℕ) (read : Option ℕ) → limit ≤ 2 ^ 64
    → read ≡ number_of limit token
    → MatchOption read (IsNoNumber limit token) (SpellsNumber limit token)
read_number_tells limit token read le e = grind (arith, number_again, number_found)

-- a token is one number at most
pub number_once : (limit : ℕ) (token : List ℕ) (n m : ℕ) → limit ≤ 2 ^ 64
    → SpellsNumber limit token n → SpellsNumber limit token m → n ≡ m
number_once limit token n m le h k = same_Some n m (sym (number_again limit n le h.1) ∙ ap (number_of limit) (sym h.0 ∙ k.0) ∙ number_again limit m le k.1)
