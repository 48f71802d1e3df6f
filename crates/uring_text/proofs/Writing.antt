-- A text that is written in pieces.
use Rattle.std.proofs.Common.{◌≡◌, ℕ, List, ◌++◌, take, drop, Option, sym, ap, ◌∙◌, append_assoc}
use Rattle.std.specs.Io.KnownBytes.{Appends}
use Rattle.std.proofs.KnownBytes.{Appends-trans}
use Rattle.std.proofs.lemmas.List.{take-append-drop}

abbrev Known : Type 0
Known = Option (List ℕ)

-- some bytes more of a text
pub wrote_more : (a b d : Known) (text rest : List ℕ) (n : ℕ) → (written : List ℕ)
    → Appends a b written → text ≡ written ++ rest → Appends b d (take n rest)
    → (x : List ℕ) × Appends a d x × (text ≡ x ++ drop n rest)
wrote_more a b d text rest n written before same now =
    (written ++ take n rest, Appends-trans a b d written (take n rest) before now, same ∙ ap (λ (l : List ℕ). written ++ l) (sym (take-append-drop n rest)) ∙ sym (append_assoc written (take n rest) (drop n rest)))
