-- Lines as text in which no byte is invisible.
use Rattle.std.proofs.Common.{◌≡◌, ℕ, List, [], ◌∷◌, ◌++◌, refl, sym, ap, append_assoc, append-nil}
use Rattle.uring_text.specs.Visible.{visible, visible_byte, last_byte, visible_line}

-- a line by its last byte and those before it
pub visible_last : (before : List ℕ) (last : ℕ)
    → visible_line (before ++ last ∷ []) ≡ visible before ++ last_byte last
visible_last [] last = refl
visible_last (b ∷ []) last = ap (λ (t : List ℕ). t ++ last_byte last) (sym (append-nil (visible_byte b)))
visible_last (b ∷ c ∷ before) last = simp (visible_last (c ∷ before) last, append_assoc)
