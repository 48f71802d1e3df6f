-- That no file of a volume gets longer than files may be, and so no image does.
use Rattle.std.proofs.Common.{◌≤◌, ℕ, max, List, [], ◌∷◌, length, refl, sym, subst, inl, inr, arith}
use Rattle.uring_crash_machine.proofs.Common.{IsImage, IsIn, IsShort, Volume, Write, end_of, length_over, max_len}

longest : (len : ℕ) (order : List Write) → len ≤ max_len → ((w : Write) → IsIn w order → end_of w ≤ max_len)
    → length_over len order ≤ max_len
longest len [] short ends = short
longest len (w ∷ later) short ends =
    longest (max len (end_of w)) later (let e = ends w (inl refl) in omega (arith, short, e)) (λ m is. ends m (inr is))

pub short_image : (v : Volume) (now : List ℕ) → IsShort v → IsImage v.unit v.first v.history now
    → length now ≤ max_len
short_image v now s image =
    subst (λ (n : ℕ). n ≤ max_len) (sym image.len.len)
    (longest (length v.first) image.len.order s.first (λ w is. s.writes w (image.len.left.issued w is).0))
