-- How long the file is that a volume shows, as writes end.
use Rattle.std.proofs.Common.{◌≡◌, ◌≤◌, ℕ, max, List, [], ◌∷◌, ◌++◌, refl, arith}
use Rattle.uring_crash_machine.proofs.Common.{Volume, Write, WriteEnded, end_of, issued, length_over, named, shown_length, with_event}

-- some writes, and then others
over_both : (len : ℕ) (ws vs : List Write) → length_over len (ws ++ vs) ≡ length_over (length_over len ws) vs
over_both len [] vs = refl
over_both len (w ∷ ws) vs = over_both (max len (end_of w)) ws vs

-- where some writes end, whatever lies before
over_from : (len : ℕ) (ws : List Write) → length_over len ws ≡ max len (length_over 0 ws)
over_from len [] = omega arith
over_from len (w ∷ ws) =
    let e : ℕ = end_of w in
    let above = over_from (max len e) ws in
    let alone = over_from (max 0 e) ws in
    omega (arith, above, alone)

-- the write of a number ends
pub shown_longer : (k : ℕ) (v : Volume)
    → shown_length (with_event (WriteEnded k) v)
    ≡ max (shown_length v) (length_over 0 (named k (issued v.history)))
shown_longer k v = grind (arith, over_both, over_from)

pub shown_grows : (k : ℕ) (v : Volume) → shown_length v ≤ shown_length (with_event (WriteEnded k) v)
shown_grows k v = omega (arith, shown_longer k v)
