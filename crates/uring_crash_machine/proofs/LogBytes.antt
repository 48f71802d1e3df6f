-- What one ended write more makes of what a volume shows.
use Rattle.std.proofs.Common.{◌≡◌, ◌≤◌, ◌+◌, ◌-◌, ◌==◌, ℕ, false, cond, max, List, [], ◌∷◌, ◌++◌, length, get_or, refl, arith}
use Rattle.uring_crash_machine.proofs.Common.{IsShown, Write, WritesOver, byte_over, end_of, ended, get_or-eq_default, is_under, length_over, overwritten}
use Rattle.uring_volume.specs.Events.{History}
use Rattle.uring_volume.proofs.Painting.{below_or_from}

over_last : (byte k : ℕ) (order : List Write) (w : Write)
    → byte_over byte (order ++ w ∷ []) k
    ≡ cond (is_under w k) (get_or w.bytes (k - w.off) 0) (byte_over byte order k)
over_last byte k [] w = refl
over_last byte k (m ∷ order) w =
    over_last (cond (is_under m k) (get_or m.bytes (k - m.off) 0) byte) k order w

longer_last : (len : ℕ) (order : List Write) (w : Write)
    → length_over len (order ++ w ∷ []) ≡ max (length_over len order) (end_of w)
longer_last len [] w = refl
longer_last len (m ∷ order) w = longer_last (max len (end_of m)) order w

grows : (len : ℕ) (order : List Write) → len ≤ length_over len order
grows len [] = omega arith
grows len (w ∷ later) = omega (arith, grows (max len (end_of w)) later)

not_under : (m : Write) (k : ℕ) → end_of m ≤ k → is_under m k ≡ false
not_under m k past = grind arith

-- past the end of some writes none changes a byte
beyond : (byte len k : ℕ) (order : List Write) → length_over len order ≤ k
    → byte_over byte order k ≡ byte
beyond byte len k [] past = refl
beyond byte len k (m ∷ order) past =
    grind (arith, max, grows, cond, get_or, not_under, (beyond byte (max len (end_of m)) k order past))

end_some : (len off : ℕ) → 1 ≤ len → cond (len == 0) 0 (off + len) ≡ off + len
end_some len off some = grind arith

max_zero : (n : ℕ) → n ≡ max n 0
max_zero n = omega arith

-- each byte that is shown, and zeros past the end
shown_at : (first : List ℕ) (h : History) (old : List ℕ) (k : ℕ) → IsShown first h old
    → get_or old k 0 ≡ byte_over (get_or first k 0) (ended h) k
shown_at first h old k s = grind (arith, below_or_from, grows, get_or, get_or-eq_default, beyond)

-- one ended write more, of some bytes
shown_some : WritesOver → (first : List ℕ) (h now : History) (old new : List ℕ) (number off : ℕ) → 1 ≤ length new
    → ended now ≡ ended h ++ record { number = number; off = off; bytes = new } ∷ []
    → IsShown first h old → IsShown first now (overwritten old off new)
shown_some writes_over first h now old new number off some last s =
    grind (arith, max, end_some, longer_last, cond, get_or, shown_at, over_last)

-- one ended write more
pub shown_more : WritesOver → (first : List ℕ) (h now : History) (old new : List ℕ) (number off : ℕ)
    → ended now ≡ ended h ++ record { number = number; off = off; bytes = new } ∷ []
    → IsShown first h old → IsShown first now (overwritten old off new)
shown_more writes_over first h now old [] number off last s =
    grind (arith, max_zero, longer_last, cond, get_or, not_under, over_last)
shown_more writes_over first h now old (b ∷ new) number off last s =
    shown_some writes_over first h now old (b ∷ new) number off (omega arith) last s

-- an event that ends no write
pub shown_same : (first : List ℕ) (h now : History) (file : List ℕ) → ended now ≡ ended h → IsShown first h file
    → IsShown first now file
shown_same first h now file same s = grind arith
