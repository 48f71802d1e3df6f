-- What a crash may leave of a file: an image of it. A unit is a number of bytes that begins at a multiple of its size; each unit of the file is left as some of the writes make it, whatever becomes of the other units. All of it is our own rule.
use Rattle.std.specs.Prelude.{◌≡◌, ℕ, ◌+◌, ◌-◌, ◌*◌, ◌/◌, ◌<◌, Bool, true, false, ◌&&◌, ◌==◌, nat_le, nat_lt, min, max, List, [], ◌∷◌, length, slice_index, if◌then◌else◌, ◌⊎◌}
use Rattle.uring_volume.specs.Writes.{Write}
use Rattle.uring_volume.specs.Events.{History, writes, is_before, goes_along, is_safe}

-- x is one of these
abbrev pub IsIn : {X : Type 0} → X → List X → Type 0
IsIn x [] = ⊥
IsIn x (y ∷ others) = (x ≡ y) ⊎ IsIn x others

-- whether a write writes the byte at offset k
abbrev pub is_under : Write → ℕ → Bool
is_under w k = nat_le w.off k && nat_lt k (w.off + length w.bytes)

-- whether a write writes a byte of unit i, if a unit has u bytes: the later of their beginnings lies before the earlier of their ends
abbrev pub is_on : ℕ → ℕ → Write → Bool
is_on u i w = nat_lt (max (u * i) w.off) (min (u * i + u) (w.off + length w.bytes))

-- where a write ends: at 0 if it has no bytes, since it makes no file longer. write(2)
abbrev pub end_of : Write → ℕ
end_of w = if length w.bytes == 0 then 0 else w.off + length w.bytes

-- a byte at offset k, with these writes over it, one after the other. write(2)
abbrev pub byte_over : ℕ → List Write → ℕ → ℕ
byte_over byte [] k = byte
byte_over byte (w ∷ later) k =
    byte_over (if is_under w k then slice_index w.bytes (k - w.off) else byte) later k

-- a length, with these writes after it: a write past the end makes the file longer. write(2)
abbrev pub length_over : ℕ → List Write → ℕ
length_over len [] = len
length_over len (w ∷ later) = length_over (max len (end_of w)) later

-- each of these writes comes once, and none comes after one that it is before
abbrev pub IsInOrder : History → List Write → Type 0
IsInOrder h [] = Unit {0}
IsInOrder h (w ∷ later) =
    ((m : Write) → IsIn m later → is_before h m.number w.number ≡ false) × (IsIn w later → ⊥)
    × IsInOrder h later

-- These writes, in this order, may be what is left of those that touch a place. Our own rule; that safe ones are left is of fsync(2)
pub record MayBeLeft (h : History) (touches : Write → Bool) (order : List Write) : Type 0 where
  -- each was issued and touches the place
  pub issued : (w : Write) → IsIn w order → IsIn w (writes h) × (touches w ≡ true)
  -- each safe one that touches it is left
  pub safe : (w : Write) → IsIn w (writes h) → touches w ≡ true → is_safe h w ≡ true
      → IsIn w order
  -- with a write, each is left that goes along with it and touches the place
  pub with_those_before : (m w : Write) → IsIn m (writes h) → touches m ≡ true → IsIn w order
      → goes_along h m.number w.number ≡ true → IsIn m order
  -- one that is before another comes before it
  pub in_order : IsInOrder h order

-- Unit i shows what some writes that may be left of those on it make of the first bytes. Past all that is written each byte counts as 0
pub record UnitIsLeft (u : ℕ) (first : List ℕ) (h : History) (now : List ℕ) (i : ℕ) : Type 0 where
  pub order : List Write
  pub left : MayBeLeft h (is_on u i) order
  pub bytes : (k : ℕ) → k / u ≡ i → k < length now
      → slice_index now k ≡ byte_over (slice_index first k) order k

-- A length that some writes make of the first one, if they may be left of all those of the file; so it isn't below the end of a safe write, and it is one for all units
pub record LengthIsLeft (first : List ℕ) (h : History) (found : ℕ) : Type 0 where
  pub order : List Write
  pub left : MayBeLeft h (λ w. true) order
  pub len : found ≡ length_over (length first) order

-- An image: bytes that a crash may leave of a file, if it had these first bytes and this has happened since. A unit has u bytes; no manual promises more than one.
pub record IsImage (u : ℕ) (first : List ℕ) (h : History) (now : List ℕ) : Type 0 where
  pub units : (i : ℕ) → UnitIsLeft u first h now i
  pub len : LengthIsLeft first h (length now)
