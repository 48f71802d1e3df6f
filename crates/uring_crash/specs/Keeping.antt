-- Which bytes each image of a file has, and how that is decided. Our own rule.
use Rattle.std.specs.Prelude.{◌≡◌, ℕ, ◌+◌, ◌-◌, ◌<◌, Bool, true, not, ◌&&◌, ◌||◌, ◌==◌, nat_le, List, length, slice_index}
use Rattle.std.specs.List.{list_any}
use Rattle.uring_volume.specs.Writes.{Write}
use Rattle.uring_volume.specs.Events.{History, is_before, is_safe}
use Rattle.uring_volume.specs.Images.{is_under}
use Rattle.uring_volume.specs.Choices.{issued}
use Rattle.uring_volume.specs.Past.{was_done}
use Rattle.uring_volume.specs.declared.kept.Kept.{Kept}

-- an image has these bytes at an offset
abbrev pub Holds : (off : ℕ) (bytes now : List ℕ) → Type 0
Holds off bytes now = (j : ℕ) → j < length bytes
    → (off + j < length now) × (slice_index now (off + j) ≡ slice_index bytes j)

-- whether write m lies over write n at byte k, whatever is left: it is safe, and n was done when it was issued
abbrev pub lies_over : History → ℕ → ℕ → Write → Bool
lies_over h k n m = is_under m k && (not (m.number == n) && (is_before h n m.number && is_safe h m))

-- whether a write may show another byte at k than this one: it writes another there, and no write lies over it
abbrev pub may_show_other : History → ℕ → ℕ → Write → Bool
may_show_other h k byte w =
    is_under w k && (not (slice_index w.bytes (k - w.off) == byte) && not (list_any (lies_over h k w.number) (issued h)))

-- whether a write is safe and writes byte k
abbrev pub is_safe_over : History → ℕ → Write → Bool
is_safe_over h k m = is_under m k && is_safe h m

-- whether a write is safe and reaches up to an offset
abbrev pub is_safe_up_to : History → ℕ → Write → Bool
is_safe_up_to h end m = not (length m.bytes == 0) && (nat_le end (m.off + length m.bytes) && is_safe h m)

-- whether each image that has a byte at k has this one there
abbrev pub keeps_byte : History → ℕ → ℕ → Bool
keeps_byte h k byte = not (list_any (may_show_other h k byte) (issued h))
    && (byte == 0 || list_any (is_safe_over h k) (issued h))

-- The same of the writes that are kept, as they stand: whether one lies over another at byte k, whatever is left
abbrev pub stands_over : ℕ → Kept → Kept → Bool
stands_over k n m = is_under m.piece k && (not (m.piece.number == n.piece.number) && (was_done n m.piece.number && m.safe_yet))

-- whether one may show another byte
abbrev pub shows_other : List Kept → ℕ → ℕ → Kept → Bool
shows_other all k byte n =
    is_under n.piece k && (not (slice_index n.piece.bytes (k - n.piece.off) == byte) && not (list_any (stands_over k n) all))

-- whether one is safe and writes byte k, and whether it reaches up to an offset
abbrev pub is_safe_at : ℕ → Kept → Bool
is_safe_at k m = is_under m.piece k && m.safe_yet

abbrev pub is_safe_to : ℕ → Kept → Bool
is_safe_to end m = not (length m.piece.bytes == 0) && (nat_le end (m.piece.off + length m.piece.bytes) && m.safe_yet)

-- whether each image that has a byte at k has this one there
abbrev pub is_kept_byte : List Kept → ℕ → ℕ → Bool
is_kept_byte all k byte = not (list_any (shows_other all k byte) all) && (byte == 0 || list_any (is_safe_at k) all)

-- It is plain that each image has these bytes at an offset: a safe write reaches after them, and each of them is kept.
pub record IsPlain (h : History) (off : ℕ) (bytes : List ℕ) : Type 0 where
  pub reaches : list_any (is_safe_up_to h (off + length bytes)) (issued h) ≡ true
  pub kept : (j : ℕ) → j < length bytes → keeps_byte h (off + j) (slice_index bytes j) ≡ true
