-- What each image has.
use Rattle.std.proofs.Common.{◌≡◌, ◌==◌, ◌&&◌, ◌||◌, ◌<◌, ◌≤◌, ◌+◌, ◌-◌, ◌/◌, ◌⊎◌, inl, inr, ℕ, Bool, true, false, not, cond, List, [], ◌∷◌, length, refl, sym, subst, ap, ◌∙◌, arith}
use Rattle.std.specs.Prelude.{nat_le}
use Rattle.uring_crash.proofs.Common.{Holds, IsImage, IsIn, IsInOrder, UnitIsLeft, byte_over, end_of, is_kept_byte, is_on, is_safe_at, is_safe_over, is_safe_to, is_safe_up_to, is_under, issued, keeps_byte, lies_over, list_any, may_show_other, shows_other, slice_index, stands_over}
use Rattle.std.proofs.lemmas.Bool.{cases_Bool, both_ways, cond-true, cond-false, and_parts, and_from, or_cases, not_from_false, not-true, eqb-true, leb-true}
use Rattle.uring_volume.specs.Writes.{Write}
use Rattle.uring_volume.specs.Events.{History, writes, is_before, is_safe}
use Rattle.uring_volume.specs.Past.{AreTheWrites}
use Rattle.uring_volume.specs.declared.kept.Kept.{Kept}
use Rattle.uring_volume.proofs.Chosen.{in_issued, of_issued}
use Rattle.uring_volume.proofs.Fitting.{not_in}
use Rattle.uring_volume.proofs.KeptLists.{any_map, any_same, in_map}
use Rattle.uring_volume.proofs.Puts.{any_is}
use Rattle.uring_volume.proofs.ReadBack.{on_from, end_within}

-- a write of these that writes byte k
pub record Over (k : ℕ) (among : List Write) : Type 0 where
  pub write : Write
  pub is_in : IsIn write among
  pub under : is_under write k ≡ true

-- a write of these that lies over write n at byte k
pub record Hides (h : History) (k : ℕ) (n : ℕ) (among : List Write) : Type 0 where
  pub write : Write
  pub is_in : IsIn write among
  pub under : is_under write k ≡ true
  pub differs : write.number ≡ n → ⊥
  pub before : is_before h n write.number ≡ true

-- the byte of a write at offset k
abbrev pub byte_of : Write → ℕ → ℕ
byte_of w k = slice_index w.bytes (k - w.off)

-- of those over a byte the head is the one, or it is a later one
later_over : (k : ℕ) (w : Write) (later : List Write) → is_under w k ≡ false → Over k (w ∷ later)
    → Over k later
later_over k w later none o = grind arith

hidden_later : (h : History) (k : ℕ) (w : Write) (later : List Write) → Hides h k w.number (w ∷ later)
    → Over k later
hidden_later h k w later o = grind arith

-- what hides a later write isn't the head, which none that comes later is before
still_hidden : (h : History) (k : ℕ) (w x : Write) (later : List Write)
    → ((m : Write) → IsIn m later → is_before h m.number w.number ≡ false)
    → IsIn x later → Hides h k x.number (w ∷ later) → Hides h k x.number later
still_hidden h k w x later order among o = grind arith

either_later : (h : History) (k v : ℕ) (w x : Write) (later : List Write)
    → ((m : Write) → IsIn m later → is_before h m.number w.number ≡ false)
    → IsIn x later → (byte_of x k ≡ v) ⊎ Hides h k x.number (w ∷ later)
    → (byte_of x k ≡ v) ⊎ Hides h k x.number later
either_later h k v w x later order among (inl is) = inl is
either_later h k v w x later order among (inr o) = inr (still_hidden h k w x later order among o)

over_now : (h : History) (k v byte : ℕ) (w : Write) (later : List Write) → is_under w k ≡ true
    → (byte_of w k ≡ v) ⊎ Hides h k w.number (w ∷ later)
    → (cond (is_under w k) (byte_of w k) byte ≡ v) ⊎ Over k later
over_now h k v byte w later under (inl is) = inl (cond-true (is_under w k) (byte_of w k) byte under ∙ is)
over_now h k v byte w later under (inr o) = inr (hidden_later h k w later o)

over_not : (h : History) (k v byte : ℕ) (w : Write) (later : List Write) → is_under w k ≡ false
    → (byte ≡ v) ⊎ Over k (w ∷ later)
    → (cond (is_under w k) (byte_of w k) byte ≡ v) ⊎ Over k later
over_not h k v byte w later none (inl is) = inl (cond-false (is_under w k) (byte_of w k) byte none ∙ is)
over_not h k v byte w later none (inr o) = inr (later_over k w later none o)

-- a byte with some writes over it, of which each that shows another is hidden
shows : (h : History) (k v byte : ℕ) (order : List Write) → IsInOrder h order
    → (byte ≡ v) ⊎ Over k order
    → ((w : Write) → IsIn w order → is_under w k ≡ true → (byte_of w k ≡ v) ⊎ Hides h k w.number order)
    → byte_over byte order k ≡ v
shows h k v byte [] o (inl is) each = is
shows h k v byte [] o (inr over) each = absurd over.is_in
shows h k v byte (w ∷ later) o first each =
    shows h k v (cond (is_under w k) (byte_of w k) byte) later o.2
    (elim (cases_Bool (is_under w k)) [
      | inl under ↦ over_now h k v byte w later under (each w (inl refl) under)
      | inr none ↦ over_not h k v byte w later none first
    ])
    (λ x among under. either_later h k v w x later o.0 among (each x (inr among) under))

-- The tests.

some_over : (h : History) (u k : ℕ) (order : List Write) → 0 < u
    → ((w : Write) → IsIn w (writes h) → is_on u (k / u) w ≡ true → is_safe h w ≡ true → IsIn w order)
    → list_any (is_safe_over h k) (issued h) ≡ true → Over k order
some_over h u k order positive safe is = grind (arith, any_is, of_issued)

some_hides : (h : History) (u k n : ℕ) (order : List Write) → 0 < u
    → ((w : Write) → IsIn w (writes h) → is_on u (k / u) w ≡ true → is_safe h w ≡ true → IsIn w order)
    → list_any (lies_over h k n) (issued h) ≡ true → Hides h k n order
some_hides h u k n order positive safe is = grind (arith, any_is, of_issued, on_from)

shown_or_hidden : (h : History) (u k v : ℕ) (order : List Write) (w : Write) → 0 < u
    → ((w : Write) → IsIn w (writes h) → is_on u (k / u) w ≡ true → is_safe h w ≡ true → IsIn w order)
    → is_under w k ≡ true → may_show_other h k v w ≡ false
    → (byte_of w k ≡ v) ⊎ Hides h k w.number order
shown_or_hidden h u k v order w positive safe under none =
    elim (cases_Bool (byte_of w k == v)) [
      | inl is ↦ inl (eqb-true (byte_of w k) v is)
      | inr other ↦ elim (cases_Bool (list_any (lies_over h k w.number) (issued h))) [
        | inl hides ↦ inr (some_hides h u k w.number order positive safe hides)
        | inr hides_not ↦ absurd (both_ways (may_show_other h k v w) none
            (and_from _ _ under (and_from _ _ (not_from_false (byte_of w k == v) other) (not_from_false (list_any (lies_over h k w.number) (issued h)) hides_not))))
      ]
    ]

first_or_over : (h : History) (u k v : ℕ) (order : List Write) → 0 < u
    → ((w : Write) → IsIn w (writes h) → is_on u (k / u) w ≡ true → is_safe h w ≡ true → IsIn w order)
    → (v ≡ 0) ⊎ (list_any (is_safe_over h k) (issued h) ≡ true)
    → (slice_index [] k ≡ v) ⊎ Over k order
first_or_over h u k v order positive safe (inl none) = inl (sym none)
first_or_over h u k v order positive safe (inr over) = inr (some_over h u k order positive safe over)

pub kept_byte : (h : History) (u k v : ℕ) (now : List ℕ) → 0 < u → IsImage u [] h now
    → k < length now → keeps_byte h k v ≡ true → slice_index now k ≡ v
kept_byte h u k v now positive image within keeps =
    let here : UnitIsLeft u [] h now (k / u) = image.units (k / u) in
    let parts = and_parts _ _ keeps in
    here.bytes k refl within
    ∙ shows h k v (slice_index [] k) here.order here.left.in_order
    (first_or_over h u k v here.order positive here.left.safe (elim (or_cases (v == 0) (list_any (is_safe_over h k) (issued h)) parts.1) [
      | inl none ↦ inl (eqb-true v 0 none)
      | inr over ↦ inr over
    ]))
    (λ w among under. shown_or_hidden h u k v here.order w positive here.left.safe under
    (not_in (may_show_other h k v) w (issued h) (not-true (list_any (may_show_other h k v) (issued h)) parts.0) (in_issued h w (here.left.issued w among).0)))

long_enough : (h : History) (u end : ℕ) (now : List ℕ) → IsImage u [] h now
    → list_any (is_safe_up_to h end) (issued h) ≡ true → end ≤ length now
long_enough h u end now image is =
    let found = any_is (is_safe_up_to h end) (issued h) is in
    let parts = and_parts _ _ found.2 in
    let more = and_parts _ _ parts.1 in
    let reach : end ≤ found.0.off + length found.0.bytes = leb-true end (found.0.off + length found.0.bytes) more.0 in
    let is_end : end_of found.0 ≡ found.0.off + length found.0.bytes = cond-false (length found.0.bytes == 0) 0 (found.0.off + length found.0.bytes) (not-true (length found.0.bytes == 0) parts.0) in
    let among : IsIn found.0 image.len.order = image.len.left.safe found.0 (of_issued h found.0 found.1) refl more.1 in
    omega (arith, reach, is_end, image.len.len, end_within 0 found.0 image.len.order among)

pub kept_bytes : (h : History) (u off : ℕ) (bytes now : List ℕ) → 0 < u → IsImage u [] h now
    → list_any (is_safe_up_to h (off + length bytes)) (issued h) ≡ true
    → ((j : ℕ) → j < length bytes → keeps_byte h (off + j) (slice_index bytes j) ≡ true)
    → Holds off bytes now
kept_bytes h u off bytes now positive image reaches keeps j within =
    let long : off + length bytes ≤ length now = long_enough h u (off + length bytes) now image reaches in
    let inside : off + j < length now = omega (arith, long, within) in
    (inside, kept_byte h u (off + j) (slice_index bytes j) now positive image inside (keeps j within))

-- The same of the writes that are kept, as they stand.

in_history : (h : History) (next : ℕ) (all : List Kept) (k : Kept) → AreTheWrites h next all → IsIn k all → IsIn k.piece (writes h)
in_history h next all k are among =
    of_issued h k.piece (subst (λ (ws : List Write). IsIn k.piece ws) are.pieces (in_map (λ (x : Kept). x.piece) k all among))

any_kept : (h : History) (next : ℕ) (all : List Kept) (p : Write → Bool) (q : Kept → Bool) → AreTheWrites h next all
    → ((k : Kept) → IsIn k all → p k.piece ≡ q k) → list_any p (issued h) ≡ list_any q all
any_kept h next all p q are same =
    ap (λ (ws : List Write). list_any p ws) (sym are.pieces) ∙ any_map (λ (k : Kept). k.piece) p all ∙ any_same (λ (k : Kept). p k.piece) q all same

over_as_kept : (h : History) (next : ℕ) (all : List Kept) (k : ℕ) (n m : Kept) → AreTheWrites h next all → IsIn n all → IsIn m all
    → lies_over h k n.piece.number m.piece ≡ stands_over k n m
over_as_kept h next all k n m are an am =
    let before = (are.stand n an).before m.piece (in_history h next all m are am) in
    let safe = (are.stand m am).safe in
    grind (arith, before, safe)

other_as_kept : (h : History) (next : ℕ) (all : List Kept) (k byte : ℕ) (n : Kept) → AreTheWrites h next all → IsIn n all
    → may_show_other h k byte n.piece ≡ shows_other all k byte n
other_as_kept h next all k byte n are an =
    let hidden = any_kept h next all (lies_over h k n.piece.number) (stands_over k n) are (λ m am. over_as_kept h next all k n m are an am) in
    ap (λ b. is_under n.piece k && (not (slice_index n.piece.bytes (k - n.piece.off) == byte) && not b)) hidden

safe_as_kept : (h : History) (next : ℕ) (all : List Kept) (k : ℕ) (m : Kept) → AreTheWrites h next all → IsIn m all
    → is_safe_over h k m.piece ≡ is_safe_at k m
safe_as_kept h next all k m are am = ap (λ b. is_under m.piece k && b) (are.stand m am).safe

pub as_kept : (h : History) (next : ℕ) (all : List Kept) (k byte : ℕ) → AreTheWrites h next all
    → keeps_byte h k byte ≡ is_kept_byte all k byte
as_kept h next all k byte are =
    let other = any_kept h next all (may_show_other h k byte) (shows_other all k byte) are (λ n an. other_as_kept h next all k byte n are an) in
    let safe = any_kept h next all (is_safe_over h k) (is_safe_at k) are (λ m am. safe_as_kept h next all k m are am) in
    ap (λ b. not b && (byte == 0 || list_any (is_safe_over h k) (issued h))) other
    ∙ ap (λ b. not (list_any (shows_other all k byte) all) && (byte == 0 || b)) safe

pub up_to_as_kept : (h : History) (next : ℕ) (all : List Kept) (end : ℕ) → AreTheWrites h next all
    → list_any (is_safe_up_to h end) (issued h) ≡ list_any (is_safe_to end) all
up_to_as_kept h next all end are =
    any_kept h next all (is_safe_up_to h end) (is_safe_to end) are (λ m am. ap (λ b. not (length m.piece.bytes == 0) && (nat_le end (m.piece.off + length m.piece.bytes) && b)) (are.stand m am).safe)
