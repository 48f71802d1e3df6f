-- A safe write that none has overlapped since is read back.
use Rattle.std.proofs.Common.{◌≡◌, ◌==◌, ◌<◌, ◌≤◌, ◌+◌, ◌-◌, ◌/◌, ℕ, max, true, false, cond, List, [], ◌∷◌, length, refl, ap, ◌∙◌, inr, arith}
use Rattle.uring_volume.proofs.Common.{History, IsIn, IsInOrder, SafeIsReadBack, UnitIsLeft, Write, and_from, byte_over, cond-false, end_of, false_from_ne_true, is_before, is_on, is_under, le-leb, length_over, lt-ltb, ne_eqb, slice_index}

-- a byte, with one write over it
abbrev pub over : ℕ → Write → ℕ → ℕ
over byte w k = cond (is_under w k) (slice_index w.bytes (k - w.off)) byte

pub none_over : (byte k : ℕ) (later : List Write)
    → ((m : Write) → IsIn m later → is_under m k ≡ false) → byte_over byte later k ≡ byte
none_over byte k [] none = refl
none_over byte k (m ∷ later) none = grind (arith, (none_over (over byte m k) k later (λ x among. none x (inr among))))

pub last_over : (h : History) (w : Write) (k byte : ℕ) (order : List Write) → IsIn w order
    → IsInOrder h order → is_under w k ≡ true
    → ((m : Write) → IsIn m order → (m ≡ w → ⊥) → is_under m k ≡ true → is_before h m.number w.number ≡ true)
    → byte_over byte order k ≡ slice_index w.bytes (k - w.off)
last_over h w k byte [] among o under last = absurd among
last_over h w k byte (x ∷ later) among o under last =
    grind (arith, none_over, false_from_ne_true, (last_over h w k (over byte x k) later))

-- A unit and the writes of its bytes.

pub on_from : (u : ℕ) (w : Write) (k : ℕ) → 0 < u → is_under w k ≡ true → is_on u (k / u) w ≡ true
on_from u w k positive under = grind arith

pub under_from : (w : Write) (k : ℕ) → k < length w.bytes → is_under w (w.off + k) ≡ true
under_from w k within = and_from _ _ (le-leb w.off (w.off + k) (omega arith)) (lt-ltb (w.off + k) (w.off + length w.bytes) (omega arith))

-- Lengths.

pub len_grows : (len : ℕ) (order : List Write) → len ≤ length_over len order
len_grows len [] = omega arith
len_grows len (w ∷ later) = omega (arith, len_grows (max len (end_of w)) later)

pub end_within : (len : ℕ) (w : Write) (order : List Write) → IsIn w order
    → end_of w ≤ length_over len order
end_within len w [] among = absurd among
end_within len w (x ∷ later) among = grind (arith, len_grows, (end_within (max len (end_of x)) w later))

end_at : (w : Write) (k : ℕ) → k < length w.bytes → end_of w ≡ w.off + length w.bytes
end_at w k within = cond-false (length w.bytes == 0) 0 (w.off + length w.bytes) (ne_eqb (length w.bytes) 0 (omega arith))

pub read_back : SafeIsReadBack
read_back u first h now w k positive kept image within =
    let i = (w.off + k) / u in
    let under = under_from w k within in
    let here : UnitIsLeft u first h now ((w.off + k) / u) = image.units ((w.off + k) / u) in
    let among : IsIn w here.order = here.left.safe w kept.issued (on_from u w (w.off + k) positive under) kept.safe in
    let whole : IsIn w image.len.order = image.len.left.safe w kept.issued refl kept.safe in
    let long : w.off + k < length now = omega (arith, image.len.len, end_at w k within, end_within (length first) w image.len.order whole) in
    let last : byte_over (slice_index first (w.off + k)) here.order (w.off + k) ≡ slice_index w.bytes (w.off + k - w.off) =
    grind (arith, last_over) in
    let place : w.off + k - w.off ≡ k = omega arith in
    record {
      within = long;
      byte = here.bytes (w.off + k) refl long ∙ last ∙ ap (λ j. slice_index w.bytes j) place;
    }
