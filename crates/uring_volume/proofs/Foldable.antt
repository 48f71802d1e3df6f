-- The test tells which write can be folded.
use Rattle.std.specs.Prelude.{nat_le}
use Rattle.std.proofs.Common.{◌≡◌, ◌==◌, ◌+◌, ℕ, max, length, true, false, not, ◌&&◌, ap, inl, inr, arith}
use Rattle.uring_volume.proofs.Common.{History, IsFoldable, IsIn, IsLawful, Write, and_from, and_parts, both_ways, can_fold, eqb-false, false_from_ne_true, goes_along, is_before, is_in_way, is_safe, is_under, issued, le-leb, list_any, ne_eqb, not-true, not_from_false, or_cases, overlap, writes}
use Rattle.uring_volume.specs.Folds.{IsUnderSafe, can_let_go, lies_over}
use Rattle.uring_volume.proofs.Chosen.{in_issued, of_issued, one_number}
use Rattle.uring_volume.proofs.Puts.{any_is, is_any}

-- The test tells what can be folded.

both_under : (m w : Write) (k : ℕ) → is_under m k ≡ true → is_under w k ≡ true
    → overlap m w ≡ true
both_under m w k under_m under_w = grind arith

out_of_way : (h : History) (w m : Write) → not (list_any (λ x. is_in_way h w x) (issued h)) ≡ true
    → IsIn m (writes h) → is_in_way h w m ≡ false
out_of_way h w m none among = grind (arith, is_any, in_issued)

pub foldable_by : (h : History) (w : Write) → IsLawful h → IsIn w (issued h)
    → can_fold h w ≡ true → IsFoldable h w
foldable_by h w l among can =
    let parts = and_parts (is_safe h w) (not (list_any (λ m. is_in_way h w m) (issued h))) can in
    record {
      issued = of_issued h w among;
      safe = parts.0;
      oldest = λ m among along. grind (arith, along, (out_of_way h w m parts.1 among));
      lowest = grind (arith, of_issued, one_number, ne_eqb, both_under, (λ (m : Write). out_of_way h w m parts.1));
    }

-- a byte of both writes
common : (m w : Write) → overlap m w ≡ true
    → (is_under m (max m.off w.off) ≡ true) × (is_under w (max m.off w.off) ≡ true)
common m w is = grind arith

pub can_fold_it : (h : History) (w : Write) → IsFoldable h w → can_fold h w ≡ true
can_fold_it h w f =
    and_from _ _ f.safe (not_from_false (list_any (λ m. is_in_way h w m) (issued h)) (false_from_ne_true (list_any (λ m. is_in_way h w m) (issued h)) (λ is.
    let found = any_is (λ m. is_in_way h w m) (issued h) is in
    let among : IsIn found.0 (writes h) = of_issued h found.0 found.1 in
    elim (or_cases (goes_along h found.0.number w.number && not (is_safe h found.0)) (not (found.0.number == w.number) && (overlap found.0 w && not (is_before h w.number found.0.number))) found.2) [
      | inl along ↦
          let both = and_parts (goes_along h found.0.number w.number) (not (is_safe h found.0)) along in
          both_ways (is_safe h found.0) (not-true (is_safe h found.0) both.1) (f.oldest found.0 among both.0)
      | inr rest ↦
          let one = and_parts (not (found.0.number == w.number)) (overlap found.0 w && not (is_before h w.number found.0.number)) rest in
          let two = and_parts (overlap found.0 w) (not (is_before h w.number found.0.number)) one.1 in
          let k = common found.0 w two.0 in
          both_ways (is_before h w.number found.0.number) (not-true (is_before h w.number found.0.number) two.1)
          (f.lowest found.0 (max found.0.off w.off) among (λ same. eqb-false found.0.number w.number (not-true (found.0.number == w.number) one.0) (ap (λ x. x.number) same)) k.0 k.1)
    ])))

-- And which lies under a safe one.

pub under_by : (h : History) (w : Write) → IsIn w (issued h) → can_let_go h w ≡ true → IsUnderSafe h w
under_by h w among can =
    let both = and_parts (not (is_safe h w)) (list_any (λ m. lies_over h w m) (issued h)) can in
    let found = any_is (λ m. lies_over h w m) (issued h) both.1 in
    let x = found.0 in
    let one = and_parts (is_safe h x) (is_before h w.number x.number && (nat_le x.off w.off && nat_le (w.off + length w.bytes) (x.off + length x.bytes))) found.2 in
    let two = and_parts (is_before h w.number x.number) (nat_le x.off w.off && nat_le (w.off + length w.bytes) (x.off + length x.bytes)) one.1 in
    let three = and_parts (nat_le x.off w.off) (nat_le (w.off + length w.bytes) (x.off + length x.bytes)) two.1 in
    record {
      issued = of_issued h w among;
      over = x;
      over_issued = of_issued h x found.1;
      safe = one.0;
      before = two.0;
      from = grind (arith, three.0);
      to = grind (arith, three.1);
    }

can_let_go_it : (h : History) (w : Write) → is_safe h w ≡ false → IsUnderSafe h w → can_let_go h w ≡ true
can_let_go_it h w lost s =
    and_from _ _ (not_from_false (is_safe h w) lost)
    (is_any (λ m. lies_over h w m) s.over (issued h) (in_issued h s.over s.over_issued)
    (and_from _ _ s.safe (and_from _ _ s.before (and_from _ _ (le-leb s.over.off w.off s.from) (le-leb (w.off + length w.bytes) (s.over.off + length s.over.bytes) s.to)))))

pub none_under_by : (h : History) → list_any (λ w. can_let_go h w) (issued h) ≡ false
    → (w : Write) → is_safe h w ≡ false → IsUnderSafe h w → ⊥
none_under_by h none w lost s =
    both_ways (list_any (λ x. can_let_go h x) (issued h)) none (is_any (λ x. can_let_go h x) w (issued h) (in_issued h w s.issued) (can_let_go_it h w lost s))
