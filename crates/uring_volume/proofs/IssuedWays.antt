-- The writes that may still come on a way were issued.
use Rattle.std.proofs.Common.{◌≡◌, ℕ, ◌<◌, Bool, List, [], length, map, get_or, subst, inl, inr}
use Rattle.uring_volume.proofs.Walking.{of_next}
use Rattle.uring_volume.proofs.Common.{Way, after, next_ways, History, IsIn, Write, filter, issued, may_follow}
use Rattle.uring_volume.specs.Past.{AreIssued, AreWaysIssued}
use Rattle.uring_volume.proofs.KeptLists.{in_at, in_map, of_filter}

pub ref_issued : {X : Type 0} (f : X → Write) (h : History) (xs : List X) (i : ℕ) (x : X) → AreIssued h (map f xs)
    → i < length xs → x ≡ get_or xs i x → IsIn (f x) (issued h)
ref_issued f h xs i x all within is = all.each (f x) (in_map f x xs (in_at xs i x within is))

pub filter_issued : (h : History) (p : Write → Bool) (ws : List Write) → ws ≡ filter p (issued h) → AreIssued h ws
filter_issued h p ws is = record { each = λ w among. of_filter p w (issued h) (subst (λ vs. IsIn w vs) is among) }

pub after_issued : (h : History) (n : ℕ) (ws vs : List Write) → vs ≡ after h n ws → AreIssued h ws → AreIssued h vs
after_issued h n ws vs is all = record { each = λ w among. all.each w (of_filter (may_follow h n) w ws (subst (λ us. IsIn w us) is among)) }

pub next_issued : (h : History) (k : ℕ) (ways : List Way) → AreWaysIssued h ways → AreWaysIssued h (next_ways h k ways [])
next_issued h k ways all = record {
  each = λ s among. elim (of_next h k ways [] s among) [
    | inl none ↦ absurd none
    | inr c ↦ record {
      each = λ w there. (all.each c.from c.among).each w (of_filter (may_follow h c.by.number) w c.from.rest (subst (λ t. IsIn w t.rest) c.is there));
    }
  ];
}

pub way_issued : {X : Type 0} (f : X → Way) (h : History) (xs : List X) (i : ℕ) (x : X) → AreWaysIssued h (map f xs)
    → i < length xs → x ≡ get_or xs i x → AreIssued h (f x).rest
way_issued f h xs i x all within is = all.each (f x) (in_map f x xs (in_at xs i x within is))
