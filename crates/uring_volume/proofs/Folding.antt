-- A write that is folded into the first bytes changes no image: in each list that may be left it lies under all others of its bytes. Nor does one that lies under a safe one, if it is let go.
use Rattle.std.proofs.Common.{◌≡◌, ◌==◌, ◌-◌, ◌+◌, ◌*◌, ◌<◌, ◌≤◌, ℕ, max, min, Bool, true, false, List, [], ◌∷◌, ◌++◌, ◌⊎◌, cond, length, refl, sym, subst, ap, ◌∙◌, inl, inr, arith}
use Rattle.uring_volume.proofs.Common.{Event, FoldChangesNone, History, IsFoldable, IsImage, IsIn, IsInOrder, IsLawful, IsOver, MayBeLeft, SyncEnded, SyncIssued, SyncFailed, UnitIsLeft, Write, WriteEnded, WriteFailed, WriteIssued, both_ways, byte_over, cases_Bool, cond-false, cond_both, false_from_ne_true, list_any, end_of, eq-eqb, eqb-false, eqb-true, filter, goes_along, is_before, is_on, is_safe, is_under, length_over, lt-ltb, ltb-true, ne_eqb, not_from_false, slice_index, without_write, writes}
use Rattle.uring_volume.specs.Folds.{IsUnderSafe, LettingGoChangesNone}
use Rattle.uring_volume.proofs.Units.{in_filter, of_filter, filter_in_order}
use Rattle.uring_volume.proofs.ReadBack.{over, on_from, len_grows, end_within}
use Rattle.uring_volume.proofs.Rest.{length_below}
use Rattle.uring_volume.proofs.Fitting.{along_before, along_ended, ended_done, lacks, not_before, not_in, safe_ended}
use Rattle.uring_volume.proofs.Lengths.{along_through, before_before, before_done}
use Rattle.uring_volume.proofs.Puts.{any_is}
use Rattle.uring_volume.proofs.Chosen.{one_number}
use Rattle.uring_volume.proofs.Without.{SameBut, same_later, WritesBut, but_later, in_later}

-- It can still be folded later.

pub still_foldable : (later h : History) (w : Write) → IsLawful (later ++ h) → IsFoldable h w
    → IsFoldable (later ++ h) w
still_foldable [] h w l f = f
still_foldable (WriteIssued v ∷ later) h w l f = grind (arith, not_before, before_done, along_before, along_ended, ended_done, both_ways, eq-eqb, safe_ended, (still_foldable later h w l.2 f))
still_foldable (WriteEnded k ∷ later) h w l f = grind (arith, (still_foldable later h w l.1 f))
still_foldable (WriteFailed k ∷ later) h w l f = grind (arith, (still_foldable later h w l.1 f))
still_foldable (e ∷ later) h w l f = grind (arith, (still_foldable later h w l f))

-- A history without a write that was issued.
record IsWithout (g h : History) (w : Write) : Type 0 where
  lawful : IsLawful g
  issued : IsIn w (writes g)
  same : SameBut w.number g h
  but_it : WritesBut w.number g h

-- a write of the number is the write
it_is : (g h : History) (w x : Write) → IsWithout g h w → IsIn x (writes g) → x.number ≡ w.number
    → x ≡ w
it_is g h w x f among named = one_number g x w f.lawful among f.issued named

-- Lists that may be left.

order_to : (g h : History) (w : Write) (order : List Write) → IsWithout g h w
    → ((x : Write) → IsIn x order → x.number ≡ w.number → ⊥) → IsInOrder g order
    → IsInOrder h order
order_to g h w [] f others o = tt
order_to g h w (x ∷ more) f others o = grind (arith, (order_to g h w more f (λ y among. others y (inr among)) o.2))

order_of : (g h : History) (w : Write) (order : List Write) → IsWithout g h w
    → ((x : Write) → IsIn x order → x.number ≡ w.number → ⊥) → IsInOrder h order
    → IsInOrder g order
order_of g h w [] f others o = tt
order_of g h w (x ∷ more) f others o = grind (arith, (order_of g h w more f (λ y among. others y (inr among)) o.2))

-- a write that is left of the others
other_of : (w x : Write) (order : List Write) → IsIn x (filter (lacks w.number) order)
    → IsIn x order × (x.number ≡ w.number → ⊥)
other_of w x order among = grind (arith, of_filter, eqb-false)

other_in : (w x : Write) (order : List Write) → IsIn x order → (x.number ≡ w.number → ⊥)
    → IsIn x (filter (lacks w.number) order)
other_in w x order among other = grind (arith, in_filter, not_from_false)

left_to : (g h : History) (w : Write) (touches : Write → Bool) (order : List Write)
    → IsWithout g h w → MayBeLeft g touches order
    → MayBeLeft h touches (filter (lacks w.number) order)
left_to g h w touches order f left = record {
  issued = λ x among. let parts = other_of w x order among in (f.but_it.into x (left.issued x parts.0).0 parts.1, (left.issued x parts.0).1);
  safe = λ x among on safe. let was = f.but_it.of x among in other_in w x order (left.safe x was.0 on (sym (f.same.safe x was.1) ∙ safe)) was.1;
  with_those_before = λ m x among on kept along.
      let was = f.but_it.of m among in
      let parts = other_of w x order kept in
      other_in w m order (left.with_those_before m x was.0 on parts.0 (sym (f.same.along m.number x.number was.1 parts.1) ∙ along)) was.1;
  in_order = order_to g h w (filter (lacks w.number) order) f (λ x among. (other_of w x order among).1) (filter_in_order g (lacks w.number) order left.in_order);
}

-- The write put among the others: after the last of those that are before it.

before_itself : (h : History) (n : ℕ) → IsLawful h → is_before h n n ≡ false
before_itself [] n l = refl
before_itself (WriteIssued v ∷ earlier) n l = grind (arith, eqb-true, (before_itself earlier n l.2))
before_itself (WriteEnded k ∷ earlier) n l = before_itself earlier n l.1
before_itself (WriteFailed k ∷ earlier) n l = before_itself earlier n l.1
before_itself (e ∷ earlier) n l = before_itself earlier n l

abbrev put_in : History → Write → List Write → List Write
put_in h w [] = w ∷ []
put_in h w (x ∷ more) =
    cond (list_any (λ y. is_before h y.number w.number) (x ∷ more)) (x ∷ put_in h w more) (w ∷ x ∷ more)

of_put_in : (h : History) (w y : Write) (order : List Write) → IsIn y (put_in h w order)
    → (y ≡ w) ⊎ IsIn y order
of_put_in h w y [] among = among
of_put_in h w y (x ∷ more) among = grind (arith, (of_put_in h w y more))

put_in_itself : (h : History) (w : Write) (order : List Write) → IsIn w (put_in h w order)
put_in_itself h w [] = inl refl
put_in_itself h w (x ∷ more) = grind (arith, (put_in_itself h w more))

put_in_old : (h : History) (w y : Write) (order : List Write) → IsIn y order → IsIn y (put_in h w order)
put_in_old h w y [] among = absurd among
put_in_old h w y (x ∷ more) among = grind (arith, (put_in_old h w y more))

-- a write that isn't past the last of those before w isn't after w
not_past : (h : History) (w x : Write) (more : List Write) → IsLawful h
    → ((m : Write) → IsIn m more → is_before h m.number x.number ≡ false)
    → list_any (λ y. is_before h y.number w.number) (x ∷ more) ≡ true
    → is_before h w.number x.number ≡ false
not_past h w x more l after some = false_from_ne_true (is_before h w.number x.number) (λ is.
    let found = any_is (λ (y : Write). is_before h y.number w.number) (x ∷ more) some in
    let through : is_before h found.0.number x.number ≡ true = before_before h found.0.number w.number x.number l found.2 is in
    elim found.1 [
      | inl same ↦ both_ways (is_before h x.number x.number) (before_itself h x.number l) (subst (λ (y : Write). is_before h y.number x.number ≡ true) same through)
      | inr later ↦ both_ways (is_before h found.0.number x.number) (after found.0 later) through
    ])

put_in_order : (h : History) (w : Write) (order : List Write) → IsLawful h → (IsIn w order → ⊥)
    → IsInOrder h order → IsInOrder h (put_in h w order)
put_in_order h w [] l out o = (λ m among. absurd among, λ among. among, tt)
put_in_order h w (x ∷ more) l out o =
    cond_both (list_any (λ y. is_before h y.number w.number) (x ∷ more)) (x ∷ put_in h w more) (w ∷ x ∷ more) (λ ws. IsInOrder h ws)
    (λ some. (
      λ m among. elim (of_put_in h w m more among) [
        | inl same ↦ subst (λ (y : Write). is_before h y.number x.number ≡ false) (sym same) (not_past h w x more l o.0 some)
        | inr old ↦ o.0 m old
      ],
      λ among. elim (of_put_in h w x more among) [
        | inl same ↦ out (inl (sym same))
        | inr old ↦ o.1 old
      ],
      put_in_order h w more l (λ among. out (inr among)) o.2,
    ))
    (λ none. (λ m among. not_in (λ y. is_before h y.number w.number) m (x ∷ more) none among, out, o))

-- two writes of which one has the byte may be swapped
swapped : (x w : Write) (k byte : ℕ) → (is_under x k ≡ true → is_under w k ≡ true → ⊥)
    → over (over byte x k) w k ≡ over (over byte w k) x k
swapped x w k byte apart = elim (cases_Bool (is_under x k)) [
  | inl under ↦ let out : is_under w k ≡ false = false_from_ne_true (is_under w k) (apart under) in grind (arith, under, out)
  | inr out ↦ grind (arith, out)
]

put_in_byte : (h : History) (w : Write) (k byte : ℕ) (order : List Write) → IsLawful h → IsInOrder h order
    → ((x : Write) → IsIn x order → is_under x k ≡ true → is_under w k ≡ true → is_before h w.number x.number ≡ true)
    → byte_over byte (put_in h w order) k ≡ byte_over (over byte w k) order k
put_in_byte h w k byte [] l o lowest = refl
put_in_byte h w k byte (x ∷ more) l o lowest =
    cond_both (list_any (λ y. is_before h y.number w.number) (x ∷ more)) (x ∷ put_in h w more) (w ∷ x ∷ more) (λ ws. byte_over byte ws k ≡ byte_over (over byte w k) (x ∷ more) k)
    (λ some.
    put_in_byte h w k (over byte x k) more l o.2 (λ y among. lowest y (inr among))
    ∙ ap (λ b. byte_over b more k) (swapped x w k byte (λ under_x under_w. both_ways (is_before h w.number x.number) (not_past h w x more l o.0 some) (lowest x (inl refl) under_x under_w))))
    (λ none. refl)

put_in_length : (h : History) (w : Write) (len : ℕ) (order : List Write)
    → length_over len (put_in h w order) ≡ length_over (max len (end_of w)) order
put_in_length h w len [] = refl
put_in_length h w len (x ∷ more) =
    cond_both (list_any (λ y. is_before h y.number w.number) (x ∷ more)) (x ∷ put_in h w more) (w ∷ x ∷ more) (λ ws. length_over len ws ≡ length_over (max len (end_of w)) (x ∷ more))
    (λ some.
    let turned : max (max len (end_of x)) (end_of w) ≡ max (max len (end_of w)) (end_of x) = omega arith in
    put_in_length h w (max len (end_of x)) more ∙ ap (λ n. length_over n more) turned)
    (λ none. refl)

-- with the write among them
left_under : (g h : History) (w : Write) (touches : Write → Bool) (order : List Write)
    → IsWithout g h w → touches w ≡ true
    → ((m : Write) → IsIn m (writes h) → touches m ≡ true → goes_along g m.number w.number ≡ true → IsIn m order)
    → MayBeLeft h touches order → MayBeLeft g touches (put_in g w order)
left_under g h w touches order f on_w those left =
    let others = λ (x : Write) (among : IsIn x order). (f.but_it.of x (left.issued x among).0).1 in
    let it = λ (x : Write) (is : x ≡ w). subst (λ y. IsIn y (put_in g w order)) (sym is) (put_in_itself g w order) in
    record {
      issued = λ x among. elim (of_put_in g w x order among) [
        | inl same ↦ (subst (λ y. IsIn y (writes g)) (sym same) f.issued, subst (λ y. touches y ≡ true) (sym same) on_w)
        | inr rest ↦ ((f.but_it.of x (left.issued x rest).0).0, (left.issued x rest).1)
      ];
      safe = λ x among on safe. elim (cases_Bool (x.number == w.number)) [
        | inl is ↦ it x (it_is g h w x f among (eqb-true x.number w.number is))
        | inr out ↦ let other = eqb-false x.number w.number out in put_in_old g w x order (left.safe x (f.but_it.into x among other) on (f.same.safe x other ∙ safe))
      ];
      with_those_before = λ m x among on kept along. elim (cases_Bool (m.number == w.number)) [
        | inl is ↦ it m (it_is g h w m f among (eqb-true m.number w.number is))
        | inr out ↦
            let other = eqb-false m.number w.number out in
            let there = f.but_it.into m among other in
            put_in_old g w m order (elim (of_put_in g w x order kept) [
              | inl same ↦ those m there on (subst (λ y. goes_along g m.number y.number ≡ true) same along)
              | inr rest ↦ left.with_those_before m x there on rest (f.same.along m.number x.number other (others x rest) ∙ along)
            ])
      ];
      in_order = put_in_order g w order f.lawful (λ among. others w among refl) (order_of g h w order f others left.in_order);
    }

-- where the write doesn't touch
left_apart : (g h : History) (w : Write) (touches : Write → Bool) (order : List Write)
    → IsWithout g h w → touches w ≡ false → MayBeLeft h touches order
    → MayBeLeft g touches order
left_apart g h w touches order f off_w left =
    let others = λ (x : Write) (among : IsIn x order). (f.but_it.of x (left.issued x among).0).1 in
    let apart = λ (x : Write) (among : IsIn x (writes g)) (on : touches x ≡ true) (named : x.number ≡ w.number).
    both_ways (touches w) off_w (subst (λ y. touches y ≡ true) (it_is g h w x f among named) on) in
    record {
      issued = λ x among. ((f.but_it.of x (left.issued x among).0).0, (left.issued x among).1);
      safe = λ x among on safe. left.safe x (f.but_it.into x among (apart x among on)) on (f.same.safe x (apart x among on) ∙ safe);
      with_those_before = λ m x among on kept along. left.with_those_before m x (f.but_it.into m among (apart m among on)) on kept (f.same.along m.number x.number (apart m among on) (others x kept) ∙ along);
      in_order = order_of g h w order f others left.in_order;
    }

-- Bytes.

-- of these writes none with the number writes the byte
over_others : (n k byte : ℕ) (order : List Write)
    → ((x : Write) → IsIn x order → x.number ≡ n → is_under x k ≡ false)
    → byte_over byte order k ≡ byte_over byte (filter (lacks n) order) k
over_others n k byte [] off = refl
over_others n k byte (x ∷ more) off = grind (arith, (over_others n k byte more), (over_others n k (over byte x k) more), eqb-true)

-- the write lies under the others
lies_under : (g h : History) (w : Write) (k byte : ℕ) (order : List Write) → IsWithout g h w → IsFoldable g w
    → ((x : Write) → IsIn x order → IsIn x (writes g)) → IsInOrder g order → IsIn w order
    → is_under w k ≡ true
    → byte_over byte order k ≡ byte_over (over byte w k) (filter (lacks w.number) order) k
lies_under g h w k byte [] f fold known o among under = absurd among
lies_under g h w k byte (x ∷ more) f fold known o among under =
    grind (arith, over_others, it_is, (lies_under g h w k byte more f fold), (fold.lowest x k), ne_eqb)

folded_byte : (g h : History) (w : Write) (k byte : ℕ) (order : List Write) → IsWithout g h w → IsFoldable g w
    → ((x : Write) → IsIn x order → IsIn x (writes g)) → IsInOrder g order
    → (is_under w k ≡ true → IsIn w order)
    → byte_over byte order k ≡ byte_over (over byte w k) (filter (lacks w.number) order) k
folded_byte g h w k byte order f fold known o there = elim (cases_Bool (is_under w k)) [
  | inl under ↦ lies_under g h w k byte order f fold known o (there under) under
  | inr out ↦
      over_others w.number k byte order (λ x among named. subst (λ y. is_under y k ≡ false) (sym (it_is g h w x f (known x among) named)) out)
      ∙ ap (λ b. byte_over b (filter (lacks w.number) order) k) (sym (cond-false (is_under w k) (slice_index w.bytes (k - w.off)) byte out))
]

-- Lengths.

folded_length : (w : Write) (len : ℕ) (order : List Write) → IsIn w order
    → ((x : Write) → IsIn x order → x.number ≡ w.number → x ≡ w)
    → length_over len order ≡ length_over (max len (end_of w)) (filter (lacks w.number) order)
folded_length w len order there one = grind (arith, len_grows, length_below, end_within, other_in, other_of)

-- Images.

unit_to : (u : ℕ) (first under : List ℕ) (g h : History) (w : Write) (now : List ℕ) (i : ℕ) → 0 < u
    → IsWithout g h w → IsFoldable g w → IsOver first w under → UnitIsLeft u first g now i
    → UnitIsLeft u under h now i
unit_to u first under g h w now i positive f fold is unit = record {
  order = filter (lacks w.number) unit.order;
  left = left_to g h w (is_on u i) unit.order f unit.left;
  bytes = λ k at within.
      unit.bytes k at within
      ∙ folded_byte g h w k (slice_index first k) unit.order f fold (λ x among. (unit.left.issued x among).0) unit.left.in_order
      (λ under_w. unit.left.safe w fold.issued (subst (λ j. is_on u j w ≡ true) at (on_from u w k positive under_w)) fold.safe)
      ∙ ap (λ b. byte_over b (filter (lacks w.number) unit.order) k) (sym (is.bytes k));
}

unit_of : (u : ℕ) (first under : List ℕ) (g h : History) (w : Write) (now : List ℕ) (i : ℕ) → 0 < u
    → IsWithout g h w → IsFoldable g w → IsOver first w under → UnitIsLeft u under h now i
    → UnitIsLeft u first g now i
unit_of u first under g h w now i positive f fold is unit = elim (cases_Bool (is_on u i w)) [
  | inl on ↦
      let others = λ (x : Write) (among : IsIn x unit.order). (f.but_it.of x (unit.left.issued x among).0) in
      record {
        order = put_in g w unit.order;
        left = left_under g h w (is_on u i) unit.order f on (λ m among on_m before. unit.left.safe m among on_m (f.same.safe m (f.but_it.of m among).1 ∙ fold.oldest m (f.but_it.of m among).0 before)) unit.left;
        bytes = λ k at within.
            unit.bytes k at within
            ∙ ap (λ b. byte_over b unit.order k) (is.bytes k)
            ∙ sym (put_in_byte g w k (slice_index first k) unit.order f.lawful (order_of g h w unit.order f (λ x among. (others x among).1) unit.left.in_order)
            (λ x among under_x under_w. fold.lowest x k (others x among).0 (λ same. (others x among).1 (ap (λ y. y.number) same)) under_x under_w));
      }
  | inr off ↦ record { order = unit.order; left = left_apart g h w (is_on u i) unit.order f off unit.left; bytes = grind (arith, on_from) }
]

image_to : (u : ℕ) (first under : List ℕ) (g h : History) (w : Write) (now : List ℕ) → 0 < u
    → IsWithout g h w → IsFoldable g w → IsOver first w under → IsImage u first g now → IsImage u under h now
image_to u first under g h w now positive f fold is image = record {
  units = λ i. unit_to u first under g h w now i positive f fold is (image.units i);
  len = record {
    order = filter (lacks w.number) image.len.order;
    left = left_to g h w (λ x. true) image.len.order f image.len.left;
    len =
        image.len.len
        ∙ folded_length w (length first) image.len.order (image.len.left.safe w fold.issued refl fold.safe) (λ x among named. it_is g h w x f (image.len.left.issued x among).0 named)
        ∙ ap (λ n. length_over n (filter (lacks w.number) image.len.order)) (sym is.len);
  };
}

image_of : (u : ℕ) (first under : List ℕ) (g h : History) (w : Write) (now : List ℕ) → 0 < u
    → IsWithout g h w → IsFoldable g w → IsOver first w under → IsImage u under h now → IsImage u first g now
image_of u first under g h w now positive f fold is image = record {
  units = λ i. unit_of u first under g h w now i positive f fold is (image.units i);
  len = record {
    order = put_in g w image.len.order;
    left = left_under g h w (λ x. true) image.len.order f refl (λ m among on_m before. image.len.left.safe m among on_m (f.same.safe m (f.but_it.of m among).1 ∙ fold.oldest m (f.but_it.of m among).0 before)) image.len.left;
    len = image.len.len ∙ ap (λ n. length_over n image.len.order) is.len ∙ sym (put_in_length g w (length first) image.len.order);
  };
}

without_it : (later h : History) (w : Write) → IsLawful (later ++ h) → IsIn w (writes h)
    → IsWithout (later ++ h) (later ++ without_write w.number h) w
without_it later h w l issued = record {
  lawful = l;
  issued = in_later later h w issued;
  same = same_later w.number later h;
  but_it = but_later later h w l issued;
}

pub fold_changes_none : FoldChangesNone
fold_changes_none u first under later h w now positive l f is =
    let without = without_it later h w l f.issued in
    let fold = still_foldable later h w l f in (
      λ image. image_to u first under (later ++ h) (later ++ without_write w.number h) w now positive without fold is image,
      λ image. image_of u first under (later ++ h) (later ++ without_write w.number h) w now positive without fold is image,
    )

-- A write that lies under a safe one.

safe_yet : (e : Event) (h : History) (w : Write) → is_safe h w ≡ true → is_safe (e ∷ h) w ≡ true
safe_yet (WriteIssued v) h w is = is
safe_yet (WriteEnded k) h w is = is
safe_yet (WriteFailed k) h w is = is
safe_yet (SyncIssued s range) h w is = is
safe_yet (SyncEnded s) h w is = grind (arith, is)
safe_yet (SyncFailed s) h w is = is

before_yet : (e : Event) (h : History) (m n : ℕ) → is_before h m n ≡ true → is_before (e ∷ h) m n ≡ true
before_yet (WriteIssued v) h m n is = grind (arith, is)
before_yet (WriteEnded k) h m n is = is
before_yet (WriteFailed k) h m n is = is
before_yet (SyncIssued s range) h m n is = is
before_yet (SyncEnded s) h m n is = is
before_yet (SyncFailed s) h m n is = is

still_under : (later h : History) (w : Write) → IsUnderSafe h w → IsUnderSafe (later ++ h) w
still_under [] h w u = u
still_under (e ∷ later) h w u =
    let was = still_under later h w u in
    record {
      issued = in_later (e ∷ []) (later ++ h) w was.issued;
      over = was.over;
      over_issued = in_later (e ∷ []) (later ++ h) was.over was.over_issued;
      safe = safe_yet e (later ++ h) was.over was.safe;
      before = before_yet e (later ++ h) w.number was.over.number was.before;
      from = was.from;
      to = was.to;
    }

-- a byte of it doesn't show, if the other comes after it
hidden_byte : (w y : Write) (k byte : ℕ) (order : List Write) → (is_under w k ≡ true → is_under y k ≡ true)
    → IsIn y order → byte_over (over byte w k) order k ≡ byte_over byte order k
hidden_byte w y k byte [] covers among = absurd among
hidden_byte w y k byte (x ∷ more) covers (inl same) = elim (cases_Bool (is_under w k)) [
  | inl under ↦
      let shown : is_under x k ≡ true = subst (λ (z : Write). is_under z k ≡ true) same (covers under) in
      grind (arith, shown)
  | inr out ↦ grind (arith, out)
]
hidden_byte w y k byte (x ∷ more) covers (inr later) = elim (cases_Bool (is_under w k)) [
  | inl under ↦ elim (cases_Bool (is_under x k)) [
    | inl over_x ↦ grind (arith, over_x)
    | inr out ↦ grind (arith, out, (hidden_byte w y k byte more covers later))
  ]
  | inr out ↦ grind (arith, out)
]

put_in_hidden : (h : History) (w y : Write) (k byte : ℕ) (order : List Write) → IsLawful h → IsInOrder h order
    → is_before h w.number y.number ≡ true → (is_under w k ≡ true → is_under y k ≡ true) → IsIn y order
    → byte_over byte (put_in h w order) k ≡ byte_over byte order k
put_in_hidden h w y k byte [] l o before covers among = absurd among
put_in_hidden h w y k byte (x ∷ more) l o before covers among =
    cond_both (list_any (λ z. is_before h z.number w.number) (x ∷ more)) (x ∷ put_in h w more) (w ∷ x ∷ more) (λ ws. byte_over byte ws k ≡ byte_over byte (x ∷ more) k)
    (λ some. elim among as (λ _. byte_over byte (x ∷ put_in h w more) k ≡ byte_over byte (x ∷ more) k) [
      | inl same ↦ absurd (both_ways (is_before h w.number x.number) (not_past h w x more l o.0 some) (subst (λ (z : Write). is_before h w.number z.number ≡ true) same before))
      | inr later ↦ put_in_hidden h w y k (over byte x k) more l o.2 before covers later
    ])
    (λ none. hidden_byte w y k byte (x ∷ more) covers among)

left_out_hidden : (g h : History) (w y : Write) (k byte : ℕ) (order : List Write) → IsWithout g h w
    → ((x : Write) → IsIn x order → IsIn x (writes g)) → IsInOrder g order
    → is_before g w.number y.number ≡ true → (is_under w k ≡ true → is_under y k ≡ true) → IsIn y order
    → byte_over byte order k ≡ byte_over byte (filter (lacks w.number) order) k
left_out_hidden g h w y k byte [] f known o before covers among = absurd among
left_out_hidden g h w y k byte (x ∷ more) f known o before covers among = elim (cases_Bool (x.number == w.number)) [
  | inl named ↦
      let it : x ≡ w = it_is g h w x f (known x (inl refl)) (eqb-true x.number w.number named) in
      elim among [
        | inl same ↦ absurd (both_ways (is_before g w.number w.number) (before_itself g w.number f.lawful) (subst (λ (z : Write). is_before g w.number z.number ≡ true) (same ∙ it) before))
        | inr later ↦
            subst (λ (z : Write). byte_over (over byte z k) more k ≡ byte_over byte more k) (sym it) (hidden_byte w y k byte more covers later)
            ∙ left_out_hidden g h w y k byte more f (λ z there. known z (inr there)) o.2 before covers later
            ∙ grind (arith, named)
      ]
  | inr other ↦
      elim among [
        | inl same ↦
            over_others w.number k (over byte x k) more (λ z there named.
            let it : z ≡ w = it_is g h w z f (known z (inr there)) named in
            absurd (both_ways (is_before g w.number x.number) (subst (λ (v : Write). is_before g v.number x.number ≡ false) it (o.0 z there)) (subst (λ (v : Write). is_before g w.number v.number ≡ true) same before)))
            ∙ grind (arith, other)
        | inr later ↦ left_out_hidden g h w y k (over byte x k) more f (λ z there. known z (inr there)) o.2 before covers later ∙ grind (arith, other)
      ]
]

-- and it makes no file longer
no_longer : (w y : Write) (len : ℕ) (order : List Write) → end_of w ≤ end_of y → IsIn y order
    → length_over (max len (end_of w)) order ≡ length_over len order
no_longer w y len [] short among = absurd among
no_longer w y len (x ∷ more) short (inl same) =
    let long : end_of w ≤ end_of x = subst (λ (z : Write). end_of w ≤ end_of z) same short in
    let equal : max (max len (end_of w)) (end_of x) ≡ max len (end_of x) = omega (arith, long) in
    ap (λ n. length_over n more) equal
no_longer w y len (x ∷ more) short (inr later) =
    let turned : max (max len (end_of w)) (end_of x) ≡ max (max len (end_of x)) (end_of w) = omega arith in
    ap (λ n. length_over n more) turned ∙ no_longer w y (max len (end_of x)) more short later

-- nor does it if it is one of the writes that are left, or none
lost_length : (w y : Write) (len : ℕ) (order : List Write) → end_of w ≤ end_of y
    → IsIn y (filter (lacks w.number) order) → ((x : Write) → IsIn x order → x.number ≡ w.number → x ≡ w)
    → length_over len order ≡ length_over len (filter (lacks w.number) order)
lost_length w y len order short there one =
    let some = filter (lacks w.number) order in
    let reaches = end_within len y some there in
    let up : length_over len order ≤ length_over len some = length_below len (length_over len some) order (len_grows len some) (λ x among. elim (cases_Bool (x.number == w.number)) [
      | inl named ↦ let same : end_of x ≡ end_of w = ap end_of (one x among (eqb-true x.number w.number named)) in omega (arith, same, short, reaches)
      | inr other ↦ end_within len x some (other_in w x order among (eqb-false x.number w.number other))
    ]) in
    let down : length_over len some ≤ length_over len order = length_below len (length_over len order) some (len_grows len order) (λ x among. end_within len x order (other_of w x order among).0) in
    omega (arith, up, down)

record Covers (w y : Write) : Type 0 where
  from : y.off ≤ w.off
  to : w.off + length w.bytes ≤ y.off + length y.bytes

covers_byte : (w y : Write) (k : ℕ) → Covers w y → is_under w k ≡ true → is_under y k ≡ true
covers_byte w y k c under = let a = c.from in let b = c.to in grind (arith, a, b, under)

covers_unit : (u i : ℕ) (w y : Write) → Covers w y → is_on u i w ≡ true → is_on u i y ≡ true
covers_unit u i w y c on =
    let a = c.from in let b = c.to in
    let less : max (u * i) w.off < min (u * i + u) (w.off + length w.bytes) = ltb-true (max (u * i) w.off) (min (u * i + u) (w.off + length w.bytes)) on in
    lt-ltb (max (u * i) y.off) (min (u * i + u) (y.off + length y.bytes)) (omega (arith, a, b, less))

covers_end : (w y : Write) → Covers w y → end_of w ≤ end_of y
covers_end w y c = let a = c.from in let b = c.to in grind (arith, a, b)

-- what has to be left with a write that lies under a safe one
those_left : (g h : History) (w : Write) (touches : Write → Bool) (order : List Write) → IsWithout g h w
    → (s : IsUnderSafe g w) → IsIn s.over order → MayBeLeft h touches order
    → (m : Write) → IsIn m (writes h) → touches m ≡ true → goes_along g m.number w.number ≡ true → IsIn m order
those_left g h w touches order f s there left m among on along =
    let was = f.but_it.of m among in
    let over_was = f.but_it.of s.over (left.issued s.over there).0 in
    left.with_those_before m s.over among on there
    (f.same.along m.number s.over.number was.1 over_was.1 ∙ along_through g m.number w.number s.over.number f.lawful along s.before)

over_left : (g h : History) (w : Write) (touches : Write → Bool) (order : List Write) → IsWithout g h w
    → (s : IsUnderSafe g w) → touches s.over ≡ true → MayBeLeft h touches order → IsIn s.over order
over_left g h w touches order f s on left =
    let other : (s.over.number ≡ w.number → ⊥) = λ same. both_ways (is_before g w.number w.number) (before_itself g w.number f.lawful) (subst (λ n. is_before g w.number n ≡ true) same s.before) in
    left.safe s.over (f.but_it.into s.over s.over_issued other) on (f.same.safe s.over other ∙ s.safe)

hidden_to : (u : ℕ) (first : List ℕ) (g h : History) (w : Write) (now : List ℕ) → 0 < u
    → IsWithout g h w → IsUnderSafe g w → IsImage u first g now → IsImage u first h now
hidden_to u first g h w now positive f s image =
    let c : Covers w s.over = record { from = s.from; to = s.to } in
    record {
      units = λ i.
          let unit = image.units i in
          record {
            order = filter (lacks w.number) unit.order;
            left = left_to g h w (is_on u i) unit.order f unit.left;
            bytes = λ k at within.
                unit.bytes k at within
                ∙ (elim (cases_Bool (is_under w k)) as (λ _. byte_over (slice_index first k) unit.order k ≡ byte_over (slice_index first k) (filter (lacks w.number) unit.order) k) [
                  | inl under ↦
                      let on : is_on u i s.over ≡ true = covers_unit u i w s.over c (subst (λ j. is_on u j w ≡ true) at (on_from u w k positive under)) in
                      left_out_hidden g h w s.over k (slice_index first k) unit.order f (λ x among. (unit.left.issued x among).0) unit.left.in_order s.before (covers_byte w s.over k c) (unit.left.safe s.over s.over_issued on s.safe)
                  | inr out ↦ over_others w.number k (slice_index first k) unit.order (λ x among named. subst (λ (y : Write). is_under y k ≡ false) (sym (it_is g h w x f (unit.left.issued x among).0 named)) out)
                ]);
          };
      len =
          let over_in = image.len.left.safe s.over s.over_issued refl s.safe in
          let over_stays : IsIn s.over (filter (lacks w.number) image.len.order) = other_in w s.over image.len.order over_in (λ same. both_ways (is_before g w.number w.number) (before_itself g w.number f.lawful) (subst (λ n. is_before g w.number n ≡ true) same s.before)) in
          record {
            order = filter (lacks w.number) image.len.order;
            left = left_to g h w (λ x. true) image.len.order f image.len.left;
            len =
                image.len.len
                ∙ lost_length w s.over (length first) image.len.order (covers_end w s.over c) over_stays (λ x among named. it_is g h w x f (image.len.left.issued x among).0 named);
          };
    }

hidden_of : (u : ℕ) (first : List ℕ) (g h : History) (w : Write) (now : List ℕ) → 0 < u
    → IsWithout g h w → IsUnderSafe g w → IsImage u first h now → IsImage u first g now
hidden_of u first g h w now positive f s image =
    let c : Covers w s.over = record { from = s.from; to = s.to } in
    record {
      units = λ i.
          let unit = image.units i in
          elim (cases_Bool (is_on u i w)) [
            | inl on ↦
                let there = over_left g h w (is_on u i) unit.order f s (covers_unit u i w s.over c on) unit.left in
                let others = λ (x : Write) (among : IsIn x unit.order). (f.but_it.of x (unit.left.issued x among).0).1 in
                record {
                  order = put_in g w unit.order;
                  left = left_under g h w (is_on u i) unit.order f on (those_left g h w (is_on u i) unit.order f s there unit.left) unit.left;
                  bytes = λ k at within.
                      unit.bytes k at within
                      ∙ sym (put_in_hidden g w s.over k (slice_index first k) unit.order f.lawful (order_of g h w unit.order f others unit.left.in_order) s.before (covers_byte w s.over k c) there);
                }
            | inr off ↦ record { order = unit.order; left = left_apart g h w (is_on u i) unit.order f off unit.left; bytes = unit.bytes }
          ];
      len =
          let there = over_left g h w (λ x. true) image.len.order f s refl image.len.left in
          record {
            order = put_in g w image.len.order;
            left = left_under g h w (λ x. true) image.len.order f refl (those_left g h w (λ x. true) image.len.order f s there image.len.left) image.len.left;
            len =
                image.len.len
                ∙ sym (no_longer w s.over (length first) image.len.order (covers_end w s.over c) there)
                ∙ sym (put_in_length g w (length first) image.len.order);
          };
    }

pub letting_go_changes_none : LettingGoChangesNone
letting_go_changes_none u first later h w now positive l s =
    let without = without_it later h w l s.issued in
    let under = still_under later h w s in (
      λ image. hidden_to u first (later ++ h) (later ++ without_write w.number h) w now positive without under image,
      λ image. hidden_of u first (later ++ h) (later ++ without_write w.number h) w now positive without under image,
    )
