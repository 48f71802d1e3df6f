-- What a choice leaves is an image, and each image is what some choice leaves.
use Rattle.std.proofs.Common.{◌≡◌, ◌/◌, ℕ, Bool, true, false, List, [], ◌∷◌, length, refl, sym, ap, ◌∙◌, inl, inr, arith}
use Rattle.uring_volume.proofs.Common.{ChosenIsImage, History, ImageIsChosen, IsChosen, IsImage, IsIn, IsInOrder, IsLawful, MayBeLeft, Write, WriteEnded, WriteFailed, WriteIssued, byte_over, chosen, filter, is_before, is_on, issued, length_over, ne_eqb, slice_index, writes}
use Rattle.uring_volume.proofs.Units.{in_filter, of_filter}
use Rattle.uring_volume.proofs.Fitting.{in_left, in_right, in_either, append_in_order, FitsIn, chosen_fits, AreApart, apart_filter, numbers, fits_chosen, before_along, not_before}

-- The writes of a lawful history.

pub in_issued : (h : History) (w : Write) → IsIn w (writes h) → IsIn w (issued h)
in_issued [] w among = among
in_issued (WriteIssued v ∷ earlier) w among = grind (arith, in_left, in_right, (in_issued earlier w))
in_issued (e ∷ earlier) w among = in_issued earlier w among

pub of_issued : (h : History) (w : Write) → IsIn w (issued h) → IsIn w (writes h)
of_issued [] w among = among
of_issued (WriteIssued v ∷ earlier) w among = grind (arith, (in_either w (issued earlier) (v ∷ []) among), (of_issued earlier w))
of_issued (e ∷ earlier) w among = of_issued earlier w among

-- an issue of another write doesn't change what is before a write
pub issue_apart : (h : History) (v : Write) (m n : ℕ) → (n ≡ v.number → ⊥)
    → is_before h m n ≡ false → is_before (WriteIssued v ∷ h) m n ≡ false
issue_apart h v m n differs none = rw (ne_eqb v.number n (λ e. differs (sym e))) none

-- the same writes are before one another
same_order : (g h : History) (order : List Write)
    → ((m n : ℕ) → is_before g m n ≡ is_before h m n) → IsInOrder h order
    → IsInOrder g order
same_order g h [] same o = tt
same_order g h (w ∷ later) same o = (λ m among. same m.number w.number ∙ o.0 m among, o.1, same_order g h later same o.2)

-- writes of other numbers stay in order if one is issued
with_issue : (h : History) (v : Write) (order : List Write)
    → ((x : Write) → IsIn x order → x.number ≡ v.number → ⊥) → IsInOrder h order
    → IsInOrder (WriteIssued v ∷ h) order
with_issue h v [] differ o = tt
with_issue h v (w ∷ later) differ o =
    (λ m among. issue_apart h v m.number w.number (differ w (inl refl)) (o.0 m among), o.1, with_issue h v later (λ x among. differ x (inr among)) o.2)

issued_in_order : (h : History) → IsLawful h → IsInOrder h (issued h)
issued_in_order [] l = tt
issued_in_order (WriteIssued v ∷ earlier) l =
    append_in_order (WriteIssued v ∷ earlier) (issued earlier) (v ∷ [])
    (with_issue earlier v (issued earlier) (λ x among. l.0 x (of_issued earlier x among)) (issued_in_order earlier l.2))
    (λ m none. absurd none, λ none. none, tt)
    (λ x m left right. grind (arith, (issue_apart earlier v m.number x.number (l.0 x (of_issued earlier x left))), (not_before earlier m.number x.number)))
    (λ x left right. grind (arith, (l.0 x (of_issued earlier x left))))
issued_in_order (WriteEnded n ∷ earlier) l = same_order (WriteEnded n ∷ earlier) earlier (issued earlier) (λ m k. refl) (issued_in_order earlier l.1)
issued_in_order (WriteFailed n ∷ earlier) l = same_order (WriteFailed n ∷ earlier) earlier (issued earlier) (λ m k. refl) (issued_in_order earlier l.1)
issued_in_order (e ∷ earlier) l = same_order (e ∷ earlier) earlier (issued earlier) (λ m k. refl) (issued_in_order earlier l)

none_before_itself : (h : History) (w : Write) → IsLawful h → IsIn w (writes h)
    → is_before h w.number w.number ≡ false
none_before_itself [] w l among = refl
none_before_itself (WriteIssued v ∷ earlier) w l among = grind (arith, not_before, issue_apart, (none_before_itself earlier w l.2))
none_before_itself (WriteEnded n ∷ earlier) w l among = none_before_itself earlier w l.1 among
none_before_itself (WriteFailed n ∷ earlier) w l among = none_before_itself earlier w l.1 among
none_before_itself (e ∷ earlier) w l among = none_before_itself earlier w l among

pub one_number : (h : History) (x y : Write) → IsLawful h → IsIn x (writes h) → IsIn y (writes h)
    → x.number ≡ y.number → x ≡ y
one_number [] x y l ax ay e = absurd ax
one_number (WriteIssued v ∷ earlier) x y l ax ay e = grind (arith, (one_number earlier x y l.2), (l.0 x), (l.0 y))
one_number (WriteEnded n ∷ earlier) x y l ax ay e = one_number earlier x y l.1 ax ay e
one_number (WriteFailed n ∷ earlier) x y l ax ay e = one_number earlier x y l.1 ax ay e
one_number (f ∷ earlier) x y l ax ay e = one_number earlier x y l ax ay e

pub issued_apart : (h : History) → IsLawful h → AreApart h (issued h)
issued_apart h l = record {
  in_order = issued_in_order h l;
  unique = λ x y ax ay. one_number h x y l (of_issued h x ax) (of_issued h y ay);
  irreflexive = λ x among. none_before_itself h x l (of_issued h x among);
  along = λ m n ended before. before_along h m n l ended before;
}

-- A place of the file.

pub left_of_fit : (h : History) (touches : Write → Bool) (rest order : List Write)
    → ((w : Write) → IsIn w rest → IsIn w (writes h) × (touches w ≡ true))
    → ((w : Write) → IsIn w (writes h) → touches w ≡ true → IsIn w rest)
    → FitsIn h rest order → MayBeLeft h touches order
left_of_fit h touches rest order of into f = grind arith

pub fit_of_left : (h : History) (touches : Write → Bool) (rest order : List Write)
    → ((w : Write) → IsIn w rest → IsIn w (writes h) × (touches w ≡ true))
    → ((w : Write) → IsIn w (writes h) → touches w ≡ true → IsIn w rest)
    → MayBeLeft h touches order → FitsIn h rest order
fit_of_left h touches rest order of into l = grind arith

pub on_of : (h : History) (touches : Write → Bool) (w : Write) → IsIn w (filter touches (issued h))
    → IsIn w (writes h) × (touches w ≡ true)
on_of h touches w among =
    (of_issued h w (of_filter touches w (issued h) among).0, (of_filter touches w (issued h) among).1)

pub on_into : (h : History) (touches : Write → Bool) (w : Write) → IsIn w (writes h) → touches w ≡ true
    → IsIn w (filter touches (issued h))
on_into h touches w among on = in_filter touches w (issued h) (in_issued h w among) on

pub chosen_left : (h : History) (touches : Write → Bool) (choice : List ℕ) → IsLawful h
    → MayBeLeft h touches (chosen h (filter touches (issued h)) choice)
chosen_left h touches choice l =
    left_of_fit h touches (filter touches (issued h)) (chosen h (filter touches (issued h)) choice) (on_of h touches) (on_into h touches)
    (chosen_fits h (filter touches (issued h)) choice (apart_filter h touches (issued h) (issued_apart h l)))

left_chosen : (h : History) (touches : Write → Bool) (order : List Write) → IsLawful h
    → MayBeLeft h touches order → chosen h (filter touches (issued h)) (numbers order) ≡ order
left_chosen h touches order l left =
    fits_chosen h (filter touches (issued h)) order (apart_filter h touches (issued h) (issued_apart h l))
    (fit_of_left h touches (filter touches (issued h)) order (on_of h touches) (on_into h touches) left)

whole_left : (h : History) (choice : List ℕ) → IsLawful h
    → MayBeLeft h (λ w. true) (chosen h (issued h) choice)
whole_left h choice l =
    left_of_fit h (λ w. true) (issued h) (chosen h (issued h) choice) (grind (arith, of_issued)) (grind (arith, in_issued))
    (chosen_fits h (issued h) choice (issued_apart h l))

whole_chosen : (h : History) (order : List Write) → IsLawful h → MayBeLeft h (λ w. true) order
    → chosen h (issued h) (numbers order) ≡ order
whole_chosen h order l left =
    fits_chosen h (issued h) order (issued_apart h l)
    (fit_of_left h (λ w. true) (issued h) order (λ w among. (of_issued h w among, refl)) (λ w among on. in_issued h w among) left)

-- The laws.

pub chosen_is_image : ChosenIsImage
chosen_is_image u first h choices whole now positive l c = record {
  units = λ i. record {
    order = chosen h (filter (is_on u i) (issued h)) (choices i);
    left = chosen_left h (is_on u i) (choices i) l;
    bytes = λ k at within. c.bytes k within ∙ ap (λ j. byte_over (slice_index first k) (chosen h (filter (is_on u j) (issued h)) (choices j)) k) at;
  };
  len = record {
    order = chosen h (issued h) whole;
    left = whole_left h whole l;
    len = c.len;
  };
}

-- each of these numbers is that of a write
abbrev pub NameWrites : History → List ℕ → Type 0
NameWrites h ns = (n : ℕ) → IsIn n ns → (w : Write) × IsIn w (writes h) × (w.number ≡ n)

numbers_name : (h : History) (order : List Write) → ((w : Write) → IsIn w order → IsIn w (writes h))
    → NameWrites h (numbers order)
numbers_name h [] known n among = absurd among
numbers_name h (w ∷ later) known n among = grind (arith, (numbers_name h later))

-- each image is left by choices that name writes alone
pub image_is_named : (u : ℕ) (first : List ℕ) (h : History) (now : List ℕ) → IsLawful h
    → IsImage u first h now
    → (choices : ℕ → List ℕ) × (whole : List ℕ) × ((i : ℕ) → NameWrites h (choices i))
    × NameWrites h whole × IsChosen u first h choices whole now
image_is_named u first h now l image = (
  λ i. numbers (image.units i).order,
  numbers image.len.order,
  λ i. numbers_name h (image.units i).order (λ w among. ((image.units i).left.issued w among).0),
  numbers_name h image.len.order (λ w among. (image.len.left.issued w among).0),
  record {
    len = image.len.len ∙ ap (length_over (length first)) (sym (whole_chosen h image.len.order l image.len.left));
    bytes = λ k within. (image.units (k / u)).bytes k refl within ∙ ap (λ order. byte_over (slice_index first k) order k) (sym (left_chosen h (is_on u (k / u)) (image.units (k / u)).order l (image.units (k / u)).left));
  },
)

pub image_is_chosen : ImageIsChosen
image_is_chosen u first h now positive l image =
    let named = image_is_named u first h now l image in (named.0, named.1, named.4)
