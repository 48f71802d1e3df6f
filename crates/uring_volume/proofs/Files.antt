-- The list of all images: what may be left of each unit, side by side, for each length.
use Rattle.std.proofs.Common.{◌≡◌, ◌+◌, ◌-◌, ◌*◌, ◌/◌, ◌≤◌, ◌<◌, ℕ, zero, suc, min, true, List, [], ◌∷◌, ◌++◌, length, map, get_or, take, drop, refl, sym, subst, ap, ◌∙◌, inl, inr, arith}
use Rattle.uring_volume.proofs.Common.{AreTheImages, History, IsEachOnce, IsImage, IsIn, IsLawful, MayBeLeft, UnitIsLeft, Write, byte_over, bytes_from, bytes_over, chosen, div-lt_iff_lt-mul, ext_get_or, files_of, filter, fronts, get_or-append_right, get_or-drop, get_or-take, get_or_append_left, images_of, is_on, issued, joined, length-append, length-drop, length-map, length-take, lengths_of, mul-suc, mul_comm, slice_index, take-append-drop, unit_contents, units_in, zero-mul}
use Rattle.std.proofs.Math.Seq.{take-append_seam, drop-append_seam}
use Rattle.uring_volume.proofs.Painting.{below_or_from, in_unit}
use Rattle.uring_volume.proofs.Fitting.{in_left, in_right, in_either, AreApart, apart_filter}
use Rattle.uring_volume.proofs.Chosen.{issued_apart, in_issued, of_issued, left_of_fit, fit_of_left, on_of, on_into, chosen_left}
use Rattle.uring_volume.proofs.Walking.{all_over, of_contents, in_contents, contents_once}
use Rattle.uring_volume.proofs.Lengths.{IsLength, of_lengths, in_lengths, lengths_once}

-- The bytes of a unit.

pub length_bytes_over : (k : ℕ) (bs : List ℕ) (w : Write) → length (bytes_over k bs w) ≡ length bs
length_bytes_over k [] w = refl
length_bytes_over k (b ∷ bs) w = ap suc (length_bytes_over (suc k) bs w)

pub bytes_over_at : (k : ℕ) (bs : List ℕ) (w : Write) (j : ℕ) → j < length bs
    → get_or (bytes_over k bs w) j 0 ≡ byte_over (get_or bs j 0) (w ∷ []) (k + j)
bytes_over_at k [] w j within = absurd (omega arith)
bytes_over_at k (b ∷ bs) w zero within = grind arith
bytes_over_at k (b ∷ bs) w (suc j) within = grind (arith, (bytes_over_at (suc k) bs w j (omega arith)))

length_all_over : (k : ℕ) (bs : List ℕ) (order : List Write) → length (all_over k bs order) ≡ length bs
length_all_over k bs [] = refl
length_all_over k bs (w ∷ more) = length_all_over k (bytes_over k bs w) more ∙ length_bytes_over k bs w

all_over_at : (k : ℕ) (bs : List ℕ) (order : List Write) (j : ℕ) → j < length bs
    → get_or (all_over k bs order) j 0 ≡ byte_over (get_or bs j 0) order (k + j)
all_over_at k bs [] j within = refl
all_over_at k bs (w ∷ more) j within =
    grind (arith, (all_over_at k (bytes_over k bs w) more j (omega (arith, length_bytes_over k bs w))), bytes_over_at)

pub length_bytes_from : (first : List ℕ) (k n : ℕ) → length (bytes_from first k n) ≡ n
length_bytes_from first k zero = refl
length_bytes_from first k (suc n) = ap suc (length_bytes_from first (suc k) n)

pub bytes_from_at : (first : List ℕ) (k n j : ℕ) → j < n
    → get_or (bytes_from first k n) j 0 ≡ slice_index first (k + j)
bytes_from_at first k zero j within = absurd (omega arith)
bytes_from_at first k (suc n) zero within = grind arith
bytes_from_at first k (suc n) (suc j) within = grind (arith, (bytes_from_at first (suc k) n j (omega arith)))

-- What may be left of a unit.

record IsUnit (u : ℕ) (first : List ℕ) (h : History) (len i : ℕ) (c : List ℕ) : Type 0 where
  order : List Write
  left : MayBeLeft h (is_on u i) order
  long : length c ≡ min u (len - u * i)
  bytes : (j : ℕ) → j < length c
      → get_or c j 0 ≡ byte_over (slice_index first (u * i + j)) order (u * i + j)

on_apart : (h : History) (u i : ℕ) → IsLawful h → AreApart h (filter (is_on u i) (issued h))
on_apart h u i l = apart_filter h (is_on u i) (issued h) (issued_apart h l)

of_unit : (u : ℕ) (first : List ℕ) (h : History) (len i : ℕ) (c : List ℕ) → IsLawful h
    → IsIn c (unit_contents u first h len i) → IsUnit u first h len i c
of_unit u first h len i c l among =
    let n = min u (len - u * i) in
    let start = bytes_from first (u * i) (min u (len - u * i)) in
    let g = of_contents h (u * i) (filter (is_on u i) (issued h)) (bytes_from first (u * i) (min u (len - u * i))) c (on_apart h u i l) among in
    let long : length c ≡ min u (len - u * i) = ap length g.made ∙ length_all_over (u * i) (bytes_from first (u * i) (min u (len - u * i))) g.order ∙ length_bytes_from first (u * i) (min u (len - u * i)) in
    record {
      order = g.order;
      left = left_of_fit h (is_on u i) (filter (is_on u i) (issued h)) g.order (on_of h (is_on u i)) (on_into h (is_on u i)) g.fits;
      long = long;
      bytes = grind (arith, get_or, all_over_at, length_bytes_from, bytes_from_at);
    }

in_unit_contents : (u : ℕ) (first : List ℕ) (h : History) (len i : ℕ) (c : List ℕ) → IsLawful h
    → IsUnit u first h len i c → IsIn c (unit_contents u first h len i)
in_unit_contents u first h len i c l is =
    let n : ℕ = min u (len - u * i) in
    let same : length c ≡ length (all_over (u * i) (bytes_from first (u * i) (min u (len - u * i))) is.order) = is.long ∙ sym (length_all_over (u * i) (bytes_from first (u * i) (min u (len - u * i))) is.order ∙ length_bytes_from first (u * i) (min u (len - u * i))) in
    in_contents h (u * i) (filter (is_on u i) (issued h)) (bytes_from first (u * i) (min u (len - u * i))) c (on_apart h u i l) (record {
      order = is.order;
      fits = fit_of_left h (is_on u i) (filter (is_on u i) (issued h)) is.order (on_of h (is_on u i)) (on_into h (is_on u i)) is.left;
      made = ext_get_or 0 c (all_over (u * i) (bytes_from first (u * i) (min u (len - u * i))) is.order) same (λ j within.
          is.bytes j within
          ∙ ap (λ b. byte_over b is.order (u * i + j)) (sym (bytes_from_at first (u * i) (min u (len - u * i)) j (omega (arith, is.long))))
          ∙ sym (all_over_at (u * i) (bytes_from first (u * i) (min u (len - u * i))) is.order j (omega (arith, is.long, length_bytes_from first (u * i) (min u (len - u * i))))));
    })

-- Lists side by side.

in_map : (f : List ℕ → List ℕ) (x : List ℕ) (xs : List (List ℕ)) → IsIn x xs → IsIn (f x) (map f xs)
in_map f x [] among = among
in_map f x (y ∷ ys) among = grind (arith, (in_map f x ys))

of_map : (f : List ℕ → List ℕ) (z : List ℕ) (xs : List (List ℕ)) → IsIn z (map f xs)
    → (x : List ℕ) × IsIn x xs × (z ≡ f x)
of_map f z [] among = absurd among
of_map f z (y ∷ ys) among = grind (arith, (of_map f z ys))

record IsJoin (bs es : List (List ℕ)) (z : List ℕ) : Type 0 where
  front : List ℕ
  back : List ℕ
  in_front : IsIn front bs
  in_back : IsIn back es
  is : z ≡ front ++ back

of_joined : (bs es : List (List ℕ)) (z : List ℕ) → IsIn z (joined bs es) → IsJoin bs es z
of_joined [] es z among = absurd among
of_joined (b ∷ more) es z among = elim (in_either z (map (λ e. b ++ e) es) (joined more es) among) [
  | inl here ↦ grind (arith, (of_map (λ e. b ++ e) z es here))
  | inr there ↦ grind (arith, (of_joined more es z there))
]

in_joined : (bs es : List (List ℕ)) (b e : List ℕ) → IsIn b bs → IsIn e es
    → IsIn (b ++ e) (joined bs es)
in_joined [] es b e among after = absurd among
in_joined (c ∷ more) es b e among after = grind (arith, in_left, in_right, in_map, (in_joined more es b e))

map_once : (b : List ℕ) (es : List (List ℕ)) → IsEachOnce es → IsEachOnce (map (λ e. b ++ e) es)
map_once b [] once = tt
map_once b (e ∷ es) once = (
  λ among. let found = of_map (λ x. b ++ x) (b ++ e) es among in grind (arith, (drop-append_seam b e), (drop-append_seam b found.0)),
  map_once b es once.1,
)

both_once : (xs ys : List (List ℕ)) → IsEachOnce xs → IsEachOnce ys
    → ((x : List ℕ) → IsIn x xs → IsIn x ys → ⊥) → IsEachOnce (xs ++ ys)
both_once [] ys ox oy apart = oy
both_once (x ∷ xs) ys ox oy apart =
    (λ among. grind (arith, (in_either x xs ys among)), both_once xs ys ox.1 oy (λ y left. apart y (inr left)))

joined_once : (n : ℕ) (bs es : List (List ℕ)) → IsEachOnce bs → IsEachOnce es
    → ((b : List ℕ) → IsIn b bs → length b ≡ n) → IsEachOnce (joined bs es)
joined_once n [] es ob oe long = tt
joined_once n (b ∷ more) es ob oe long =
    both_once (map (λ e. b ++ e) es) (joined more es) (map_once b es oe) (joined_once n more es ob.1 oe (λ c among. long c (inr among)))
    (λ z here there.
    let one = of_map (λ e. b ++ e) z es here in
    let two = of_joined more es z there in
    grind (arith, (take-append_seam b one.0), (take-append_seam two.front two.back), (long two.front (inr two.in_front)), (long b (inl refl))))

-- The first units of a file.

record IsFront (u : ℕ) (first : List ℕ) (h : History) (len n : ℕ) (now : List ℕ) : Type 0 where
  long : length now ≡ min len (u * n)
  units : (i : ℕ) → i < n → UnitIsLeft u first h now i

-- a byte of an earlier unit
earlier_byte : (u n k i : ℕ) → 0 < u → k / u ≡ i → i < n → k < u * n
earlier_byte u n k i positive at below = grind arith

none_front : (u : ℕ) (first : List ℕ) (h : History) (len : ℕ) → IsFront u first h len 0 []
none_front u first h len = record { long = let it : 0 ≡ min len (u * 0) = omega arith in it; units = λ i below. absurd (omega arith) }

join_fronts : (u : ℕ) (first : List ℕ) (h : History) (len n : ℕ) (b e : List ℕ) → 0 < u
    → IsFront u first h len n b → IsUnit u first h len n e → IsFront u first h len (suc n) (b ++ e)
join_fronts u first h len n b e positive front unit =
    let grows : u * suc n ≡ u * n + u = mul-suc u n in
    let size : length (b ++ e) ≡ length b + length e = length-append b e in
    let total : length (b ++ e) ≡ min len (u * suc n) = omega (arith, front.long, unit.long) in
    record {
      long = total;
      units = λ i below. elim (below_or_from i n) [
        | inl before ↦
            let old : UnitIsLeft u first h b i = front.units i before in
            record {
              order = old.order;
              left = old.left;
              bytes = λ k at within.
                  let low : k < u * n = earlier_byte u n k i positive at before in
                  let inside : k < length b = omega (arith, front.long) in
                  get_or_append_left b e 0 k inside ∙ old.bytes k at inside;
            }
        | inr from ↦ grind (arith, get_or-append_right)
      ];
    }

of_fronts : (u : ℕ) (first : List ℕ) (h : History) (len n : ℕ) (now : List ℕ) → 0 < u → IsLawful h
    → IsIn now (fronts u first h len n) → IsFront u first h len n now
of_fronts u first h len zero now positive l (inl same) = subst (λ bs. IsFront u first h len 0 bs) (sym same) (none_front u first h len)
of_fronts u first h len zero now positive l (inr none) = absurd none
of_fronts u first h len (suc n) now positive l among =
    let join = of_joined (fronts u first h len n) (unit_contents u first h len n) now among in
    subst (λ bs. IsFront u first h len (suc n) bs) (sym join.is)
    (join_fronts u first h len n join.front join.back positive (of_fronts u first h len n join.front positive l join.in_front) (of_unit u first h len n join.back l join.in_back))

-- a file without its last unit, and that unit
front_part : (u : ℕ) (first : List ℕ) (h : History) (len n : ℕ) (now : List ℕ) → 0 < u
    → IsFront u first h len (suc n) now → IsFront u first h len n (take (u * n) now)
front_part u first h len n now positive front =
    let grows : u * suc n ≡ u * n + u = mul-suc u n in
    let size : length (take (u * n) now) ≡ min (u * n) (length now) = length-take (u * n) now in
    record {
      long = let it : length (take (u * n) now) ≡ min len (u * n) = omega (arith, front.long) in it;
      units = λ i below.
          let higher : i < suc n = omega arith in
          let old : UnitIsLeft u first h now i = front.units i higher in
          record {
            order = old.order;
            left = old.left;
            bytes = grind (arith, get_or-take);
          };
    }

back_part : (u : ℕ) (first : List ℕ) (h : History) (len n : ℕ) (now : List ℕ) → 0 < u
    → IsFront u first h len (suc n) now → IsUnit u first h len n (drop (u * n) now)
back_part u first h len n now positive front =
    let grows : u * suc n ≡ u * n + u = mul-suc u n in
    let size : length (drop (u * n) now) ≡ length now - u * n = length-drop (u * n) now in
    let higher : n < suc n = omega arith in
    let old : UnitIsLeft u first h now n = front.units n higher in
    record {
      order = old.order;
      left = old.left;
      long = let it : length (drop (u * n) now) ≡ min u (len - u * n) = omega (arith, front.long) in it;
      bytes = grind (arith, get_or-drop, in_unit);
    }

in_fronts : (u : ℕ) (first : List ℕ) (h : History) (len n : ℕ) (now : List ℕ) → 0 < u → IsLawful h
    → IsFront u first h len n now → IsIn now (fronts u first h len n)
in_fronts u first h len zero [] positive l front = inl refl
in_fronts u first h len zero (b ∷ bs) positive l front = grind arith
in_fronts u first h len (suc n) now positive l front =
    subst (λ bs. IsIn bs (fronts u first h len (suc n))) (take-append-drop (u * n) now)
    (in_joined (fronts u first h len n) (unit_contents u first h len n) (take (u * n) now) (drop (u * n) now)
    (in_fronts u first h len n (take (u * n) now) positive l (front_part u first h len n now positive front))
    (in_unit_contents u first h len n (drop (u * n) now) l (back_part u first h len n now positive front)))

fronts_once : (u : ℕ) (first : List ℕ) (h : History) (len n : ℕ) → 0 < u → IsLawful h
    → IsEachOnce (fronts u first h len n)
fronts_once u first h len zero positive l = (λ none. none, tt)
fronts_once u first h len (suc n) positive l =
    joined_once (min len (u * n)) (fronts u first h len n) (unit_contents u first h len n) (fronts_once u first h len n positive l)
    (contents_once h (u * n) (filter (is_on u n) (issued h)) (bytes_from first (u * n) (min u (len - u * n))))
    (λ b among. (of_fronts u first h len n b positive l among).long)

-- All units.

-- the units reach up to the length
pub reach : (u len : ℕ) → 0 < u → len ≤ u * units_in u len
reach u len positive = grind arith

record IsFile (u : ℕ) (first : List ℕ) (h : History) (len : ℕ) (now : List ℕ) : Type 0 where
  long : length now ≡ len
  front : IsFront u first h len (units_in u len) now

of_front : (u : ℕ) (first : List ℕ) (h : History) (len : ℕ) (now : List ℕ) → 0 < u → IsLawful h
    → IsIn now (fronts u first h len (units_in u len)) → IsFile u first h len now
of_front u first h len now positive l among = grind (arith, (of_fronts u first h len (units_in u len) now positive l among))

record IsOfLength (u : ℕ) (first : List ℕ) (h : History) (lens : List ℕ) (now : List ℕ) : Type 0 where
  len : ℕ
  among : IsIn len lens
  file : IsIn now (fronts u first h len (units_in u len))

of_files : (u : ℕ) (first : List ℕ) (h : History) (lens : List ℕ) (now : List ℕ)
    → IsIn now (files_of u first h lens) → IsOfLength u first h lens now
of_files u first h [] now among = absurd among
of_files u first h (len ∷ more) now among = elim (in_either now (fronts u first h len (units_in u len)) (files_of u first h more) among) [
  | inl here ↦ record { len = len; among = inl refl; file = here }
  | inr there ↦ grind (arith, (of_files u first h more now there))
]

in_files : (u : ℕ) (first : List ℕ) (h : History) (lens : List ℕ) (len : ℕ) (now : List ℕ)
    → IsIn len lens → IsIn now (fronts u first h len (units_in u len))
    → IsIn now (files_of u first h lens)
in_files u first h [] len now among file = absurd among
in_files u first h (m ∷ more) len now among file = grind (arith, in_left, in_right, (in_files u first h more len now))

files_once : (u : ℕ) (first : List ℕ) (h : History) (lens : List ℕ) → 0 < u → IsLawful h
    → IsEachOnce lens → IsEachOnce (files_of u first h lens)
files_once u first h [] positive l once = tt
files_once u first h (len ∷ more) positive l once =
    both_once (fronts u first h len (units_in u len)) (files_of u first h more) (fronts_once u first h len (units_in u len) positive l) (files_once u first h more positive l once.1)
    (λ now here there.
    let found = of_files u first h more now there in
    let one : length now ≡ len = (of_front u first h len now positive l here).long in
    let two : length now ≡ found.len = (of_front u first h found.len now positive l found.file).long in
    once.0 (subst (λ n. IsIn n more) (sym two ∙ one) found.among))

-- Images.

file_is_image : (u : ℕ) (first : List ℕ) (h : History) (len : ℕ) (now : List ℕ) → 0 < u → IsLawful h
    → IsLength h (length first) len → IsFile u first h len now → IsImage u first h now
file_is_image u first h len now positive l left file = record {
  units = λ i. elim (below_or_from i (units_in u len)) [
    | inl within ↦ file.front.units i within
    | inr past ↦ record {
      order = chosen h (filter (is_on u i) (issued h)) [];
      left = chosen_left h (is_on u i) [] l;
      bytes = grind (arith, mul_comm, div-lt_iff_lt-mul);
    }
  ];
  len = record {
    order = left.order;
    left = left_of_fit h (λ w. true) (issued h) left.order (λ w among. (of_issued h w among, refl)) (λ w among on. in_issued h w among) left.fits;
    len = file.long ∙ left.is;
  };
}

image_in_files : (u : ℕ) (first : List ℕ) (h : History) (now : List ℕ) → 0 < u → IsLawful h
    → IsImage u first h now → IsIn now (images_of u first h)
image_in_files u first h now positive l image =
    let fits = fit_of_left h (λ w. true) (issued h) image.len.order (λ w among. (of_issued h w among, refl)) (λ w among on. in_issued h w among) image.len.left in
    let known : IsIn (length now) (lengths_of h (length first)) = subst (λ n. IsIn n (lengths_of h (length first))) (sym image.len.len) (in_lengths h (length first) image.len.order l fits) in
    let long : length now ≡ min (length now) (u * units_in u (length now)) = omega (arith, reach u (length now) positive) in
    in_files u first h (lengths_of h (length first)) (length now) now known
    (in_fronts u first h (length now) (units_in u (length now)) now positive l (record { long = long; units = λ i below. image.units i }))

pub are_the_images : (u : ℕ) (first : List ℕ) (h : History) → 0 < u → IsLawful h
    → AreTheImages u first h (images_of u first h)
are_the_images u first h positive l = record {
  sound = λ now among.
      let found = of_files u first h (lengths_of h (length first)) now among in
      file_is_image u first h found.len now positive l (of_lengths h (length first) found.len l found.among) (of_front u first h found.len now positive l found.file);
  complete = λ now image. image_in_files u first h now positive l image;
  once = files_once u first h (lengths_of h (length first)) positive l (lengths_once h (length first));
}

-- how many there are

pub length_joined : (bs es : List (List ℕ)) → length (joined bs es) ≡ length bs * length es
length_joined [] es = sym (zero-mul (length es))
length_joined (b ∷ more) es = grind (arith, length-append, length-map, (length_joined more es))
