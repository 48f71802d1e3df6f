-- How the images are found. For each unit: after so many of its writes, which of them are left to come and what the others have made of the unit, each such way once. Then the units side by side, for each length. Our own structure.
use Rattle.std.specs.Prelude.{ℕ, zero, suc, ◌+◌, ◌-◌, ◌*◌, ◌/◌, min, Bool, ◌&&◌, ◌||◌, ◌==◌, nat_eq, List, [], ◌∷◌, ◌++◌, length, map, slice_index, if◌then◌else◌}
use Rattle.std.specs.List.{list_any, filter}
use Rattle.std.specs.Cmp.Lexicographic.{pointwise}
use Rattle.uring_volume.specs.Writes.{Write}
use Rattle.uring_volume.specs.Events.{History, goes_along, is_safe}
use Rattle.uring_volume.specs.Images.{is_on, byte_over, length_over}
use Rattle.uring_volume.specs.Choices.{issued, waits_for_one, has_safe, after}

-- some writes have been left, in some order
pub record Way : Type 0 where
  -- those that may still come
  pub rest : List Write
  -- what the others have made of the bytes
  pub now : List ℕ

abbrev pub way : List Write → List ℕ → Way
way rest now = record { rest = rest; now = now }

abbrev pub same_write : Write → Write → Bool
same_write v w = v.number == w.number && (v.off == w.off && pointwise nat_eq v.bytes w.bytes)

abbrev pub same_way : Way → Way → Bool
same_way s t = pointwise nat_eq s.now t.now && pointwise same_write s.rest t.rest

-- x after these, if it isn't one of them
abbrev pub put_by : {X : Type 0} → (X → X → Bool) → List X → X → List X
put_by same xs x = if list_any (λ y. same y x) xs then xs else xs ++ x ∷ []

-- the bytes from offset k on, with a write over them
abbrev pub bytes_over : ℕ → List ℕ → Write → List ℕ
bytes_over k [] w = []
bytes_over k (b ∷ bs) w = byte_over b (w ∷ []) k ∷ bytes_over (suc k) bs w

abbrev pub stepped : History → ℕ → Way → Write → Way
stepped h k s w = way (after h w.number s.rest) (bytes_over k s.now w)

-- the ways on from one, by each of these writes that may come next
abbrev pub steps_of : History → ℕ → Way → List Write → List Way → List Way
steps_of h k s [] next = next
steps_of h k s (w ∷ more) next =
    steps_of h k s more (if waits_for_one h s.rest w.number then next else put_by same_way next (stepped h k s w))

-- the ways on from each of these
abbrev pub next_ways : History → ℕ → List Way → List Way → List Way
next_ways h k [] next = next
next_ways h k (s ∷ more) next = next_ways h k more (steps_of h k s s.rest next)

-- the bytes of those ways on which no safe write is still to come
abbrev pub found_at : History → List Way → List (List ℕ) → List (List ℕ)
found_at h [] found = found
found_at h (s ∷ more) found =
    found_at h more (if has_safe h s.rest then found else put_by (pointwise nat_eq) found s.now)

-- the bytes that these ways lead to, each once, if no way has n writes to come
abbrev pub found_by : ℕ → History → ℕ → List Way → List (List ℕ) → List (List ℕ)
found_by zero h k ways found = found
found_by (suc n) h k ways found = found_by n h k (next_ways h k ways []) (found_at h ways found)

-- what may be left of some bytes from offset k on, by these writes of them
abbrev pub contents_of : History → ℕ → List Write → List ℕ → List (List ℕ)
contents_of h k rest bytes = found_by (suc (length rest)) h k (way rest bytes ∷ []) []

-- n bytes of a file from offset k on, with zeros past its end
abbrev pub bytes_from : List ℕ → ℕ → ℕ → List ℕ
bytes_from first k zero = []
bytes_from first k (suc n) = slice_index first k ∷ bytes_from first (suc k) n

-- what may be left of unit i, if the file has this length
abbrev pub unit_contents : ℕ → List ℕ → History → ℕ → ℕ → List (List ℕ)
unit_contents u first h len i =
    contents_of h (u * i) (filter (is_on u i) (issued h)) (bytes_from first (u * i) (min u (len - u * i)))

-- each of these with each of those after it
abbrev pub joined : List (List ℕ) → List (List ℕ) → List (List ℕ)
joined [] ends = []
joined (b ∷ more) ends = map (λ e. b ++ e) ends ++ joined more ends

-- what may be left of the first n units, if the file has this length
abbrev pub fronts : ℕ → List ℕ → History → ℕ → ℕ → List (List ℕ)
fronts u first h len zero = [] ∷ []
fronts u first h len (suc n) = joined (fronts u first h len n) (unit_contents u first h len n)

-- whether write m is to be left if write n is
abbrev pub goes_with : History → ℕ → Write → Bool
goes_with h n m = m.number == n || goes_along h m.number n

-- whether write m is to be left because one of these is safe
abbrev pub is_needed : History → List Write → Write → Bool
is_needed h all m = list_any (λ s. is_safe h s && goes_with h s.number m) all

-- of these writes the fewest that may be left, and the fewest that may be left with write n
abbrev pub fewest : History → List Write → List Write
fewest h all = filter (λ m. is_needed h all m) all

abbrev pub fewest_with : History → List Write → ℕ → List Write
fewest_with h all n = filter (λ m. goes_with h n m || is_needed h all m) all

-- the lengths that some of these writes make, each once
abbrev pub lengths_by : History → List Write → ℕ → List Write → List ℕ → List ℕ
lengths_by h all len [] found = found
lengths_by h all len (w ∷ more) found =
    lengths_by h all len more (put_by nat_eq found (length_over len (fewest_with h all w.number)))

abbrev pub lengths_of : History → ℕ → List ℕ
lengths_of h len =
    lengths_by h (issued h) len (issued h) (length_over len (fewest h (issued h)) ∷ [])

-- how many units a file has
abbrev pub units_in : ℕ → ℕ → ℕ
units_in u len = if len == 0 then 0 else (len - 1) / u + 1

-- the files of each of these lengths
abbrev pub files_of : ℕ → List ℕ → History → List ℕ → List (List ℕ)
files_of u first h [] = []
files_of u first h (len ∷ more) =
    fronts u first h len (units_in u len) ++ files_of u first h more

-- the images of a file, each once
abbrev pub images_of : ℕ → List ℕ → History → List (List ℕ)
images_of u first h = files_of u first h (lengths_of h (length first))
