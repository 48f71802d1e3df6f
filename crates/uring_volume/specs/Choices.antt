-- How a choice of numbers leaves an image: for each unit, and for the length, it names the writes that are left, one after the other. Our own structure.
use Rattle.std.specs.Prelude.{◌≡◌, ℕ, zero, suc, ◌<◌, ◌/◌, Bool, false, not, ◌&&◌, ◌==◌, List, [], ◌∷◌, ◌++◌, length, slice_index, if◌then◌else◌}
use Rattle.std.specs.List.{list_any, filter}
use Rattle.uring_volume.specs.Writes.{Write}
use Rattle.uring_volume.specs.declared.event.Event.TheVariants.{WriteIssued, WriteEnded, WriteFailed}
use Rattle.uring_volume.specs.Events.{History, writes, is_done, is_before, goes_along, is_safe}
use Rattle.uring_volume.specs.Images.{IsIn, is_on, byte_over, length_over}

-- No write is issued under a number that another had, or that is done, and none is done twice.
abbrev pub IsLawful : History → Type 0
IsLawful [] = Unit {0}
IsLawful (WriteIssued w ∷ earlier) =
    ((v : Write) → IsIn v (writes earlier) → v.number ≡ w.number → ⊥)
    × (is_done earlier w.number ≡ false)
    × IsLawful earlier
IsLawful (WriteEnded n ∷ earlier) = (is_done earlier n ≡ false) × IsLawful earlier
IsLawful (WriteFailed n ∷ earlier) = (is_done earlier n ≡ false) × IsLawful earlier
IsLawful (_ ∷ earlier) = IsLawful earlier

-- the writes that were issued, the oldest first
abbrev pub issued : History → List Write
issued [] = []
issued (WriteIssued w ∷ earlier) = issued earlier ++ w ∷ []
issued (_ ∷ earlier) = issued earlier

-- whether one of these writes goes along with write n
abbrev pub waits_for_one : History → List Write → ℕ → Bool
waits_for_one h rest n = list_any (λ m. goes_along h m.number n) rest

-- whether one of these writes is safe
abbrev pub has_safe : History → List Write → Bool
has_safe h rest = list_any (λ w. is_safe h w) rest

-- these writes up to the last safe one
abbrev pub up_to_safe : History → List Write → List Write
up_to_safe h [] = []
up_to_safe h (w ∷ later) = if has_safe h (w ∷ later) then w ∷ up_to_safe h later else []

-- of these writes the one of number n, and the others
abbrev pub named : ℕ → List Write → List Write
named n rest = filter (λ w. w.number == n) rest

-- whether write n may come next of these: it is there, and waits for none of them
abbrev pub may_come : History → List Write → ℕ → Bool
may_come h rest n = list_any (λ w. w.number == n) rest && not (waits_for_one h rest n)

-- whether a write may still come after write n: it is another, and not before it
abbrev pub may_follow : History → ℕ → Write → Bool
may_follow h n w = not (w.number == n) && not (is_before h w.number n)

-- of these writes the ones that may still come after write n: what has failed before it is lost if it hasn't come
abbrev pub after : History → ℕ → List Write → List Write
after h n rest = filter (λ w. may_follow h n w) rest

-- The writes that a choice leaves of these: that of each number in turn, if it may come next; a number that names no such write is passed over. Then follow, of those that may still come, the ones up to the last safe one.
abbrev pub chosen : History → List Write → List ℕ → List Write
chosen h rest [] = up_to_safe h rest
chosen h rest (n ∷ more) =
    if may_come h rest n then named n rest ++ chosen h (after h n rest) more
    else chosen h rest more

-- The image that choices leave: one for each unit, and one for the length.
pub record IsChosen (u : ℕ) (first : List ℕ) (h : History) (choices : ℕ → List ℕ) (whole : List ℕ) (now : List ℕ) : Type 0 where
  pub len : length now ≡ length_over (length first) (chosen h (issued h) whole)
  pub bytes : (k : ℕ) → k < length now
      → slice_index now k
      ≡ byte_over (slice_index first k) (chosen h (filter (is_on u (k / u)) (issued h)) (choices (k / u))) k

-- Part i of a choice, which is a list of numbers: a 0 ends a part, and one that is missing is empty.
abbrev pub part : List ℕ → ℕ → List ℕ
part [] i = []
part (n ∷ later) zero = if n == 0 then [] else n ∷ part later zero
part (n ∷ later) (suc i) = if n == 0 then part later i else part later (suc i)

-- The image that a choice leaves: its first part chooses for the length, and each later one for a unit, in their order.
abbrev pub IsLeftBy : (u : ℕ) (first : List ℕ) (h : History) (choice now : List ℕ) → Type 0
IsLeftBy u first h choice now =
    IsChosen u first h (λ i. part choice (suc i)) (part choice 0) now

-- all of these numbers are below a bound
abbrev pub AreBelow : ℕ → List ℕ → Type 0
AreBelow bound numbers = (n : ℕ) → IsIn n numbers → n < bound
