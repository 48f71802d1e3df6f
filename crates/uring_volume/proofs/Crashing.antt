-- What a crash of a sound volume leaves.
use Rattle.std.proofs.Common.{◌≡◌, ◌↔◌, ◌<◌, ℕ, suc, min, List, length, sym, subst, arith}
use Rattle.uring_volume.proofs.Common.{AreBelow, AreTheImages, History, IsImage, IsKept, IsLeftBy, IsReadBack, IsSound, Volume, Write, images_of, part}
use Rattle.uring_volume.proofs.ReadBack.{read_back}
use Rattle.uring_volume.proofs.Chosen.{chosen_is_image}
use Rattle.uring_volume.proofs.Flat.{left_once, image_has_choice}
use Rattle.uring_volume.proofs.Files.{are_the_images}

-- an image of a volume's fields, as one of the volume
pub left_seen : (inside v : Volume) (first : List ℕ) (past : History) (choice now : List ℕ)
    → inside ≡ v → first ≡ inside.first → inside.history ≡ past
    → IsLeftBy inside.unit first past choice now
    → IsLeftBy v.unit v.first v.history choice now
left_seen inside v first past choice now same bytes is left = grind arith

pub left_is_image : (v : Volume) (choice now : List ℕ) → IsSound v
    → IsLeftBy v.unit v.first v.history choice now → IsImage v.unit v.first v.history now
left_is_image v choice now sound left =
    chosen_is_image v.unit v.first v.history (λ i. part choice (suc i)) (part choice 0) now sound.unit sound.lawful left

pub left_alone : (v : Volume) (choice now : List ℕ) → IsLeftBy v.unit v.first v.history choice now
    → (other : List ℕ) → IsLeftBy v.unit v.first v.history choice other ↔ (other ≡ now)
left_alone v choice now left other = (
  λ also. left_once v.unit v.first v.history choice other now also left,
  λ same. subst (λ bytes. IsLeftBy v.unit v.first v.history choice bytes) (sym same) left,
)

pub left_keeps : (v : Volume) (choice now : List ℕ) → IsSound v
    → IsLeftBy v.unit v.first v.history choice now
    → (w : Write) (k : ℕ) → IsKept v.history w → k < length w.bytes → IsReadBack now w k
left_keeps v choice now sound left w k kept within =
    read_back v.unit v.first v.history now w k sound.unit kept (left_is_image v choice now sound left) within

pub each_is_left : (v : Volume) (bound : ℕ) → IsSound v → v.next < bound → (now : List ℕ)
    → IsImage v.unit v.first v.history now
    → (other : List ℕ) × AreBelow bound other × IsLeftBy v.unit v.first v.history other now
each_is_left v bound sound small now image =
    image_has_choice v.unit bound v.first v.history now (omega arith)
    (record { positive = sound.numbered.positive; below = λ w among. omega (arith, sound.numbered.issued w among) })
    sound.lawful image

-- the list of a volume's fields, as one of the volume
pub listed_seen : (inside v : Volume) (first : List ℕ) (past : History)
    (images : List (List ℕ)) → inside ≡ v → first ≡ inside.first
    → inside.history ≡ past → images ≡ images_of inside.unit first past
    → images ≡ images_of v.unit v.first v.history
listed_seen inside v first past images same bytes turned is = grind arith

pub listed : (v : Volume) (images : List (List ℕ)) → IsSound v
    → images ≡ images_of v.unit v.first v.history → AreTheImages v.unit v.first v.history images
listed v images sound is = grind (arith, are_the_images)

-- how many images a volume has, counted by its fields
pub counted : (inside v : Volume) (first : List ℕ) (past : History) (n most : ℕ)
    → IsSound v → inside ≡ v → first ≡ inside.first
    → inside.history ≡ past
    → n ≡ min (length (images_of inside.unit first past)) most
    → (all : List (List ℕ)) × AreTheImages v.unit v.first v.history all × (n ≡ min (length all) most)
counted inside v first past n most sound same bytes turned is = grind (arith, are_the_images, min)
