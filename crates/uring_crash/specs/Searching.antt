-- What a search for an image without some bytes finds. Our own rule.
use Rattle.std.specs.Prelude.{ℕ, ◌<◌, List, [], length}
use Rattle.uring_volume.specs.Events.{History}
use Rattle.uring_volume.specs.Images.{IsImage}
use Rattle.uring_volume.specs.Listing.{AreTheImages}
use Rattle.uring_crash.specs.Keeping.{Holds}
use Rattle.uring_crash.specs.declared.search.ImageFound.{ImageFound}
use Rattle.uring_crash.specs.declared.search.ImageFound.TheVariants.{Nowhere, Without, TooMany}

-- these bytes are an image that hasn't some bytes at an offset
abbrev pub IsWithout : (off : ℕ) (bytes : List ℕ) (u : ℕ) → History → List ℕ → Type 0
IsWithout off bytes u h image = IsImage u [] h image × (Holds off bytes image → ⊥)

-- there are more images than so many
abbrev pub AreMore : (most u : ℕ) → History → Type 0
AreMore most u h = (all : List (List ℕ)) × AreTheImages u [] h all × (most < length all)

-- what was found is so: each image has the bytes, or one is found that hasn't, or there are more than so many
abbrev pub IsFound : (off : ℕ) (bytes : List ℕ) (most u : ℕ) → History → ImageFound → Type 0
IsFound off bytes most u h Nowhere = (now : List ℕ) → IsImage u [] h now → Holds off bytes now
IsFound off bytes most u h (Without image) = IsWithout off bytes u h image.items
IsFound off bytes most u h TooMany = AreMore most u h
