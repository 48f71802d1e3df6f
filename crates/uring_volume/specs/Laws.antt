-- What follows from the definition of an image.
use Rattle.std.specs.Prelude.{◌≡◌, ◌≢◌, ◌↔◌, ◌⊎◌, ℕ, ◌+◌, ◌*◌, ◌<◌, true, false, List, ◌∷◌, ◌++◌, length, slice_index}
use Rattle.uring_volume.specs.Writes.{Write}
use Rattle.uring_volume.specs.declared.event.Event.{Event}
use Rattle.uring_volume.specs.Events.{History, writes, has_ended, is_before, is_reached, is_safe}
use Rattle.uring_volume.specs.declared.event.Event.TheVariants.{WriteIssued, WriteFailed, SyncEnded, SyncFailed}
use Rattle.uring_volume.specs.Images.{IsIn, is_under, IsImage}
use Rattle.uring_volume.specs.Choices.{IsLawful, IsChosen}

-- A write that is to be found after each crash: it is safe, and each other write of a byte of it was done when it was issued.
pub record IsKept (h : History) (w : Write) : Type 0 where
  pub issued : IsIn w (writes h)
  pub safe : is_safe h w ≡ true
  pub last : (m : Write) (k : ℕ) → IsIn m (writes h) → m ≢ w → is_under w k ≡ true
      → is_under m k ≡ true → is_before h m.number w.number ≡ true

-- a byte of a write is read back
pub record IsReadBack (now : List ℕ) (w : Write) (k : ℕ) : Type 0 where
  pub within : w.off + k < length now
  pub byte : slice_index now (w.off + k) ≡ slice_index w.bytes k

-- a safe write that none has overlapped since is read back after each crash
abbrev pub SafeIsReadBack : Type 0
SafeIsReadBack = (u : ℕ) (first : List ℕ) (h : History) (now : List ℕ) (w : Write) (k : ℕ)
    → 0 < u → IsKept h w → IsImage u first h now → k < length w.bytes
    → IsReadBack now w k

-- the end of a sync adds no image: what may be found with it may be found without it, whatever happens later
abbrev pub SyncAddsNone : Type 0
SyncAddsNone = (u : ℕ) (first : List ℕ) (later earlier : History) (s : ℕ) (now : List ℕ)
    → IsImage u first (later ++ SyncEnded s ∷ earlier) now → IsImage u first (later ++ earlier) now

-- an event changes no image
abbrev pub ChangesNone : Event → Type 0
ChangesNone e = (u : ℕ) (first : List ℕ) (h : History) (now : List ℕ)
    → IsImage u first (e ∷ h) now ↔ IsImage u first h now

-- a write that a failed sync reaches, and that wasn't safe by then, never becomes safe
abbrev pub FailedIsNeverSafe : Type 0
FailedIsNeverSafe = (later earlier : History) (s : ℕ) (w : Write) → is_reached earlier s w ≡ true
    → is_safe earlier w ≡ false → is_safe (later ++ SyncFailed s ∷ earlier) w ≡ false

-- a write that has failed lies under each that is issued later
abbrev pub FailedLiesUnder : Type 0
FailedLiesUnder = (later earlier : History) (w : Write) (m : ℕ)
    → is_before (later ++ WriteIssued w ∷ WriteFailed m ∷ earlier) m w.number ≡ true

-- and a write that hasn't ended with success is never safe
abbrev pub UnendedIsNeverSafe : Type 0
UnendedIsNeverSafe = (h : History) (w : Write) → has_ended h w.number ≡ false → is_safe h w ≡ false

-- an image of units of u * c bytes is an image of units of u bytes
abbrev pub SmallerUnitsAllowIt : Type 0
SmallerUnitsAllowIt = (u c : ℕ) (first : List ℕ) (h : History) (now : List ℕ)
    → 0 < u → 0 < c → IsImage (u * c) first h now → IsImage u first h now

-- A file at rest: each write is safe, and of two that write the same byte one was done when the other was issued.
pub record IsAtRest (h : History) : Type 0 where
  pub safe : (w : Write) → IsIn w (writes h) → is_safe h w ≡ true
  pub ordered : (m w : Write) (k : ℕ) → IsIn m (writes h) → IsIn w (writes h) → m ≢ w
      → is_under m k ≡ true → is_under w k ≡ true
      → (is_before h m.number w.number ≡ true) ⊎ (is_before h w.number m.number ≡ true)

-- a file at rest has no two images
abbrev pub RestHasOneImage : Type 0
RestHasOneImage = (u : ℕ) (first : List ℕ) (h : History) (now other : List ℕ)
    → 0 < u → IsAtRest h → IsImage u first h now → IsImage u first h other
    → now ≡ other

-- whatever the choices are, an image is left
abbrev pub ChosenIsImage : Type 0
ChosenIsImage = (u : ℕ) (first : List ℕ) (h : History) (choices : ℕ → List ℕ) (whole now : List ℕ)
    → 0 < u → IsLawful h → IsChosen u first h choices whole now
    → IsImage u first h now

-- each image is left by some choices
abbrev pub ImageIsChosen : Type 0
ImageIsChosen = (u : ℕ) (first : List ℕ) (h : History) (now : List ℕ)
    → 0 < u → IsLawful h → IsImage u first h now
    → (choices : ℕ → List ℕ) × (whole : List ℕ) × IsChosen u first h choices whole now
