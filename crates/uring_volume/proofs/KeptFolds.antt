-- What a fold makes of the volume and of its images.
use Rattle.std.proofs.Common.{◌≡◌, ℕ, ◌<◌, ◌≤◌, List, [], length, map, min, sym, subst, ap, ◌∙◌}
use Rattle.uring_volume.proofs.Common.{AreTheImages, IsFoldedFrom, IsSound, IsFoldable, History, IsHeld, IsLawful, Volume, Write, issued, running_syncs, running_writes}
use Rattle.uring_volume.specs.Volume.{IsNumbered}
use Rattle.uring_volume.specs.Past.{IsPast, Past}
use Rattle.uring_volume.specs.Folds.{IsUnderSafe}
use Rattle.uring_volume.proofs.Chosen.{in_issued}
use Rattle.uring_volume.proofs.KeptLists.{none_in_none}

pub held_volume : (v : Volume) (p : Past) → IsPast p → 0 < v.unit → v.history ≡ p.history → v.next ≡ p.next
    → IsHeld v p.write_list (map (λ s. s.number) p.syncs)
held_volume v p is unit past number = record {
  sound = record {
    unit = unit;
    lawful = subst (λ h. IsLawful h) (sym past) is.lawful;
    numbered = subst (λ n. IsNumbered n v.history) (sym number) (subst (λ h. IsNumbered p.next h) (sym past) is.numbered);
  };
  writes = is.writes_run ∙ ap running_writes (sym past);
  syncs = is.syncs_run ∙ ap running_syncs (sym past);
}

pub none_foldable : (h : History) (w : Write) → length (issued h) ≤ 0 → IsFoldable h w → ⊥
none_foldable h w short f = none_in_none w (issued h) short (in_issued h w f.issued)

pub none_under : (h : History) (w : Write) → length (issued h) ≤ 0 → IsUnderSafe h w → ⊥
none_under h w short s = none_in_none w (issued h) short (in_issued h w s.issued)

-- The images of a volume are those of one that it is folded to.
pub images_folded : (old new : Volume) (all : List (List ℕ)) → IsSound old → IsFoldedFrom old new
    → AreTheImages new.unit new.first new.history all → AreTheImages old.unit old.first old.history all
images_folded old new all sound f are = record {
  sound = λ now among. (f.images [] now sound.lawful).1 (are.sound now among);
  complete = λ now image. are.complete now ((f.images [] now sound.lawful).0 image);
  once = are.once;
}

-- and so is how many there are
pub count_folded : (old new : Volume) (n most : ℕ) → IsSound old → IsFoldedFrom old new
    → (all : List (List ℕ)) × AreTheImages new.unit new.first new.history all × (n ≡ min (length all) most)
    → (all : List (List ℕ)) × AreTheImages old.unit old.first old.history all × (n ≡ min (length all) most)
count_folded old new n most sound f (all, are, many) = (all, images_folded old new all sound f are, many)

pub more_folded : (old new : Volume) (most : ℕ) → IsSound old → IsFoldedFrom old new
    → (all : List (List ℕ)) × AreTheImages new.unit new.first new.history all × (most < length all)
    → (all : List (List ℕ)) × AreTheImages old.unit old.first old.history all × (most < length all)
more_folded old new most sound f (all, are, many) = (all, images_folded old new all sound f are, many)
