-- Histories of one class: `reordered_alike`, by one pair of events after the other.
use Rattle.std.proofs.Common.{◌∷◌, ◌++◌, arith}
use Rattle.uring_laws.proofs.Common.{ReorderedAlike, Setup, swapped, unchanged}
use Rattle.uring_laws.proofs.Alike.{change_anywhere}

pub reordered_alike : (g : Setup) → ReorderedAlike g
reordered_alike g h k (unchanged _) lawful = grind arith
reordered_alike g h k (swapped rest before _ x y change later) lawful =
    let one = change_anywhere g rest before x y change lawful in
    let two = reordered_alike g (rest ++ (x ∷ y ∷ before)) k later one.lawful in
    grind (arith, one, two)
