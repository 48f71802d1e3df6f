-- The laws of what a ring looks out for.
use Rattle.std.proofs.Common.{◌≡◌, ◌≤◌, ℕ, ◌+◌, Bool, true, false, not, ◌&&◌, ◌||◌, List, [], ◌∷◌, ◌++◌, if◌then◌else◌, refl, arith}
use Rattle.std.proofs.lemmas.Bool.{true≢false}
use Rattle.uring_enter.specs.Waiting.Lookouts.{Happening, Found, Started, Left, Touched, Updated, Waited, Moved, Told, Heard, Opened, Ended, Changed, Woke, makes_ready, moments, has_moved, has_changed, EndLetsNone, LooksAfresh, WakesForEach, TakesItsOwn}
use Rattle.uring_enter.proofs.Counts.{grows}

no_less : (newer earlier : List Happening) → moments earlier ≤ moments (newer ++ earlier)
no_less [] earlier = omega arith
no_less (h ∷ newer) earlier = grows (moments earlier) (moments (newer ++ earlier)) (makes_ready h) (no_less newer earlier)

-- a count that hasn't risen counted nothing
none_counted : (b k : Bool) (n c : ℕ) → c ≤ n → (n ≡ c → k ≡ false) → (if b then n + 1 else n) ≡ c → (b || k) ≡ false
none_counted b k n c le rest same = grind arith

pub looks_afresh : LooksAfresh
looks_afresh [] earlier same = refl
looks_afresh (h ∷ newer) earlier same = none_counted (makes_ready h) (has_moved newer) (moments (newer ++ earlier)) (moments earlier) (no_less newer earlier) (looks_afresh newer earlier) same

-- what is told of a descriptor is the same, a buffer that was found is found still, and a completion may be posted that might before
rest : (g s selects mp lp bf mb af lb mr lr : Bool) → (lp ≡ true → mp ≡ true) → (bf || mb ≡ true → af || lb ≡ true) → lr ≡ mr
    → (if g && not mp then false else if s then (selects && not bf && not mb || mr) else true) ≡ false
    → (if g && not lp then false else if s then (selects && not af && not lb || lr) else true) ≡ false
rest g s selects mp lp bf mb af lb mr lr posts buffer ready is = grind arith

pub end_lets_none : EndLetsNone
end_lets_none log drainages staged linux has_memory is_draining end had_to_wait has_to_wait before after n is_cancelled m l is lets waits =
    grind arith

one_changes : (earlier : List Happening) (one : Happening) → has_changed (one ∷ []) ≡ true → has_changed (one ∷ earlier) ≡ true
one_changes earlier one is = grind arith

pub wakes_for_each : WakesForEach
wakes_for_each [] earlier one is none = one_changes earlier one is
wakes_for_each (Found _ ∷ newer) earlier one is none = wakes_for_each newer earlier one is none
wakes_for_each (Started _ ∷ newer) earlier one is none = wakes_for_each newer earlier one is none
wakes_for_each (Left _ ∷ newer) earlier one is none = wakes_for_each newer earlier one is none
wakes_for_each (Touched _ ∷ newer) earlier one is none = wakes_for_each newer earlier one is none
wakes_for_each (Updated _ _ ∷ newer) earlier one is none = wakes_for_each newer earlier one is none
wakes_for_each (Waited ∷ newer) earlier one is none = wakes_for_each newer earlier one is none
wakes_for_each (Moved ∷ newer) earlier one is none = wakes_for_each newer earlier one is none
wakes_for_each (Told ∷ newer) earlier one is none = refl
wakes_for_each (Heard ∷ newer) earlier one is none = wakes_for_each newer earlier one is none
wakes_for_each (Opened ∷ newer) earlier one is none = wakes_for_each newer earlier one is none
wakes_for_each (Ended _ ∷ newer) earlier one is none = refl
wakes_for_each (Changed ∷ newer) earlier one is none = refl
wakes_for_each (Woke ∷ newer) earlier one is none = absurd (true≢false none)

pub takes_its_own : TakesItsOwn
takes_its_own [] earlier none = refl
takes_its_own (Found _ ∷ newer) earlier none = takes_its_own newer earlier none
takes_its_own (Started _ ∷ newer) earlier none = takes_its_own newer earlier none
takes_its_own (Left _ ∷ newer) earlier none = takes_its_own newer earlier none
takes_its_own (Touched _ ∷ newer) earlier none = takes_its_own newer earlier none
takes_its_own (Updated _ _ ∷ newer) earlier none = takes_its_own newer earlier none
takes_its_own (Waited ∷ newer) earlier none = takes_its_own newer earlier none
takes_its_own (Moved ∷ newer) earlier none = refl
takes_its_own (Told ∷ newer) earlier none = takes_its_own newer earlier none
takes_its_own (Heard ∷ newer) earlier none = absurd (true≢false none)
takes_its_own (Opened ∷ newer) earlier none = takes_its_own newer earlier none
takes_its_own (Ended _ ∷ newer) earlier none = takes_its_own newer earlier none
takes_its_own (Changed ∷ newer) earlier none = takes_its_own newer earlier none
takes_its_own (Woke ∷ newer) earlier none = takes_its_own newer earlier none
