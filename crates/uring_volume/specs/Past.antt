-- What is kept of a file: the writes that aren't folded, each with how it stands, and the syncs that run. Our own structure.
use Rattle.std.specs.Prelude.{◌≡◌, ℕ, ◌+◌, ◌<◌, ◌≤◌, Bool, true, false, not, ◌&&◌, ◌||◌, ◌==◌, nat_le, nat_lt, List, [], ◌∷◌, ◌++◌, length, map, if◌then◌else◌}
use Rattle.uring_volume.specs.Writes.{Write}
use Rattle.uring_volume.specs.declared.event.Event.TheVariants.{WriteEnded}
use Rattle.uring_volume.specs.declared.kept.Kept.{Kept}
use Rattle.uring_volume.specs.declared.kept.Running.{Running}
use Rattle.uring_volume.specs.Events.{History, writes, has_ended, is_done, is_before, goes_along, lies_in, meets, is_covered, is_reached, is_given_up, is_safe}
use Rattle.uring_volume.specs.Images.{IsIn}
use Rattle.uring_volume.specs.Choices.{IsLawful, issued}
use Rattle.std.specs.List.{list_any}
use Rattle.uring_volume.specs.Folds.{overlap}
use Rattle.uring_volume.specs.Ways.{Way}
use Rattle.uring_volume.specs.Volume.{IsNumbered, running_writes, running_syncs}

-- whether a write that is kept was done when this number was given
abbrev pub was_done : Kept → ℕ → Bool
was_done k n = nat_lt 0 k.end_next && nat_le k.end_next n

-- and whether it had ended with success
abbrev pub had_ended : Kept → ℕ → Bool
had_ended k n = was_done k n && not k.has_failed

-- a write that is kept, after the end of write n, and whether that has failed
abbrev pub ended_at : ℕ → ℕ → Bool → Kept → Kept
ended_at n next failed k =
    if k.piece.number == n then record k { end_next = next; has_failed = failed } else k

-- and after the end of a sync, with success and with an error
abbrev pub settled : Running → Kept → Kept
settled s k = record k {
  safe_yet = had_ended k s.number && lies_in s.range k.piece && not k.failed_yet || k.safe_yet;
}

abbrev pub given_up_by : Running → Kept → Kept
given_up_by s k = record k {
  failed_yet = had_ended k s.number && meets s.range k.piece || k.failed_yet;
}

-- How a write that is kept stands is what its history says of it.
pub record Stands (h : History) (next : ℕ) (k : Kept) : Type 0 where
  pub done : is_done h k.piece.number ≡ nat_lt 0 k.end_next
  pub ended : has_ended h k.piece.number ≡ (nat_lt 0 k.end_next && not k.has_failed)
  pub bound : k.end_next ≤ next
  pub before : (w : Write) → IsIn w (writes h) → is_before h k.piece.number w.number ≡ was_done k w.number
  pub along : (w : Write) → IsIn w (writes h) → goes_along h k.piece.number w.number ≡ had_ended k w.number
  pub given_up : is_given_up h k.piece ≡ k.failed_yet
  pub safe : is_safe h k.piece ≡ k.safe_yet

-- These are the writes of a history, the oldest first, and each stands as it says.
pub record AreTheWrites (h : History) (next : ℕ) (kept : List Kept) : Type 0 where
  pub pieces : map (λ k. k.piece) kept ≡ issued h
  pub stand : (k : Kept) → IsIn k kept → Stands h next k

-- Which of the writes that are kept a sync that runs covers and reaches.
pub record Touches (h : History) (k : Kept) (s : Running) : Type 0 where
  pub covered : is_covered h s.number k.piece ≡ (had_ended k s.number && lies_in s.range k.piece)
  pub reached : is_reached h s.number k.piece ≡ (had_ended k s.number && meets s.range k.piece)

-- What has happened to a file, and what is kept of it.
pub record Past : Type 0 where
  pub history : History
  pub next : ℕ
  pub kept : List Kept
  pub write_list : List ℕ
  pub syncs : List Running
  -- the writes that have ended, in the order of their ends
  pub ends : List ℕ

-- the numbers of the writes that have ended, in the order of their ends
abbrev pub end_list : History → List ℕ
end_list [] = []
end_list (WriteEnded n ∷ earlier) = end_list earlier ++ n ∷ []
end_list (_ ∷ earlier) = end_list earlier

-- the numbers of these ascend
abbrev pub IsAscending : List Kept → Type 0
IsAscending [] = Unit {0}
IsAscending (k ∷ more) = ((m : Kept) → IsIn m more → k.piece.number < m.piece.number) × IsAscending more

pub record IsPast (p : Past) : Type 0 where
  pub lawful : IsLawful p.history
  pub numbered : IsNumbered p.next p.history
  pub pieces : map (λ k. k.piece) p.kept ≡ issued p.history
  pub stands : (k : Kept) → IsIn k p.kept → Stands p.history p.next k
  pub touches : (k : Kept) (s : Running) → IsIn k p.kept → IsIn s p.syncs → Touches p.history k s
  pub writes_run : p.write_list ≡ running_writes p.history
  pub syncs_run : map (λ s. s.number) p.syncs ≡ running_syncs p.history
  pub few : (s : Running) → IsIn s p.syncs → s.number < p.next
  pub ascending : IsAscending p.kept
  pub ends_are : p.ends ≡ end_list p.history
  pub known : (n : ℕ) → is_done p.history n ≡ true → (w : Write) × IsIn w (writes p.history) × (w.number ≡ n)
  pub uncovered : (s : ℕ) (w : Write) → p.next ≤ s → is_covered p.history s w ≡ false
  pub unreached : (s : ℕ) (w : Write) → p.next ≤ s → is_reached p.history s w ≡ false

-- whether one write that is kept keeps another from being folded, and whether it can be folded, as they stand
abbrev pub stands_in_way : Kept → Kept → Bool
stands_in_way k m =
    had_ended m k.piece.number && not m.safe_yet
    || (not (m.piece.number == k.piece.number) && (overlap m.piece k.piece && not (was_done k m.piece.number)))

abbrev pub can_be_folded : List Kept → Kept → Bool
can_be_folded all k = k.safe_yet && not (list_any (λ m. stands_in_way k m) all)

-- whether one write that is kept is safe and lies over another that is before it, and whether one that isn't can be let go, as they stand
abbrev pub stands_over : Kept → Kept → Bool
stands_over k m =
    m.safe_yet
    && (was_done k m.piece.number && (nat_le m.piece.off k.piece.off && nat_le (k.piece.off + length k.piece.bytes) (m.piece.off + length m.piece.bytes)))

abbrev pub can_be_let_go : List Kept → Kept → Bool
can_be_let_go all k = not k.safe_yet && list_any (λ m. stands_over k m) all

-- Each of these writes was issued.
pub record AreIssued (h : History) (ws : List Write) : Type 0 where
  pub each : (w : Write) → IsIn w ws → IsIn w (issued h)

-- and each write that may still come on these ways
pub record AreWaysIssued (h : History) (ways : List Way) : Type 0 where
  pub each : (s : Way) → IsIn s ways → AreIssued h s.rest
