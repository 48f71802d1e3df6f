-- What a volume's calls keep: each write has a number of its own, and the lists of what runs are those of the history.
use Rattle.std.proofs.Common.{◌≡◌, ◌<◌, ◌≤◌, ℕ, Bool, true, ◌||◌, false, List, [], ◌∷◌, ◌++◌, ◌⊎◌, length, ap, refl, subst, arith}
use Rattle.uring_volume.proofs.Common.{History, IsHeld, IsLawful, SyncEnded, SyncFailed, Volume, WriteEnded, WriteFailed, WriteIssued, both_ways, but, cond-true, false_from_ne_true, is_done, is_one_of, list_any-append, running_writes, with_event, with_sync, with_write}
use Rattle.uring_volume.specs.declared.event.SyncRange.{SyncRange}

pub or_either : (x y : Bool) → (x || y) ≡ true → (x ≡ true) ⊎ (y ≡ true)
or_either x y is = grind arith

-- Lists of numbers.

pub is_in_but : (n m : ℕ) (ns : List ℕ) → is_one_of m (but n ns) ≡ true → is_one_of m ns ≡ true
is_in_but n m [] is = is
is_in_but n m (k ∷ ns) is = grind (arith, (is_in_but n m ns))

but_is_short : (n : ℕ) (ns : List ℕ) → length (but n ns) ≤ length ns
but_is_short n [] = omega arith
but_is_short n (k ∷ ns) = grind (arith, (but_is_short n ns), cond-true)

-- a list without one of its numbers is shorter
pub but_is_shorter : (n : ℕ) (ns : List ℕ) → is_one_of n ns ≡ true → length (but n ns) < length ns
but_is_shorter n [] is = absurd (cc is)
but_is_shorter n (k ∷ ns) is = grind (arith, but_is_short, (but_is_shorter n ns), or_either)

pub one_more : (n m : ℕ) (ns : List ℕ) → is_one_of m (ns ++ n ∷ []) ≡ true
    → (is_one_of m ns ≡ true) ⊎ (m ≡ n)
one_more n m ns is = grind (arith, or_either, list_any-append)

out_of_but : (n : ℕ) (ns : List ℕ) → is_one_of n (but n ns) ≡ false
out_of_but n [] = refl
out_of_but n (m ∷ ns) = grind (arith, (out_of_but n ns))

-- what runs isn't done
pub runs_still : (h : History) (n : ℕ) → IsLawful h → is_one_of n (running_writes h) ≡ true
    → is_done h n ≡ false
runs_still [] n l is = refl
runs_still (WriteIssued w ∷ earlier) n l is = grind (arith, one_more, (runs_still earlier n l.2))
runs_still (WriteEnded k ∷ earlier) n l is =
    grind (arith, both_ways, out_of_but, (runs_still earlier n l.1 (is_in_but k n (running_writes earlier) is)), is_in_but)
runs_still (WriteFailed k ∷ earlier) n l is =
    grind (arith, both_ways, out_of_but, (runs_still earlier n l.1 (is_in_but k n (running_writes earlier) is)), is_in_but)
runs_still (e ∷ earlier) n l is = runs_still earlier n l is

-- Each event.

pub held_write : (v : Volume) (off : ℕ) (bytes write_list sync_list : List ℕ)
    → IsHeld v write_list sync_list
    → IsHeld (with_write off bytes v) (write_list ++ v.next ∷ []) sync_list
held_write v off bytes write_list sync_list held =
    let numbered = held.sound.numbered in
    record {
      sound = record {
        unit = held.sound.unit;
        lawful = (
          λ w among same. let below : w.number < v.next = numbered.issued w among in absurd (omega arith),
          false_from_ne_true (is_done v.history v.next) (λ is. let below : v.next < v.next = numbered.done v.next is in omega arith),
          held.sound.lawful,
        );
        numbered = record {
          some = omega arith;
          positive = λ w among. grind (arith, (numbered.positive w));
          issued = λ w among. grind (arith, (numbered.issued w));
          done = λ n is. omega (arith, numbered.done n is);
          running = grind (arith, one_more);
        };
      };
      writes = ap (λ ns. ns ++ v.next ∷ []) held.writes;
      syncs = held.syncs;
    }

pub held_sync : (v : Volume) (range : SyncRange) (write_list sync_list : List ℕ)
    → IsHeld v write_list sync_list → IsHeld (with_sync range v) write_list (sync_list ++ v.next ∷ [])
held_sync v range write_list sync_list held =
    let numbered = held.sound.numbered in
    record {
      sound = record {
        unit = held.sound.unit;
        lawful = held.sound.lawful;
        numbered = record {
          some = omega arith;
          positive = numbered.positive;
          issued = λ w among. omega (arith, numbered.issued w among);
          done = λ n is. omega (arith, numbered.done n is);
          running = λ n is. omega (arith, numbered.running n is);
        };
      };
      writes = held.writes;
      syncs = ap (λ ns. ns ++ v.next ∷ []) held.syncs;
    }

pub held_write_end : (v : Volume) (n : ℕ) (write_list sync_list : List ℕ)
    → IsHeld v write_list sync_list → is_one_of n write_list ≡ true
    → IsHeld (with_event (WriteEnded n) v) (but n write_list) sync_list
held_write_end v n write_list sync_list held runs =
    let out : is_done v.history n ≡ false = runs_still v.history n held.sound.lawful (subst (λ ns. is_one_of n ns ≡ true) held.writes runs) in
    grind (arith, is_in_but, out)

pub held_write_failure : (v : Volume) (n : ℕ) (write_list sync_list : List ℕ)
    → IsHeld v write_list sync_list → is_one_of n write_list ≡ true
    → IsHeld (with_event (WriteFailed n) v) (but n write_list) sync_list
held_write_failure v n write_list sync_list held runs =
    let out : is_done v.history n ≡ false = runs_still v.history n held.sound.lawful (subst (λ ns. is_one_of n ns ≡ true) held.writes runs) in
    grind (arith, is_in_but, out)

pub held_sync_end : (v : Volume) (s : ℕ) (write_list sync_list : List ℕ)
    → IsHeld v write_list sync_list
    → IsHeld (with_event (SyncEnded s) v) write_list (but s sync_list)
held_sync_end v s write_list sync_list held = grind arith

pub held_sync_failure : (v : Volume) (s : ℕ) (write_list sync_list : List ℕ)
    → IsHeld v write_list sync_list
    → IsHeld (with_event (SyncFailed s) v) write_list (but s sync_list)
held_sync_failure v s write_list sync_list held = grind arith
