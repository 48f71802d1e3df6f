-- The window and the groups where only how much more there is memory for differs, or nothing of what they say.
use Rattle.std.proofs.Common.{◌≡◌, ℕ, ◌≤◌, Result, is_some, sym, ◌∙◌, ap, arith}
use Rattle.uring_dispatch.proofs.Common.{Groups, HasSameRecords, IsListed, IsSound, OnErr, OnOk, Waiting, Window, at, end_of, group_at, has_member}
use Rattle.uring_dispatch.specs.declared.grouped.Grouped.{Grouped}
use Rattle.uring_dispatch.proofs.HeldLemmas.{kept_on}

-- each number has its request, and each key its group
pub record IsAlike (w v : Window) (g h : Groups) : Type 0 where
  pub rows : (n : ℕ) → at v n ≡ at w n
  pub end : end_of v ≡ end_of w
  pub outstanding : v.outstanding ≡ w.outstanding
  pub running : v.running ≡ w.running
  pub groups : (key : ℕ) → group_at h key ≡ group_at g key
  pub barriers : h.barriers ≡ g.barriers
  pub last : h.last ≡ g.last

pub alike_from : (w v : Window) (g h : Groups) → record v { room = 0 } ≡ record w { room = 0 }
    → record h { room = 0 } ≡ record g { room = 0 } → IsAlike w v g h
unfolding at
alike_from w v g h a b = grind arith

pub alike_records : (d e : Grouped) → HasSameRecords d e
    → IsAlike d.window e.window d.groups e.groups
alike_records d e s = alike_from d.window e.window d.groups e.groups s.window s.groups

pub sound_alike : (w v : Window) (g h : Groups) → IsAlike w v g h → IsSound w g → IsSound v h
sound_alike w v g h a s = record {
  linked = λ n q e. ap (λ o. has_member o n) (a.groups q.group) ∙ s.linked n q (sym (a.rows n) ∙ e);
  members = λ key q n x found from to e. s.members key q n x (sym (a.groups key) ∙ found) from to (sym (a.rows n) ∙ e);
  kept = λ key q found. kept_on (s.kept key q (sym (a.groups key) ∙ found)) (omega (arith, a.end)) (λ m from to. ap is_some (a.rows m));
  beyond = rw (a.barriers, a.end) s.beyond;
  last = λ key q e found. s.last key q (sym a.last ∙ e) (sym (a.groups key) ∙ found) ∙ sym a.end;
}

pub listed_alike : (w v : Window) (g h : Groups) (s : Waiting) → IsAlike w v g h → IsListed w g s
    → IsListed v h s
listed_alike w v g h s a l = grind arith

-- what asking for memory leaves, whatever it answers

pub reserved_window : {E : Type 0} (x : Result (Unit {0}) E) (w v : Window) (count : ℕ)
    → OnOk x (v ≡ record w { room = count }) → OnErr x (v ≡ w)
    → (record v { room = 0 } ≡ record w { room = 0 }) × ((k : ℕ) → k ≤ count → k ≤ w.room → k ≤ v.room)
reserved_window x w v count ok err = grind arith

pub reserved_groups : {E : Type 0} (x : Result (Unit {0}) E) (g h : Groups) (count : ℕ)
    → OnOk x (h ≡ record g { room = count }) → OnErr x (h ≡ g)
    → (record h { room = 0 } ≡ record g { room = 0 }) × ((k : ℕ) → k ≤ count → k ≤ g.room → k ≤ h.room)
reserved_groups x g h count ok err = grind arith
