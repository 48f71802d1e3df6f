-- What an operation changes tells what becomes of its file, of whatever operation there is.
-- Stable: other crates may import what is pub.
use Rattle.std.proofs.Common.{◌≡◌, arith, ◌≤◌, ℕ, ℤ, Bool, cond, List, length, Some, None, refl, inl, inr}
use Rattle.uring_files.proofs.Common.{ChangesAreAsked, ChangesStay, ChangesTellBytes, Decides-int_eq, FileContents, IsOutcome, Nothing, Op, Outcome, after, bytes_after, cases_Bool, change_by, file_of, int_eq, is_on, with_changed}
use Rattle.uring_files.specs.declared.change.Change.{Change}
use Rattle.uring_files.proofs.OperationCases.{Task, Does, cases}
use Rattle.uring_files.proofs.StandAlone.{changed_same, changed_other, unlike, others_stay}

-- the file that is left, by whether it was changed
left_of : (chosen : Bool) (files : List FileContents) (fd : ℤ) (change : FileContents → FileContents) (was now : FileContents)
    → file_of files fd ≡ Some was
    → file_of (cond chosen (with_changed files fd change) files) fd ≡ Some now
    → now ≡ cond chosen (change was) was
left_of chosen files fd change was now here there = grind (arith, (changed_same files fd change))

-- a file that isn't there isn't afterwards
none_after : (chosen : Bool) (files : List FileContents) (own fd : ℤ) (change : FileContents → FileContents)
    → file_of files fd ≡ None → file_of (cond chosen (with_changed files own change) files) fd ≡ None
none_after chosen files own fd change none =
    grind (arith, (changed_same files fd change), (changed_other files own fd change), (Decides-int_eq fd own), (cases_Bool (int_eq fd own)), unlike)

none_left : (files : List FileContents) (op : Op) (res : ℤ) (fd : ℤ) → file_of files fd ≡ None
    → file_of (after files op res) fd ≡ None
none_left files op res fd none = grind (arith, none_after)

pub there_before : (files : List FileContents) (op : Op) (res : ℤ) (fd : ℤ) (now : FileContents)
    → file_of (after files op res) fd ≡ Some now → (was : FileContents) × (file_of files fd ≡ Some was)
there_before files op res fd now there =
    elim (file_of files fd) as (λ o. file_of files fd ≡ o → (was : FileContents) × (o ≡ Some was)) [
      | Some was ↦ λ e. (was, refl)
      | None ↦ λ none. absurd (cc (there, none_left files op res fd none))
    ] refl

-- on the file of the operation
left_by : (files : List FileContents) (op : Op) (t : Task) (outcome : Outcome) (was now : FileContents) → Does op t
    → IsOutcome files op outcome → file_of files t.fd ≡ Some was
    → file_of (after files op outcome.res) t.fd ≡ Some now
    → now.bytes ≡ bytes_after (change_by op (length was.bytes)) outcome.res was.bytes
left_by files op t outcome was now does called here there =
    cc (left_of (t.changes outcome.res) files t.fd t.change was now here (rw (does.after files outcome.res) at there), does.bytes files outcome was here called)

pub changes_tell_bytes : ChangesTellBytes
changes_tell_bytes files op outcome fd was now called here there = elim (cases_Bool (is_on fd op)) [
  | inr off ↦ grind (arith, (others_stay files op outcome.res fd off))
  | inl on ↦ elim (cases op) [
    | inl idle ↦ grind (arith, idle.asked)
    | inr busy ↦
        let at : fd ≡ busy.0.fd = grind (arith, busy.1.asked, (Decides-int_eq fd busy.0.fd)) in
        let left = left_by files op busy.0 outcome was now busy.1 called (rw at at here) (rw at at there) in
        rw on left
  ]
]

pub changes_are_asked : ChangesAreAsked
changes_are_asked op len fd changed = elim (cases op) [
  | inl idle ↦ grind (arith, (idle.changed len))
  | inr busy ↦ cc (busy.1.asked, busy.1.changed len fd changed)
]

pub changes_stay : ChangesStay
changes_stay op shorter longer within = elim (cases op) [
  | inl idle ↦ inl (idle.changed longer)
  | inr busy ↦ busy.1.stays shorter longer within
]

-- so what is changed at all of the longer one
pub change_before : (op : Op) (shorter longer : ℕ) (c : Change) → shorter ≤ longer → (c ≡ Nothing → ⊥)
    → change_by op longer ≡ c → change_by op shorter ≡ c
change_before op shorter longer c within some is = grind (arith, (changes_stay op shorter longer within))
