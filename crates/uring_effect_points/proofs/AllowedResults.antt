-- What operations give on any files has a result that may_end allows.
use Rattle.std.proofs.Common.{◌≡◌, ◌&&◌, ◌-◌, ◌^◌, ◌≤◌, ℕ, ℤ, pos, min, Bool, true, false, List, None, if◌then◌else◌, refl, sym, subst, ◌∙◌, inl, inr, arith}
use Rattle.uring_effect_points.proofs.Common.{FileContents, IsForFiles, IsOutcome, Outcome, Sqe, fault_of, int_le, is_cancel, is_on_file, is_transfer, le-leb, len_of, operation_of, result_of, true≢false}
use Rattle.std.proofs.Math.Dec.{leb-zero}
use Rattle.uring_files.proofs.OperationCases.{IsCalled, most_of, cases, result_called}
use Rattle.uring_files.proofs.Prepared.{is_short, is_served_of, moved, on_some_file}
use Rattle.uring_entry.specs.Results.{is_own_error, may_end}

-- what may_end says of an entry that moves bytes, or is on a file, or not, and has this length
abbrev end_by : Bool → Bool → ℕ → ℤ → Bool
end_by transfer file len res =
    if is_own_error res then file else int_le (pos 0) res && int_le res (pos (if transfer then min len (2 ^ 31 - 1) else 0))

count_by : (transfer file : Bool) (len k : ℕ) → k ≤ (if transfer then min len (2 ^ 31 - 1) else 0)
    → end_by transfer file len (pos k) ≡ true
count_by transfer file len k low = rw (leb-zero k, le-leb k _ low) refl

-- a result that is called for on a file
called_by : (transfer : Bool) (len most : ℕ) (res : ℤ) → len ≤ 64 → most ≤ (if transfer then len else 0)
    → IsCalled most res → end_by transfer true len res ≡ true
called_by transfer len most res small low h = grind arith

on_a_file : (file transfer : Bool) (len : ℕ) (res : ℤ) → file ≡ true → end_by transfer true len res ≡ true
    → end_by transfer file len res ≡ true
on_a_file file transfer len res is ends = subst (λ f. end_by transfer f len res ≡ true) (sym is) ends

-- of an entry without a fault that is no cancel
pub outcome_allowed : (files : List FileContents) (e : Sqe) (o : Outcome) → fault_of e ≡ None
    → is_cancel e ≡ false → IsForFiles (operation_of e) → IsOutcome files (operation_of e) o
    → may_end e o.res ≡ true
outcome_allowed files e o none other asks gives = elim (cases (operation_of e)) [
  | inl idle ↦
      elim gives [
        | inl is ↦
            subst (λ (x : Outcome). may_end e x.res ≡ true) (sym (is ∙ idle.ends files)) (count_by (is_transfer e) (is_on_file e) (len_of e) 0 (omega arith))
        | inr refused ↦ absurd (true≢false (sym refused.0 ∙ idle.lengthens files))
      ]
  | inr busy ↦
      let served = is_served_of e none in
      let file : is_on_file e ≡ true = on_some_file e busy.0.fd served busy.1.asked in
      elim gives [
        | inl is ↦
            subst (λ (x : Outcome). may_end e x.res ≡ true) (sym is)
            (on_a_file (is_on_file e) (is_transfer e) (len_of e) (result_of files (operation_of e)).res file
            (called_by (is_transfer e) (len_of e) (most_of (operation_of e)) (result_of files (operation_of e)).res (is_short e none) (moved e served) (result_called files (operation_of e))))
        | inr refused ↦ grind arith
      ]
]
