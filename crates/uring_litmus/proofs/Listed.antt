-- What is listed of calls, and shows what they may come to.
use Rattle.std.proofs.Common.{◌≡◌, ◌≤◌, ◌^◌, ℕ, zero, suc, Bool, List, [], ◌∷◌, ◌++◌, length, map, Option, Ok, arith, append_assoc}
use Rattle.uring_litmus.proofs.Common.{AllZip, AreFound, AreLinesOf, Contains, Ending, Finds, Form, Global, IsLineOf, IsListOf, IsNoted, IsSortedOnce, ReadsCalls, ShowAll, String, Vec, accepted_of, codes, length-map, lines_text, lists_of, order_text, texts_of, told_count}
use Rattle.uring_entry.specs.Setup.{Setup}
use Rattle.uring_entry.specs.Layout.{Sqe}
use Rattle.uring_ports.specs.declared.item.Item.{Item}
use Rattle.uring_outcomes.specs.Faults.{IsReason, entry_count}
use Rattle.uring_outcomes.specs.declared.fault.WalkFault.{WalkFault}
use Rattle.uring_outcomes.specs.declared.fault.WalkFault.TheVariants as fault
use Rattle.uring_litmus.specs.Items.{ReadsEntries, ReadsTooMany}

-- each line is that of an outcome
of_line : (form : Form) (endings : List Ending) (lines : List (List ℕ)) → AreLinesOf form endings lines
    → (line : List ℕ) → Contains lines line → (e : Ending) × Contains endings e × IsLineOf form e line
of_line form [] [] are line (k, low, is) = absurd (omega arith)
of_line form [] (l ∷ lines) are line has = absurd are
of_line form (e ∷ endings) [] are line has = absurd are
of_line form (e ∷ endings) (l ∷ lines) are line (zero, low, is) = grind arith
of_line form (e ∷ endings) (l ∷ lines) are line (suc k, low, is) =
    let r = of_line form endings lines are.1 line (k, omega arith, is) in
    (r.0, (suc r.1.0, omega arith, r.1.2), r.2)

-- and each outcome has one
has_line : (form : Form) (endings : List Ending) (lines : List (List ℕ)) → AreLinesOf form endings lines
    → (e : Ending) → Contains endings e → (line : List ℕ) × Contains lines line × IsLineOf form e line
has_line form [] [] are e (k, low, is) = absurd (omega arith)
has_line form [] (l ∷ lines) are e has = absurd are
has_line form (f ∷ endings) [] are e has = absurd are
has_line form (f ∷ endings) (l ∷ lines) are e (zero, low, is) = grind arith
has_line form (f ∷ endings) (l ∷ lines) are e (suc k, low, is) =
    let r = has_line form endings lines are.1 e (k, omega arith, is) in
    (r.0, (suc r.1.0, omega arith, r.1.2), r.2)

pub all_shown : (form : Form) (endings : List Ending) (each lines : List (List ℕ))
    → AreLinesOf form endings each → IsSortedOnce each lines → ShowAll form endings lines
all_shown form endings each lines are once = record {
  right = λ line has. of_line form endings each are line (once.right line has);
  all = λ e has. let r = has_line form endings each are e has in (r.0, once.kept r.0 r.1, r.2);
  sorted = once.sorted;
}

pub list_text : (form : Form) (endings : List Ending) (is_all : Bool) (most : ℕ) (each lines shown : List (String Global)) (text : List ℕ)
    → AreLinesOf form endings (texts_of each) → IsSortedOnce (texts_of each) (texts_of lines)
    → AllZip (IsNoted form.is_sorted (texts_of each) (map order_text endings)) (texts_of lines) (texts_of shown)
    → text ≡ lines_text (texts_of shown) ++ codes "outcomes " ++ told_count (length shown) is_all most
    → IsListOf form endings is_all most text
list_text form endings is_all most each lines shown text are once noted is = grind (arith, append_assoc, length-map)

pub finds : (setup : Setup) (items : Vec (Vec Item Global) Global) (endings : List Ending) (is_all : Bool) (a a' : Option (List ℕ))
    → ReadsCalls setup (Ok items) a a'
    → AreFound setup (map accepted_of (lists_of items.items)) endings is_all → Finds setup endings is_all a a'
finds setup items endings is_all a a' read found = grind arith

pub reads : (g : Setup) (items : Vec (Vec Item Global) Global) (a a' : Option (List ℕ))
    → ReadsCalls g (Ok items) a a' → ReadsEntries g (map accepted_of (lists_of items.items)) a a'
reads g items a a' read = grind arith

-- Calls that have more entries than requests have numbers.

pub too_many : (g : Setup) (items : Vec (Vec Item Global) Global) (a a' : Option (List ℕ))
    → ReadsCalls g (Ok items) a a' → 2 ^ 63 ≤ entry_count (map accepted_of (lists_of items.items))
    → ReadsTooMany g a a'
too_many g items a a' read many = record {
  calls = map accepted_of (lists_of items.items);
  reads = reads g items a a' read;
  many = many;
}

-- where all is granted, nothing else ends a walk
pub is_spent : (grants : ℕ → Type 0) (calls : List (List Sqe)) (why : WalkFault) → IsReason grants calls why
    → ((n : ℕ) → grants n) → 2 ^ 63 ≤ entry_count calls
is_spent grants calls fault.Memory reason all = absurd (reason all)
is_spent grants calls fault.Spent reason all = reason
is_spent grants calls fault.Paths reason all = absurd reason
