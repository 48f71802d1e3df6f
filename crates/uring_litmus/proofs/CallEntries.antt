-- The entries of calls, one more at a time.
use Rattle.std.proofs.Common.{◌≡◌, ℕ, ◌+◌, ◌<◌, List, [], ◌∷◌, ◌++◌, length, map, take, get_or, refl, sym, ap, ◌∙◌}
use Rattle.uring_litmus.proofs.Common.{Global, Vec, accepted_of, entry_of, filter_map-append, lists_of, map-append, option_to_list}
use Rattle.uring_entry.specs.Layout.{Sqe}
use Rattle.uring_outcomes.specs.Runs.{entries_of}
use Rattle.uring_ports.specs.declared.item.Item.{Item}
use Rattle.uring_ports.specs.declared.item.Item.TheVariants as item
use Rattle.uring_litmus.proofs.Texts.{next_taken}

one_entry : (x : Item) → accepted_of (x ∷ []) ≡ option_to_list (entry_of x)
one_entry (item.Entry entry) = refl
one_entry (item.Bad word) = refl

pub entry_more : (xs : List Item) (i : ℕ) (x : Item) (before after : List Sqe) → i < length xs
    → x ≡ get_or xs i x → before ≡ accepted_of (take i xs)
    → after ≡ before ++ option_to_list (entry_of x) → after ≡ accepted_of (take (i + 1) xs)
entry_more xs i x before after low is a b =
    b ∙ ap (λ (l : List Sqe). l ++ option_to_list (entry_of x)) a ∙ ap (λ (l : List Sqe). accepted_of (take i xs) ++ l) (sym (one_entry x))
    ∙ sym (ap accepted_of (next_taken xs i x low is) ∙ filter_map-append entry_of (take i xs) (x ∷ []))

pub call_more : (calls : List (Vec Item Global)) (i : ℕ) (call : Vec Item Global) (all : List (Vec Sqe Global)) (entries : Vec Sqe Global)
    → i < length calls → call ≡ get_or calls i call → entries_of all ≡ map accepted_of (lists_of (take i calls))
    → entries.items ≡ accepted_of call.items
    → entries_of (all ++ entries ∷ []) ≡ map accepted_of (lists_of (take (i + 1) calls))
call_more calls i call all entries low is before own =
    let cut : lists_of (take (i + 1) calls) ≡ lists_of (take i calls) ++ call.items ∷ [] = ap lists_of (next_taken calls i call low is) ∙ map-append (λ (v : Vec Item Global). v.items) (take i calls) (call ∷ []) in
    map-append (λ (v : Vec Sqe Global). v.items) all (entries ∷ []) ∙ ap (λ (l : List Sqe). entries_of all ++ l ∷ []) own
    ∙ ap (λ (l : List (List Sqe)). l ++ accepted_of call.items ∷ []) before
    ∙ sym (ap (map accepted_of) cut ∙ map-append accepted_of (lists_of (take i calls)) (call.items ∷ []))
