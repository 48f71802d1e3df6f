-- Calls as they are staged, published and copied.
use Rattle.std.proofs.Common.{◌≡◌, ℕ, ◌+◌, ◌<◌, ◌≤◌, true, false, List, [], ◌∷◌, ◌++◌, map, length, get_or, refl, sym, ◌∙◌, ap, subst, arith, append_assoc, append-nil, length-append}
use Rattle.std.proofs.lemmas.List.{length-map, nil_from_length, get_or_append_left}
use mathlib.Core.List.{map-append}
use Rattle.std.proofs.Math.Seq.{get_or-append_seam}
use Rattle.uring_entry.specs.Submission.{Published, IsItem}
use Rattle.uring_ports.specs.declared.item.Item.{Item}
use Rattle.uring_ports.specs.Items.{AreItems, published_as}
use Rattle.uring_ports.specs.declared.pulled.Pulled.TheVariants as pulled
use Rattle.uring_ports.specs.Ports.{Put, Pulls, with_call, with_close}
use Rattle.uring_words.specs.Submission.Calls.{item_of, put_of, has_close_mark, AreWhole, AllGoOn}
use Rattle.uring_words.specs.Submission.Ends.{End, app_knows, kernel_knows, StagesCall, ReaderRests, CopiesOne, InCall, Copies}
use Rattle.uring_words.specs.Submission.Layout.{close_mark, closes}
use Rattle.uring_words.specs.Submission.Rule.{stored}
use Rattle.uring_words.specs.declared.submission.reader.Copied.{Copied}
use Rattle.uring_words.specs.declared.submission.reader.Copied.TheVariants as copied
use Rattle.uring_words.specs.declared.submission.view.Position.{Position}
use Rattle.uring_words.proofs.CallLemmas.{Holding, holds_call, holds_close, goes_on_snoc, whole_rest, not_whole, no_mark_inside}

-- a call was staged after whole calls
pub staged_call : (before after : End) (items : List Item) → StagesCall before after items
    → AreWhole before.knows.app.published → has_close_mark before.knows.app.published ≡ false
    → Holding (stored after.knows.app) (with_call (put_of before.knows.app.published) items)
staged_call before after items s whole open' =
    let put = put_of before.knows.app.published in
    let holding = holds_call before.knows.app.published s.front s.last whole open' s.goes_on s.open_ s.ends in
    let P : List Position → Type 0 = λ ps. Holding ps (with_call put items) in
    subst P (sym (ap (λ (e : End). stored e.knows.app) s.is)) (record { is = holding.is ∙ ap (with_call put) s.holds; whole = holding.whole })

-- the close mark was staged after whole calls
pub staged_close : (before after : End)
    → after
    ≡ app_knows before (record before.knows.app { staged = before.knows.app.staged ++ (record { mark = close_mark; entry = [] }) ∷ [] })
    → before.knows.app.staged ≡ [] → AreWhole before.knows.app.published
    → has_close_mark before.knows.app.published ≡ false
    → Holding (stored after.knows.app) (with_close (put_of before.knows.app.published))
staged_close before after is none whole open' =
    let p : Position = record { mark = close_mark; entry = [] } in
    let all : stored after.knows.app ≡ before.knows.app.published ++ p ∷ [] = ap (λ (e : End). stored e.knows.app) is ∙ ap (λ l. before.knows.app.published ++ (l ++ p ∷ [])) none in
    let P : List Position → Type 0 = λ ps. Holding ps (with_close (put_of before.knows.app.published)) in
    subst P (sym all) (holds_close before.knows.app.published p whole open' refl)

copies : (before now after : End) (n : ℕ) (items : List Item) (what : Copied)
    → (call : InCall before now n items) → (one : CopiesOne now after what)
    → (after
    ≡ kernel_knows before (record before.knows.kernel { copied = before.knows.kernel.copied ++ (call.part ++ one.position ∷ []); known = after.knows.kernel.known }))
    × ((call.part ++ one.position ∷ []) ++ after.knows.kernel.known ≡ before.knows.kernel.known)
copies before now after n items what call one = grind (arith, append_assoc)

-- one position more of the call that is copied
pub in_call_more : (before now after : End) (n : ℕ) (items : List Item) (what : Copied) (x : Item)
    → InCall before now n items → CopiesOne now after what → what ≡ copied.More x
    → InCall before after (n + 1) (items ++ x ∷ [])
in_call_more before now after n items what x call one is =
    let h = rw is at one.holds in
    let p = one.position in
    let c = copies before now after n items what call one in
    record {
      part = call.part ++ p ∷ [];
      is = c.0;
      rest = c.1;
      goes_on = goes_on_snoc call.part p call.goes_on h.0 h.1;
      holds = map-append item_of call.part (p ∷ []) ∙ ap (λ l. l ++ item_of p ∷ []) call.holds ∙ ap (λ y. items ++ y ∷ []) h.2;
      many = omega (arith, length-append call.part (p ∷ []), call.many);
    }

-- what was copied with this position holds all this
copies_all : (before now after : End) (n : ℕ) (items : List Item) (what : Copied) (put : Put)
    → (call : InCall before now n items) → (one : CopiesOne now after what)
    → Holding (before.knows.kernel.copied ++ (call.part ++ one.position ∷ [])) put
    → Copies before after × (put_of after.knows.kernel.copied ≡ put)
copies_all before now after n items what put call one holding = grind (arith, append_assoc)

-- the last position of a call is copied
pub in_call_last : (before now after : End) (n : ℕ) (items : List Item) (what : Copied) (x : Item)
    → ReaderRests before.knows.kernel → has_close_mark before.knows.kernel.copied ≡ false
    → length before.knows.kernel.known ≤ before.knows.kernel.size
    → InCall before now n items → CopiesOne now after what → what ≡ copied.Last x
    → Copies before after
    × Pulls before.knows.kernel.size (put_of before.knows.kernel.copied) pulled.Call (items ++ x ∷ []) (put_of after.knows.kernel.copied)
in_call_last before now after n items what x rests open' few call one is =
    let h = rw is at one.holds in
    let p = one.position in
    let put = put_of before.knows.kernel.copied in
    let c = copies before now after n items what call one in
    let holding = holds_call before.knows.kernel.copied call.part p rests.whole open' call.goes_on h.0 h.1 in
    let all : map item_of (call.part ++ p ∷ []) ≡ items ++ x ∷ [] = map-append item_of call.part (p ∷ []) ∙ ap (λ l. l ++ item_of p ∷ []) call.holds ∙ ap (λ y. items ++ y ∷ []) h.2 in
    let r = copies_all before now after n items what (with_call put (items ++ x ∷ [])) call one (record { is = holding.is ∙ ap (with_call put) all; whole = holding.whole }) in
    let many : length (items ++ x ∷ []) ≤ length before.knows.kernel.known = omega (arith, ap length all, length-map (call.part ++ p ∷ []) item_of, ap length c.1, length-append (call.part ++ p ∷ []) after.knows.kernel.known) in
    (r.0, (omega (arith, length-append items (x ∷ [])), omega (arith, many, few), open', r.1))

close_is_first : (part : List Position) (p : Position) (others : List Position)
    → AreWhole (part ++ p ∷ others) → AllGoOn part → closes p.mark ≡ true → part ≡ []
close_is_first [] p others whole goes_on closing = refl
close_is_first (q ∷ qs) p others whole goes_on closing = let whole' = rw (goes_on.0, goes_on.1) at whole in absurd (no_mark_inside qs p others goes_on.2 closing whole')

-- the close mark is copied, which is no part of a call
pub in_call_close : (before now after : End) (n : ℕ) (items : List Item) (what : Copied)
    → ReaderRests before.knows.kernel → has_close_mark before.knows.kernel.copied ≡ false
    → InCall before now n items → CopiesOne now after what → what ≡ copied.Close
    → Copies before after
    × Pulls before.knows.kernel.size (put_of before.knows.kernel.copied) pulled.Close items (put_of after.knows.kernel.copied)
in_call_close before now after n items what rests open' call one is =
    let h = rw is at one.holds in
    let p = one.position in
    let d = before.knows.kernel in
    let rest : AreWhole d.known = whole_rest false d.copied d.known rests.whole open' rests.known in
    let first : call.part ≡ [] = close_is_first call.part p one.others (subst AreWhole (sym call.rest ∙ ap (λ l. call.part ++ l) one.known) rest) call.goes_on h in
    let P : List Position → Type 0 = λ l. Holding (d.copied ++ (l ++ p ∷ [])) (with_close (put_of d.copied)) in
    let r = copies_all before now after n items what (with_close (put_of d.copied)) call one (subst P (sym first) (holds_close d.copied p rests.whole open' h)) in
    (r.0, (sym call.holds ∙ ap (map item_of) first, open', r.1))

never_open : (ps : List Position) → 0 < length ps → AllGoOn ps → AreWhole ps → ⊥
never_open [] some goes_on whole = omega arith
never_open (p ∷ ps) some goes_on whole = grind (arith, not_whole)

-- what is known ends a call
pub call_ends : (before now : End) (n : ℕ) (items : List Item) → ReaderRests before.knows.kernel
    → has_close_mark before.knows.kernel.copied ≡ false → 0 < length before.knows.kernel.known
    → n ≡ length before.knows.kernel.known → InCall before now n items → ⊥
call_ends before now n items rests open' some all call =
    grind (arith, whole_rest, nil_from_length, length-append, append-nil, never_open)

-- the items of a call but the last
pub front_items : (size : ℕ) (items front : List Item) (last : Item) → items ≡ front ++ last ∷ []
    → AreItems size items → AreItems size front
front_items size items front last is all k d below = grind (arith, map-append, length-append, get_or_append_left)

-- and the last
pub last_item : (size : ℕ) (items front : List Item) (last : Item) → items ≡ front ++ last ∷ []
    → AreItems size items → IsItem size (published_as last)
last_item size items front last is all =
    let n : ℕ = length (map published_as front) in
    let x : Published = published_as last in
    let both = ap (map published_as) is ∙ map-append published_as front (last ∷ []) in
    let within : n < length (map published_as items) = omega (arith, ap length both, length-append (map published_as front) (map published_as (last ∷ []))) in
    subst (λ (y : Published). IsItem size y) (ap (λ l. get_or l n x) both ∙ get_or-append_seam (map published_as front) x [] x) (all n x within)
