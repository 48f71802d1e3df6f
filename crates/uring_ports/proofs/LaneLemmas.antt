-- One message more on the lane of calls, at either end, and a whole call or the close mark taken.
use Rattle.std.proofs.Common.{◌≡◌, ℕ, suc, ◌+◌, ◌-◌, ◌<◌, ◌≤◌, true, false, List, [], ◌∷◌, ◌++◌, length, get_or, take, sym, ◌∙◌, ap, arith, append_assoc, append-nil, if◌then◌else◌}
use Rattle.std.proofs.lemmas.List.{take_all, take_more}
use mathlib.Core.List.{IsPrefix}
use Rattle.uring_ports.specs.declared.item.Item.{Item}
use Rattle.uring_ports.specs.declared.message.Message.{Message}
use Rattle.uring_ports.specs.Messages.{item_before, items_before, has_close_mark, items_of, put_of, AreWhole, owed, MayFollow}
use Rattle.uring_ports.specs.Ports.{with_call, with_close}
use Rattle.uring_ports.proofs.MessageLemmas.{items_before_snoc}
use Rattle.uring_ports.proofs.MessageSteps.{Sent, sends_call, sends_close, item_may_follow, next_item, owed_snoc}

-- the next item of a call may be sent
pub may_send : (ms past : List Message) (items : List Item) (i n : ℕ) (x : Item)
    → has_close_mark ms ≡ false → owed ms ≡ 0 → length items - i ≡ suc n
    → past ≡ ms ++ items_before (length items - i) (take i items) → MayFollow past (item_before n x)
may_send ms past items i n x open' none left is = grind (arith, (item_may_follow ms n (take i items) x open' none))

-- and then one item more is sent
pub sends_item : (ms past : List Message) (items : List Item) (i n : ℕ) (x : Item)
    → i < length items → x ≡ get_or items i x → length items - i ≡ suc n
    → past ≡ ms ++ items_before (length items - i) (take i items)
    → past ++ item_before n x ∷ []
    ≡ ms ++ items_before (length items - (i + 1)) (take (i + 1) items)
sends_item ms past items i n x below at left is = grind (arith, take_more, item_before, append_assoc, items_before_snoc)

-- and in the end all of them
pub sends_all : (ms past : List Message) (items : List Item) (i : ℕ) → AreWhole ms
    → has_close_mark ms ≡ false → 0 < length items → length items ≤ i
    → past ≡ ms ++ items_before (length items - i) (take i items)
    → Sent past (with_call (put_of ms) items)
sends_all ms past items i are_whole open' some all is = grind (arith, take_all, sends_call)

-- one item more is taken
pub takes_item : (before past : List Message) (items : List Item) (left n : ℕ) (m : Message)
    → left ≡ suc n → owed past ≡ left → MayFollow past m → past ≡ before ++ items_before left items
    → past ++ m ∷ [] ≡ before ++ items_before n (items ++ m.item ∷ [])
takes_item before past items left n m more owes may is = grind (arith, append_assoc, items_before_snoc)

-- and one item less is owed
pub owes_less : (past : List Message) (n : ℕ) (m : Message) → owed past ≡ suc n → MayFollow past m
    → owed (past ++ m ∷ []) ≡ n
owes_less past n m owes may = owed_snoc past m ∙ ap (λ x. x.left) (next_item past m n owes may)

-- the message at the head of the lane is the one that a pop takes
pub same_head : (known rest : List Message) (seen taken : Message) → IsPrefix (seen ∷ []) known
    → known ≡ taken ∷ rest → taken ≡ seen
same_head known rest seen taken prefix popped = cc (prefix.1, popped)

-- the first item of a call is taken
pub takes_first : (past : List Message) (m : Message) (items : List Item) → m.closes ≡ false
    → items ≡ m.item ∷ [] → past ++ m ∷ [] ≡ past ++ items_before m.left items
takes_first past m items goes_on is = grind arith

-- the close mark is taken
pub takes_close : (ms after : List Message) (m : Message) → AreWhole ms → MayFollow ms m
    → m.closes ≡ true → after ≡ ms ++ m ∷ [] → Sent after (with_close (put_of ms))
takes_close ms after m are_whole may closes is = grind (arith, sends_close)

-- a whole call is taken
pub takes_call : (ms after : List Message) (items : List Item) → AreWhole ms
    → has_close_mark ms ≡ false → 0 < length items → after ≡ ms ++ items_before 0 items
    → Sent after (with_call (put_of ms) items)
takes_call ms after items are_whole open' some is = rw is (sends_call ms items are_whole open' some)

-- what is known to be there is taken, one by one
pub one_taken : {X : Type 0} {known later all : List X} (xs rest : List X) (x : X)
    → later ≡ xs ++ x ∷ [] → known ≡ x ∷ rest → xs ++ known ≡ all → later ++ rest ≡ all
one_taken xs rest x a b so = ap (λ l. l ++ rest) a ∙ append_assoc xs (x ∷ []) rest ∙ ap (λ l. xs ++ l) (sym b) ∙ so

pub all_taken : {X : Type 0} {all : List X} (xs rest : List X) → rest ≡ [] → xs ++ rest ≡ all → xs ≡ all
all_taken xs rest none so = sym (append-nil xs) ∙ ap (λ l. xs ++ l) (sym none) ∙ so

pub items_more : {ms : List Message} (m : Message) (rest : List Message) → ms ≡ m ∷ rest
    → m.closes ≡ false → items_of ms ≡ m.item ∷ items_of rest
items_more m rest a b = ap items_of a ∙ ap (λ closes. if closes then [] else m.item ∷ items_of rest) b
