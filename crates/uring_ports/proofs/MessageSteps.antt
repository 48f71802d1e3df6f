-- What a message more, a call more and a close mark do to what messages were sent for, and what is left of it.
use Rattle.std.proofs.Common.{◌≡◌, ℕ, suc, ◌<◌, true, false, ◌||◌, List, [], ◌∷◌, ◌++◌, length, refl, sym, ◌∙◌, ap, arith, append_assoc, append-nil, length-append}
use Rattle.std.proofs.Math.Bool.{or_assoc}
use Rattle.std.proofs.lemmas.Grind.{flat_map-append}
use Rattle.std.proofs.lemmas.List.{append_cancel_left}
use Rattle.std.proofs.lemmas.Bool.{cases_Bool, false≢true}
use Rattle.uring_ports.specs.declared.item.Item.{Item}
use Rattle.uring_ports.specs.declared.message.Message.{Message}
use Rattle.uring_ports.specs.Ports.{Put, with_call, with_close, items_of_calls, places_of, LeavesItems}
use Rattle.uring_ports.specs.Messages.{close_mark, item_before, items_before, messages_of, calls_of, items_of, has_close_mark, put_of, AreWhole, owed, Continues, MayFollow}
use Rattle.uring_ports.proofs.MessageLemmas.{AreSome, some_calls_of, some_append, calls_of_calls, close_mark_call, length_messages_of_calls, owed_from_append, owed_from_items, owed_calls}

-- nothing is owed after whole messages with no close mark
pub nothing_owed : (ms : List Message) → AreWhole ms → has_close_mark ms ≡ false → owed ms ≡ 0
nothing_owed ms are_whole open' = grind (arith, append-nil, owed_calls)

-- whole messages take as many places as there are of them
pub places : (ms : List Message) → AreWhole ms → places_of (put_of ms) ≡ length ms
places ms are_whole = grind (arith, length-append, length_messages_of_calls, ap length are_whole)

-- these messages are whole, and were sent for this
pub record Sent (ms : List Message) (p : Put) : Type 0 where
  pub put : put_of ms ≡ p
  pub whole : AreWhole ms

-- messages of something were sent for just that
sent_for : (ms : List Message) (p : Put) → AreSome p.calls → ms ≡ messages_of p → Sent ms p
sent_for ms p some is = grind (arith, close_mark, calls_of_calls, append-nil)

-- a call more
pub sends_call : (ms : List Message) (items : List Item) → AreWhole ms → has_close_mark ms ≡ false
    → 0 < length items → Sent (ms ++ items_before 0 items) (with_call (put_of ms) items)
sends_call ms items are_whole open' some =
    let all_some = some_append (calls_of ms) (items ∷ []) (some_calls_of ms) (grind arith) in
    sent_for _ (with_call (put_of ms) items) all_some (grind (arith, append-nil, flat_map-append, close_mark))

-- the close mark after all calls
pub sends_close : (ms : List Message) → AreWhole ms → has_close_mark ms ≡ false
    → Sent (ms ++ close_mark ∷ []) (with_close (put_of ms))
sends_close ms are_whole open' = sent_for _ (with_close (put_of ms)) (some_calls_of ms) (grind (arith, append-nil))

pub close_mark_append : (xs ys : List Message)
    → has_close_mark (xs ++ ys) ≡ has_close_mark xs || has_close_mark ys
close_mark_append [] ys = refl
close_mark_append (x ∷ xs) ys = ap (λ b. x.closes || b) (close_mark_append xs ys) ∙ sym (or_assoc x.closes (has_close_mark xs) (has_close_mark ys))

continues : (ms : List Message) (left : ℕ) (xs : List Item) (x : Item) → owed ms ≡ 0
    → Continues (owed (ms ++ items_before (suc left) xs)) (item_before left x)
continues ms left [] x none = rw (append-nil ms, none) (λ e. cc)
continues ms left (y ∷ ys) x none = rw (owed_from_append 0 ms (items_before (suc left) (y ∷ ys)), owed_from_items (owed ms) (suc left) y ys) refl

-- the next item of a call may follow
pub item_may_follow : (ms : List Message) (left : ℕ) (xs : List Item) (x : Item)
    → has_close_mark ms ≡ false → owed ms ≡ 0
    → MayFollow (ms ++ items_before (suc left) xs) (item_before left x)
item_may_follow ms left xs x open' none = grind (arith, close_mark_append, append-nil (items_before (suc left) xs), close_mark_call (suc left) xs [], continues)

-- after whole messages with no close mark, the close mark may follow
pub close_may_follow : (ms : List Message) → AreWhole ms → has_close_mark ms ≡ false
    → MayFollow ms close_mark
close_may_follow ms are_whole open' = (open', rw (nothing_owed ms are_whole open') (λ _. refl))

-- the last message says how many items are to come
pub owed_snoc : (ms : List Message) (m : Message) → owed (ms ++ m ∷ []) ≡ m.left
owed_snoc ms m = owed_from_append 0 ms (m ∷ [])

-- if items of a call are to come, the next message is the next of them
pub next_item : (ms : List Message) (m : Message) (left : ℕ) → owed ms ≡ suc left → MayFollow ms m
    → m ≡ item_before left m.item
next_item ms m left more may = rw more at may.1

-- the items that messages were sent for are those of the calls that they were sent for
pub items_calls_of : (ms : List Message) → items_of ms ≡ items_of_calls (calls_of ms)
items_calls_of [] = refl
items_calls_of (m ∷ ms) = grind (arith, (items_calls_of ms))

calls_of_closed : (past known : List Message) → AreWhole past → has_close_mark past ≡ true
    → calls_of (past ++ known) ≡ calls_of past
calls_of_closed past known past_whole closed =
    grind (arith, append_assoc, close_mark, calls_of_calls, some_calls_of, append-nil)

-- nothing follows a close mark
nothing_after : (past known : List Message) → AreWhole past → AreWhole (past ++ known)
    → has_close_mark past ≡ true → known ≡ []
nothing_after past known past_whole all_whole closed =
    grind (arith, close_mark_append, calls_of_closed past known past_whole closed, append_cancel_left past known, append-nil past)

-- what is left of all after a beginning of it, both whole
pub leaves : (past known all : List Message) → AreWhole past → AreWhole all → past ++ known ≡ all
    → LeavesItems (put_of all) (put_of past) (items_of known)
leaves past known all past_whole all_whole is =
    grind (arith, cases_Bool (has_close_mark past), nothing_after past known, append-nil, calls_of_closed, close_mark_append, calls_of_calls, some_calls_of, items_calls_of, false≢true)
