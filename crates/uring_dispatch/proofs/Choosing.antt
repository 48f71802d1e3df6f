-- What cancels make of the lists: the end of a request as it is issued, with those that it dooms, and the search for all targets of a cancel.
use Rattle.std.proofs.Common.{◌≡◌, ℕ, ◌+◌, ◌<◌, ◌≤◌, ℤ, pos, negsuc, [], ◌∷◌, ◌++◌, length, length-append, Bool, true, false, Option, Some, ap, arith}
use Rattle.uring_dispatch.proofs.Common.{AreHeld, Group, Groups, IsGroupOf, KeepsPlaces, Requests, Shows, Window, addr_of, all_below, all_below_none, all_below_past, append-nil, append_assoc, at, cancel_result, chosen, chosen_by, entry_of, if◌then◌else◌, int_le, is_after_failure, is_cancel, is_cancel_all, is_doomed, is_joined, is_running, is_some_value, is_success, is_target, no_bytes, result_for, runs, some_member, target_of, targets_of, with_cancelled, with_ended, with_issued_end}
use Rattle.std.proofs.lemmas.List.Folds.{list_any-append}
use Rattle.uring_dispatch.specs.declared.outstanding.Outstanding.{Outstanding}
use Rattle.uring_dispatch.specs.Choosing.{HasChosen}
use Rattle.uring_dispatch.specs.declared.by_user_data.ByUserData.{ByUserData}

-- What the end of a request as it is issued dooms.

none_cancelled : (r : Requests) → with_cancelled r [] ≡ r
none_cancelled r = ap (λ all. record r { cancelled = all }) (append-nil r.cancelled)

pub held_failing : (v : Window) (h : Groups) (r : Requests) (n below : ℕ) → AreHeld v h r
    → AreHeld v h (with_cancelled r (chosen_by r n (negsuc below)))
held_failing v h r n below held = grind (arith, none_cancelled)

pub ends_failing : (v : Window) (h : Groups) (r : Requests) (n below : ℕ)
    → AreHeld v h (with_ended r n (negsuc below) no_bytes)
    → AreHeld v h (with_issued_end r n (negsuc below))
ends_failing v h r n below held = grind (arith, none_cancelled)

-- a cancel of one that ends with 0 dooms what it chose
pub one_chosen : (r : Requests) (n m : ℕ) → is_cancel (entry_of r n) ≡ true
    → is_cancel_all (entry_of r n) ≡ false → target_of r n ≡ Some m → chosen_by r n (pos 0) ≡ m ∷ []
one_chosen r n m is one chose = grind arith

-- a cancel succeeds with a number
pub cancel_succeeds : (r : Requests) (n : ℕ) (res : ℤ) → is_cancel (entry_of r n) ≡ true
    → res ≡ cancel_result r n → int_le (pos 0) res ≡ is_success (entry_of r n) res
cancel_succeeds r n res is told = grind (arith, is_success)

-- A cancel chooses one.

pub chosen_nobody : (d : Outstanding) → HasChosen d d
chosen_nobody d = grind arith

pub chosen_both : (a b c : Outstanding) → HasChosen a b → HasChosen b c → HasChosen a c
chosen_both a b c x y = grind arith

pub group_chosen : (d e : Outstanding) (n : ℕ) (p : Group) → HasChosen d e → IsGroupOf d.grouped n p
    → IsGroupOf e.grouped n p
group_chosen d e n p c is = λ q there. grind (arith, (is_some_value (at d.grouped.window n)), (c.same.joined n), (c.same.there n), c.groups)

-- Targets.

pub runs_held : (w : Window) (g : Groups) (r : Requests) (m : ℕ) → AreHeld w g r
    → is_running r m ≡ runs (at w m)
runs_held w g r m h = grind arith

-- what a cancel ends with that chose m, by whether m is running
pub result_some : (r : Requests) (m : ℕ) (o : Option ℕ) (b : Bool) → Some m ≡ o → is_running r m ≡ b
    → (if b then negsuc 113 else pos 0) ≡ result_for r o
result_some r m o b e runs = grind arith

-- whether the next is a target doesn't depend on the targets before it
pub target_next : (r : Requests) (n m : ℕ)
    → is_target (with_cancelled r (all_below (is_target r n) m)) n m ≡ is_target r n m
unfolding is_doomed is_after_failure some_member is_joined
target_next r n m = grind (arith, list_any-append, all_below_past)

-- The search for targets.

-- the targets of the cancel n before the number m are chosen, so many
pub record AreChosen (old now : Outstanding) (n user_data m count : ℕ) : Type 0 where
  pub chosen : HasChosen old now
  pub few : count ≤ m
  pub count_is : (r : Requests) → Shows old.grouped r → user_data ≡ addr_of (entry_of r n)
      → count ≡ length (all_below (is_target r n) m)
  pub shows : (r : Requests) → Shows old.grouped r → user_data ≡ addr_of (entry_of r n)
      → Shows now.grouped (with_cancelled r (all_below (is_target r n) m))

pub chosen_none : (d e : Outstanding) (n user_data m : ℕ) → e.grouped ≡ d.grouped → HasChosen d e
    → ((r : Requests) → Shows d.grouped r → user_data ≡ addr_of (entry_of r n) → (k : ℕ) → k < m → is_target r n k ≡ false)
    → AreChosen d e n user_data m 0
chosen_none d e n user_data m same chosen none = grind (arith, all_below_none, none_cancelled)

-- only what is noted of user data differs
pub chosen_noted : (d e : Outstanding) → e.grouped.window ≡ d.grouped.window
    → e.grouped.groups ≡ d.grouped.groups → e.waiting ≡ d.waiting
    → (x y : ByUserData) → d.by_user_data ≡ x → e.by_user_data ≡ y → KeepsPlaces x y → HasChosen d e
chosen_noted d e window groups waiting x y before after places = grind arith

module _ {old now : Outstanding} {n user_data m count : ℕ} (c : AreChosen old now n user_data m count) where
  -- the targets before the number after the next, by what its test answers
  targets_next : {tested : Bool}
      → ((r : Requests) → Shows now.grouped r → user_data ≡ addr_of (entry_of r n) → tested ≡ is_target r n m)
      → (r : Requests) → Shows old.grouped r → user_data ≡ addr_of (entry_of r n)
      → all_below (is_target r n) (m + 1) ≡ all_below (is_target r n) m ++ (if tested then m ∷ [] else [])
  targets_next test r h named = grind (arith, (target_next r n m), (c.shows r h named), append-nil)

  -- the next number is a target, and was chosen
  pub chosen_more : {next : Outstanding}
      → ((r : Requests) → Shows now.grouped r → user_data ≡ addr_of (entry_of r n) → true ≡ is_target r n m)
      → HasChosen now next
      → ((r : Requests) → Shows now.grouped r → Shows next.grouped (with_cancelled r (m ∷ [])))
      → AreChosen old next n user_data (m + 1) (count + 1)
  chosen_more {next} test chosen shows = record {
    chosen = chosen_both old now next c.chosen chosen;
    few = omega (arith, c.few);
    count_is = λ r h named.
        grind (arith, (c.count_is r h named), (targets_next test r h named), length-append);
    shows = λ r h named.
        rw (targets_next test r h named, ← append_assoc r.cancelled _ (m ∷ []))
        (shows _ (c.shows r h named));
  }

  -- the next number is none
  pub chosen_past : ((r : Requests) → Shows now.grouped r → user_data ≡ addr_of (entry_of r n) → false ≡ is_target r n m)
      → AreChosen old now n user_data (m + 1) count
  chosen_past test = record {
    chosen = c.chosen;
    few = omega (arith, c.few);
    count_is = λ r h named. grind (arith, (c.count_is r h named), (targets_next test r h named), append-nil);
    shows = λ r h named. rw (targets_next test r h named, append-nil) (c.shows r h named);
  }

-- all numbers were tested
pub chosen_all : (r : Requests) (n m : ℕ) → m ≡ length r.accepted
    → all_below (is_target r n) m ≡ targets_of r n
unfolding targets_of
chosen_all r n m all = ap (all_below (is_target r n)) all
