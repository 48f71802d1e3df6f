-- The law `prompt_moves_lead`: moves are followed by prompt ones, which start each request that no cancel names only where the others finish it.
-- What runs stays ready and is never doomed, so that it may start as late. Which requests were started is read of a cancel alone, of those that it names.
use Rattle.std.proofs.Common.{◌≡◌, ℕ, ◌+◌, ◌-◌, ◌<◌, ℤ, pos, Bool, true, false, not, ◌&&◌, ◌||◌, ◌==◌, nat_lt, List, [], ◌∷◌, ◌++◌, length, get_or, Option, Some, None, if◌then◌else◌, refl, sym, subst, ap, ap₂, ◌∙◌, ◌⊎◌, inl, inr, arith}
use Rattle.uring_outcomes.proofs.Common.{All, All-head, All-tail, AreNamed, ArePrompt, IsOver, IsPrompt, Moment, Move, NamesAll, PromptMovesLead, Requests, Setup, Sqe, accepted, addr_of, after_moves, and_from, and_parts, both_ways, cancel_result, cases_Bool, cases_lt, chosen_by, cond-false, cond-true, count_result, doomed_result, ended_at_once, entry_of, eq-eqb, eqb-true, false_from_ne_true, finished, get_or-append-add, get_or-eq_default, get_or_append_left, has_ended, has_started, is_after_failure, is_cancel, is_cancel_all, is_candidate, is_doomed, is_finishable, is_issuable, is_joined, is_named, is_outstanding, is_ready, is_running, is_target, issued, least_below_tells, list_any_push, moved, neg_ℤ, no_bytes, operation_of, option_and_then, or_right, result_for, result_of, some_member, started, starting, target_of, targets_of, unwrap_or, user_data_of, with_call, with_ended, with_started, zero_entry}
use Rattle.uring_entry.specs.declared.errno.TheConstants.{EALREADY}
use Rattle.std.specs.List.{list_any}
use Rattle.uring_core.proofs.ListCounts.{any_new, any_kept}
use Rattle.uring_laws.proofs.AlikeRequests.{all_below_same}
use Rattle.uring_laws.proofs.StartedRequests.{ready_started}
use Rattle.uring_laws.proofs.EndedRequests.{ready_end}
use Rattle.uring_laws.proofs.CalledRequests.{ready_kept}
use Rattle.uring_outcomes.specs.declared.move_of_calls.Move.TheVariants as move
use Rattle.uring_outcomes.proofs.MovesLead.{one_move_more, can_then, can_of, issuable_so}
use Rattle.uring_outcomes.proofs.SoundMoments.{IsSoundMoment, one_sound, kept_on}

-- Moments that differ in which requests were started.

abbrev with_starts : Requests → List ℕ → Requests
with_starts r s = record r { started = s }

abbrev as_if : Moment → List ℕ → Moment
as_if m s = record m { requests = with_starts m.requests s }

doomed_as_if : (r : Requests) (s : List ℕ) (n : ℕ) → is_doomed (with_starts r s) n ≡ is_doomed r n
unfolding is_doomed is_after_failure some_member is_joined
doomed_as_if r s n = refl

ready_as_if : (r : Requests) (s : List ℕ) (n : ℕ) → is_ready (with_starts r s) n ≡ is_ready r n
unfolding is_ready some_member is_joined
ready_as_if r s n = refl

-- What a cancel makes of moments that differ so: the same, if the same requests run among those that it names.

candidate_as_if : (r : Requests) (s : List ℕ) (n k : ℕ)
    → is_candidate (with_starts r s) n k ≡ is_candidate r n k
candidate_as_if r s n k = grind (arith, doomed_as_if)

-- the same run among those that are named
abbrev RunSame : (ℕ → Bool) → Requests → List ℕ → Type 0
RunSame named r s = (k : ℕ) → is_named named r k ≡ true
    → is_running (with_starts r s) k ≡ is_running r k

run_chosen : (named : ℕ → Bool) (r : Requests) (s : List ℕ) (n k : ℕ) → RunSame named r s
    → named (addr_of (entry_of r n)) ≡ true → is_candidate r n k ≡ true
    → is_running (with_starts r s) k ≡ is_running r k
run_chosen named r s n k same names can = grind arith

target_as_if : (r : Requests) (s : List ℕ) (n : ℕ) → target_of (with_starts r s) n ≡ target_of r n
unfolding target_of
target_as_if r s n = grind (arith, candidate_as_if)

target_can : (r : Requests) (n k : ℕ) → target_of r n ≡ Some k → is_candidate r n k ≡ true
unfolding target_of
target_can r n k is = (least_below_tells (is_candidate r n) (length r.accepted) k is).holds

targets_as_if : (named : ℕ → Bool) (r : Requests) (s : List ℕ) (n : ℕ) → RunSame named r s
    → named (addr_of (entry_of r n)) ≡ true → targets_of (with_starts r s) n ≡ targets_of r n
unfolding targets_of
targets_as_if named r s n same names =
    all_below_same (is_target (with_starts r s) n) (is_target r n) (length r.accepted) (λ k lt. target_like (candidate_as_if r s n k) (run_chosen named r s n k same names)) where
      target_like : {b c x y : Bool} → b ≡ c → (c ≡ true → x ≡ y) → (b && not x) ≡ (c && not y)
      target_like e so = grind arith

result_as_if : (named : ℕ → Bool) (r : Requests) (s : List ℕ) (n : ℕ) → RunSame named r s
    → named (addr_of (entry_of r n)) ≡ true → cancel_result (with_starts r s) n ≡ cancel_result r n
result_as_if named r s n same names =
    ap₂ (λ ts res. if is_cancel_all (entry_of r n) then count_result (length ts) else res) (targets_as_if named r s n same names)
    (ap (result_for (with_starts r s)) (target_as_if r s n) ∙ by_target (target_of r n) refl) where
      by_target : (o : Option ℕ) → target_of r n ≡ o → result_for (with_starts r s) o ≡ result_for r o
      by_target None is = refl
      by_target (Some k) is =
          ap (λ b. if b then neg_ℤ EALREADY else pos 0) (run_chosen named r s n k same names (target_can r n k is))

chosen_as_if : (named : ℕ → Bool) (r : Requests) (s : List ℕ) (n : ℕ) (res : ℤ) → RunSame named r s
    → (is_cancel (entry_of r n) ≡ true → named (addr_of (entry_of r n)) ≡ true)
    → chosen_by (with_starts r s) n res ≡ chosen_by r n res
chosen_as_if named r s n res same names = elim (cases_Bool (is_cancel (entry_of r n))) [
  | inl cancels ↦ rw (targets_as_if named r s n same (names cancels), target_as_if r s n)
  | inr other ↦ rw other
]

-- who started makes no difference to an end that dooms the same
ended_as_if : (m : Moment) (s : List ℕ) (n : ℕ) (res : ℤ)
    → chosen_by (with_starts m.requests s) n res ≡ chosen_by m.requests n res
    → ended_at_once (as_if m s) n res ≡ as_if (ended_at_once m n res) s
ended_as_if m s n res same =
    ap (λ chosen. record m {
      requests = with_ended (record (with_starts m.requests s) { cancelled = m.requests.cancelled ++ chosen }) n res no_bytes;
      posted = (ended_at_once m n res).posted;
    })
    same

-- What is so of the moments that are followed.

pub record IsCalm (named : ℕ → Bool) (m : Moment) : Type 0 where
  pub sound : IsSoundMoment m.requests
  pub ready : (n : ℕ) → is_running m.requests n ≡ true → is_ready m.requests n ≡ true
  pub are_named : (n : ℕ) → is_cancel (entry_of m.requests n) ≡ true → named (addr_of (entry_of m.requests n)) ≡ true
  pub will_be : AreNamed named m.left

abbrev IsAmong : List ℕ → ℕ → Type 0
IsAmong starts n = list_any (λ k. k == n) starts ≡ true

-- a moment that prompt moves lead to, and in which nothing runs that isn't named, is this one but for who started: of those that are named the same
record IsFollowed (named : ℕ → Bool) (g : Setup) (calls : List (List Sqe)) (m : Moment) : Type 0 where
  moves : List Move
  there : Moment
  leads : after_moves (starting g calls) moves ≡ Some there
  prompt : ArePrompt named (starting g calls) moves
  idle : (n : ℕ) → is_named named there.requests n ≡ false → is_running there.requests n ≡ false
  starts : List ℕ
  is : m ≡ as_if there starts
  fewer : (n : ℕ) → has_started there.requests n ≡ true → IsAmong starts n
  named_too : (n : ℕ) → is_named named there.requests n ≡ true → IsAmong starts n → has_started there.requests n ≡ true

-- one prompt move more
prompt_more : (named : ℕ → Bool) (moves : List Move) (m last : Moment) (x : Move) → after_moves m moves ≡ Some last
    → ArePrompt named m moves → IsPrompt named last x → ArePrompt named m (moves ++ x ∷ [])
prompt_more named [] m last x leads prompt also = grind arith
prompt_more named (first ∷ later) m last x leads prompt also =
    (prompt.0, λ next is. prompt_more named later next last x (sym (ap (option_and_then (λ n. after_moves n later)) is) ∙ leads) (prompt.1 next is) also)

leads_more : (g : Setup) (calls : List (List Sqe)) (moves : List Move) (m next : Moment) (x : Move)
    → after_moves (starting g calls) moves ≡ Some m → moved m x ≡ Some next
    → after_moves (starting g calls) (moves ++ x ∷ []) ≡ Some next
leads_more g calls moves m next x leads is = one_move_more moves (starting g calls) x ∙ (ap (option_and_then (λ z. moved z x)) leads ∙ is)

-- while nothing runs that isn't named, each move is prompt
idle_prompt : (named : ℕ → Bool) (m : Moment) (x : Move)
    → ((n : ℕ) → is_named named m.requests n ≡ false → is_running m.requests n ≡ false) → IsPrompt named m x
idle_prompt named m x idle n running quiet = grind arith

-- one move of those that follow, by which it is followed further
follow_by : (named : ℕ → Bool) (g : Setup) (calls : List (List Sqe)) (m next there : Moment) (x : Move) (f : IsFollowed named g calls m)
    → moved f.there x ≡ Some there
    → ((n : ℕ) → is_named named there.requests n ≡ false → is_running there.requests n ≡ false)
    → (s : List ℕ) → next ≡ as_if there s
    → ((n : ℕ) → has_started there.requests n ≡ true → IsAmong s n)
    → ((n : ℕ) → is_named named there.requests n ≡ true → IsAmong s n → has_started there.requests n ≡ true)
    → IsFollowed named g calls next
follow_by named g calls m next there x f made idle s is fewer named_too = record {
  moves = f.moves ++ x ∷ [];
  there = there;
  leads = leads_more g calls f.moves f.there there x f.leads made;
  prompt = prompt_more named f.moves (starting g calls) f.there x f.leads f.prompt (idle_prompt named f.there x f.idle);
  idle = idle;
  starts = s;
  is = is;
  fewer = fewer;
  named_too = named_too;
}

run_same : (named : ℕ → Bool) (g : Setup) (calls : List (List Sqe)) (m : Moment) (f : IsFollowed named g calls m)
    → RunSame named f.there.requests f.starts
run_same named g calls m f k names = grind (arith, f.fewer k, f.named_too k names)

-- an end makes nothing run
idle_ended : (r : Requests) (n : ℕ) (res : ℤ) (bytes chosen : List ℕ) (k : ℕ)
    → is_running r k ≡ false
    → is_running (with_ended (record r { cancelled = chosen }) n res bytes) k ≡ false
idle_ended r n res bytes chosen k idle = grind (arith, list_any_push)

-- once n starts nobody but n runs that didn't before, and nobody at all once it has ended
only_new : (r : Requests) (n k : ℕ) → is_running r k ≡ false → is_running (with_started r n) k ≡ true → n ≡ k
only_new r n k idle running = grind (arith, list_any_push (λ j. j == k) r.started n)

over_new : (r : Requests) (n : ℕ) (res : ℤ) (bytes : List ℕ) (k : ℕ) → is_running r k ≡ false
    → is_running (with_ended (with_started r n) n res bytes) k ≡ false
over_new r n res bytes k idle = grind (arith, list_any_push)

-- Each move is followed.

accept_followed : (named : ℕ → Bool) (g : Setup) (calls : List (List Sqe)) (m next : Moment) (f : IsFollowed named g calls m)
    → IsCalm named (as_if f.there f.starts)
    → moved (as_if f.there f.starts) move.Accept ≡ Some next → IsFollowed named g calls next
accept_followed named g calls m next f calm e = by_left f.there.left refl e where
  named_before : (call : List Sqe) (k : ℕ) → IsAmong f.starts k → is_named named (with_call f.there.requests call) k ≡ is_named named f.there.requests k
  named_before call k begun =
      ap (λ x. named (user_data_of x)) (get_or_append_left f.there.requests.accepted call zero_entry k (calm.sound.sound.started_accepted k begun))

  by_left : (left : List (List Sqe)) → f.there.left ≡ left → accepted (as_if f.there f.starts) left ≡ Some next → IsFollowed named g calls next
  by_left [] is none = absurd cc
  by_left (call ∷ later) is some =
      let r : Requests = f.there.requests in
      let there : Moment = record f.there { requests = with_call f.there.requests call; left = later } in
      follow_by named g calls m next there move.Accept f (ap (accepted f.there) is)
      (λ k quiet. false_from_ne_true (is_running r k) (λ running. both_ways (is_running r k) (f.idle k (sym (named_before call k (f.fewer k (and_parts (has_started r k) (not (has_ended r k)) running).0)) ∙ quiet)) running))
      f.starts (sym (ap (λ o. unwrap_or o next) some)) f.fewer
      (λ k names begun. f.named_too k (sym (named_before call k begun) ∙ names) begun)

-- the request that starts is among those started, and so are the others that were
more_begun : (xs ys : List ℕ) (n : ℕ) → ((k : ℕ) → IsAmong xs k → IsAmong ys k) → (k : ℕ)
    → IsAmong (xs ++ n ∷ []) k → IsAmong (ys ++ n ∷ []) k
more_begun xs ys n all k there = grind (arith, list_any_push)

issue_followed : (named : ℕ → Bool) (g : Setup) (calls : List (List Sqe)) (m next : Moment) (n : ℕ) (f : IsFollowed named g calls m)
    → IsCalm named (as_if f.there f.starts) → is_issuable (as_if f.there f.starts).requests n ≡ true
    → issued (as_if f.there f.starts) n ≡ next → IsFollowed named g calls next
issue_followed named g calls m next n f calm can is = by_doom (is_doomed rs n) refl where
  t : Moment
  t = f.there

  r : Requests
  r = f.there.requests

  rs : Requests
  rs = with_starts f.there.requests f.starts

  chosen : (res : ℤ) → chosen_by rs n res ≡ chosen_by r n res
  chosen res = chosen_as_if named r f.starts n res (run_same named g calls m f) (calm.are_named n)

  -- it can be issued there too
  can_there : is_issuable r n ≡ true
  can_there = grind (arith, doomed_as_if, ready_as_if)

  -- it ends at once
  ends : (res : ℤ) → issued t n ≡ ended_at_once t n res → next ≡ ended_at_once (as_if t f.starts) n res → IsFollowed named g calls next
  ends res there here =
      follow_by named g calls m next (ended_at_once t n res) (move.Issue n) f
      (can_then (is_issuable r n) (issued t n) (ended_at_once t n res) can_there there)
      (λ k quiet. idle_ended r n res no_bytes (r.cancelled ++ chosen_by r n res) k (f.idle k quiet)) f.starts
      (here ∙ ended_as_if t f.starts n res (chosen res)) f.fewer f.named_too

  -- it starts
  starts : is_doomed rs n ≡ false → is_cancel (entry_of rs n) ≡ false → next ≡ as_if t (f.starts ++ n ∷ []) → (names : Bool) → is_named named r n ≡ names → IsFollowed named g calls next
  starts spared other here true names =
      follow_by named g calls m next (started t n) (move.Issue n) f
      (can_then (is_issuable r n) (issued t n) (started t n) can_there (cond-false (is_doomed r n) _ _ (sym (doomed_as_if r f.starts n) ∙ spared) ∙ cond-false (is_cancel (entry_of r n)) _ _ other))
      (λ k quiet. false_from_ne_true (is_running (with_started r n) k) (λ running. both_ways (is_named named r k) quiet (sym (ap (is_named named r) (only_new r n k (f.idle k quiet) running)) ∙ names)))
      (f.starts ++ n ∷ []) here (more_begun r.started f.starts n f.fewer)
      (λ k named_k begun. too k named_k (any_new (λ j. j == k) f.starts n begun)) where
        too : (k : ℕ) → is_named named r k ≡ true → IsAmong f.starts k ⊎ ((n == k) ≡ true) → has_started (with_started r n) k ≡ true
        too k named_k some = grind (arith, f.named_too k named_k, list_any_push (λ j. j == k) r.started n)
  starts spared other here false quiet = grind (arith, any_kept, any_new)

  by_cancel : (cancels : Bool) → is_cancel (entry_of rs n) ≡ cancels → is_doomed rs n ≡ false → IsFollowed named g calls next
  by_cancel true cancels spared =
      ends (cancel_result r n)
      (cond-false (is_doomed r n) _ _ (sym (doomed_as_if r f.starts n) ∙ spared) ∙ cond-true (is_cancel (entry_of r n)) _ _ cancels)
      (sym is ∙ cond-false (is_doomed rs n) _ _ spared ∙ cond-true (is_cancel (entry_of rs n)) _ _ cancels
      ∙ ap (ended_at_once (as_if t f.starts) n) (result_as_if named r f.starts n (run_same named g calls m f) (calm.are_named n cancels)))
  by_cancel false other spared =
      starts spared other (sym is ∙ cond-false (is_doomed rs n) _ _ spared ∙ cond-false (is_cancel (entry_of rs n)) _ _ other) (is_named named r n) refl

  by_doom : (doomed : Bool) → is_doomed rs n ≡ doomed → IsFollowed named g calls next
  by_doom true doomed = grind (arith, ends, doomed_as_if)
  by_doom false spared = by_cancel (is_cancel (entry_of rs n)) refl spared

finish_followed : (named : ℕ → Bool) (g : Setup) (calls : List (List Sqe)) (m next : Moment) (n : ℕ) (f : IsFollowed named g calls m)
    → IsCalm named (as_if f.there f.starts) → is_finishable (as_if f.there f.starts).requests n ≡ true
    → finished (as_if f.there f.starts) n ≡ next → IsFollowed named g calls next
finish_followed named g calls m next n f calm can is = by_name (is_named named r n) refl where
  t : Moment
  t = f.there

  r : Requests
  r = f.there.requests

  rs : Requests
  rs = with_starts f.there.requests f.starts

  p : (nat_lt n (length r.accepted) ≡ true) × (is_running rs n ≡ true)
  p = and_parts (nat_lt n (length r.accepted)) (is_running rs n) can

  q : (has_started rs n ≡ true) × (not (has_ended r n) ≡ true)
  q = and_parts (has_started rs n) (not (has_ended r n)) p.1

  by_name : (names : Bool) → is_named named r n ≡ names → IsFollowed named g calls next
  by_name true names =
      let o = result_of t.files (operation_of (entry_of r n)) in
      follow_by named g calls m next (finished t n) (move.Finish n) f
      (can_then (is_finishable r n) (finished t n) (finished t n) (and_from (nat_lt n (length r.accepted)) (is_running r n) p.0 (sym (run_same named g calls m f n names) ∙ p.1)) refl)
      (λ k quiet. idle_ended r n o.res o.bytes r.cancelled k (f.idle k quiet)) f.starts (sym is) f.fewer f.named_too
  by_name false quiet =
      let t1 : Moment = started t n in
      let t2 : Moment = finished t1 n in
      let spared : is_doomed r n ≡ false = sym (doomed_as_if r f.starts n) ∙ (calm.sound.manual.started_free n q.0).spared in
      let other : is_cancel (entry_of r n) ≡ false = calm.sound.no_cancel n q.0 in
      let ready : is_ready r n ≡ true = sym (ready_as_if r f.starts n) ∙ calm.ready n p.1 in
      let starts : moved t (move.Issue n) ≡ Some t1 = can_then (is_issuable r n) (issued t n) t1 (issuable_so (is_outstanding r n) (is_running r n) (is_doomed r n) (is_ready r n) (and_from (nat_lt n (length r.accepted)) (not (has_ended r n)) p.0 q.1) (f.idle n quiet) (or_right (is_doomed r n) (is_ready r n) ready))
      (cond-false (is_doomed r n) _ _ spared ∙ cond-false (is_cancel (entry_of r n)) _ _ other) in
      let begun : has_started t1.requests n ≡ true = list_any_push (λ k. k == n) r.started n ∙ or_right (has_started r n) (n == n) (eq-eqb n n refl) in
      let ends : moved t1 (move.Finish n) ≡ Some t2 = can_then (is_finishable t1.requests n) (finished t1 n) t2 (and_from (nat_lt n (length r.accepted)) (is_running t1.requests n) p.0 (and_from (has_started t1.requests n) (not (has_ended r n)) begun q.1)) refl in
      let there : after_moves (starting g calls) (f.moves ++ move.Issue n ∷ []) ≡ Some t1 = leads_more g calls f.moves t t1 (move.Issue n) f.leads starts in
      record {
        moves = (f.moves ++ move.Issue n ∷ []) ++ move.Finish n ∷ [];
        there = t2;
        leads = leads_more g calls (f.moves ++ move.Issue n ∷ []) t1 t2 (move.Finish n) there ends;
        prompt = prompt_more named (f.moves ++ move.Issue n ∷ []) (starting g calls) t1 (move.Finish n) there (prompt_more named f.moves (starting g calls) t (move.Issue n) f.leads f.prompt (idle_prompt named t (move.Issue n) f.idle)) (λ k running quiet_k. ap (λ j. move.Finish j) (only_new r n k (f.idle k quiet_k) running));
        idle = λ k quiet_k. over_new r n _ _ k (f.idle k quiet_k);
        starts = f.starts;
        is = sym is;
        fewer = λ k now. elim (any_new (λ j. j == k) r.started n now) [
          | inl old ↦ f.fewer k old
          | inr new ↦ subst (IsAmong f.starts) (eqb-true n k new) q.0
        ];
        named_too = λ k names now. any_kept (λ j. j == k) r.started _ (f.named_too k names now);
      }

-- What is so stays so.

named_there : (P : Sqe → Type 0) (xs ys : List Sqe) → P zero_entry
    → ((n : ℕ) → P (get_or xs n zero_entry)) → All P ys → (n : ℕ) → P (get_or (xs ++ ys) n zero_entry)
named_there P xs ys none before also n =
    elim (cases_lt n (length xs)) [
      | inl low ↦ subst P (sym (get_or_append_left xs ys zero_entry n low)) (before n)
      | inr high ↦ (let j : n ≡ length xs + (n - length xs) = omega (arith, high) in
          subst P (sym (ap (λ k. get_or (xs ++ ys) k zero_entry) j ∙ get_or-append-add xs ys (n - length xs) zero_entry)) (by_place (n - length xs)))
    ] where
      by_place : (k : ℕ) → P (get_or ys k zero_entry)
      by_place k = elim (cases_lt k (length ys)) [
        | inl low ↦ also k zero_entry low
        | inr high ↦ subst P (sym (get_or-eq_default ys zero_entry high)) none
      ]

-- who runs after an end ran before
ran_before : (r : Requests) (n : ℕ) (res : ℤ) (bytes chosen : List ℕ) (k : ℕ)
    → is_running (with_ended (record r { cancelled = chosen }) n res bytes) k ≡ true
    → is_running r k ≡ true
ran_before r n res bytes chosen k running = grind (arith, idle_ended r n res bytes chosen k)

ready_chosen : (r : Requests) (chosen : List ℕ) (k : ℕ) → is_ready (record r { cancelled = chosen }) k ≡ is_ready r k
unfolding is_ready some_member is_joined
ready_chosen r chosen k = refl

ready_after : (r : Requests) (n : ℕ) (res : ℤ) (bytes chosen : List ℕ)
    → ((k : ℕ) → is_running r k ≡ true → is_ready r k ≡ true) → (k : ℕ)
    → is_running (with_ended (record r { cancelled = chosen }) n res bytes) k ≡ true
    → is_ready (with_ended (record r { cancelled = chosen }) n res bytes) k ≡ true
ready_after r n res bytes chosen ready k running =
    ready_end (record r { cancelled = chosen }) n res bytes k (ready_chosen r chosen k ∙ ready k (ran_before r n res bytes chosen k running))

accept_calm : (named : ℕ → Bool) (m next : Moment) → IsCalm named m → moved m move.Accept ≡ Some next → IsCalm named next
accept_calm named m next calm e = by_left m.left refl e where
  by_left : (left : List (List Sqe)) → m.left ≡ left → accepted m left ≡ Some next → IsCalm named next
  by_left [] is none = absurd cc
  by_left (call ∷ later) is some =
      let r : Requests = m.requests in
      let will : AreNamed named (call ∷ later) = subst (AreNamed named) is calm.will_be in
      subst (IsCalm named) (ap (λ o. unwrap_or o next) some)
      (record {
        sound = one_sound m move.Accept (record m { requests = with_call r call; left = later }) (ap (accepted m) is) calm.sound;
        ready = λ n running.
            (let within : n < length r.accepted = calm.sound.sound.started_accepted n (and_parts (has_started r n) (not (has_ended r n)) running).0 in
            ready_kept r call calm.sound.sound.cut_at_end n within ∙ calm.ready n running);
        are_named = named_there (λ e. is_cancel e ≡ true → named (addr_of e) ≡ true) r.accepted call (λ no. absurd cc) calm.are_named (All-head (NamesAll named) call later will);
        will_be = All-tail (NamesAll named) call later will;
      })

issue_calm : (named : ℕ → Bool) (m next : Moment) (n : ℕ) → IsCalm named m → is_issuable m.requests n ≡ true
    → issued m n ≡ next → IsCalm named next
issue_calm named m next n calm can is = subst (IsCalm named) is (by_doom (is_doomed m.requests n) refl) where
  sound_then : IsSoundMoment (issued m n).requests
  sound_then = one_sound m (move.Issue n) (issued m n) (can_then (is_issuable m.requests n) (issued m n) (issued m n) can refl) calm.sound

  runs : is_ready m.requests n ≡ true → (k : ℕ) → (has_started (with_started m.requests n) k ≡ true) × (not (has_ended m.requests k) ≡ true) → is_ready m.requests k ≡ true
  runs now k e = grind (arith, any_new, and_from)

  ends : (res : ℤ) → issued m n ≡ ended_at_once m n res → IsCalm named (issued m n)
  ends res so =
      subst (IsCalm named) (sym so) (record {
        sound = subst (λ (x : Moment). IsSoundMoment x.requests) so sound_then;
        ready = ready_after m.requests n res no_bytes (m.requests.cancelled ++ chosen_by m.requests n res) calm.ready;
        are_named = calm.are_named;
        will_be = calm.will_be;
      })

  by_cancel : (cancels : Bool) → is_cancel (entry_of m.requests n) ≡ cancels → is_doomed m.requests n ≡ false → IsCalm named (issued m n)
  by_cancel true cancels spared = grind (arith, ends, cond-false)
  by_cancel false other spared =
      let r : Requests = m.requests in
      let begins : issued m n ≡ started m n = cond-false (is_doomed r n) _ _ spared ∙ cond-false (is_cancel (entry_of r n)) _ _ other in
      let p = and_parts (is_outstanding r n && not (is_running r n)) (is_doomed r n || is_ready r n) can in
      let now : is_ready r n ≡ true = sym (ap (λ b. b || is_ready r n) spared) ∙ p.1 in
      subst (IsCalm named) (sym begins) (record {
        sound = subst (λ (x : Moment). IsSoundMoment x.requests) begins sound_then;
        ready = λ k running. ready_started r n k ∙ runs now k (and_parts (has_started (with_started r n) k) (not (has_ended r k)) running);
        are_named = calm.are_named;
        will_be = calm.will_be;
      })

  by_doom : (doomed : Bool) → is_doomed m.requests n ≡ doomed → IsCalm named (issued m n)
  by_doom true doomed = ends (doomed_result m.requests n) (cond-true (is_doomed m.requests n) _ _ doomed)
  by_doom false spared = by_cancel (is_cancel (entry_of m.requests n)) refl spared

finish_calm : (named : ℕ → Bool) (m next : Moment) (n : ℕ) → IsCalm named m → is_finishable m.requests n ≡ true
    → finished m n ≡ next → IsCalm named next
finish_calm named m next n calm can is =
    let o = result_of m.files (operation_of (entry_of m.requests n)) in
    subst (IsCalm named) is (record {
      sound = one_sound m (move.Finish n) (finished m n) (can_then (is_finishable m.requests n) (finished m n) (finished m n) can refl) calm.sound;
      ready = ready_after m.requests n o.res o.bytes m.requests.cancelled calm.ready;
      are_named = calm.are_named;
      will_be = calm.will_be;
    })

pub one_calm : (named : ℕ → Bool) (m next : Moment) (x : Move) → IsCalm named m → moved m x ≡ Some next
    → IsCalm named next
one_calm named m next move.Accept calm e = accept_calm named m next calm e
one_calm named m next (move.Issue n) calm e =
    let p = can_of (is_issuable m.requests n) (issued m n) next e in
    issue_calm named m next n calm p.0 p.1
one_calm named m next (move.Finish n) calm e =
    let p = can_of (is_finishable m.requests n) (finished m n) next e in
    finish_calm named m next n calm p.0 p.1

pub first_calm : (named : ℕ → Bool) (g : Setup) (calls : List (List Sqe)) → AreNamed named calls
    → IsCalm named (starting g calls)
first_calm named g calls names = grind arith

record IsFollowedCalmly (named : ℕ → Bool) (g : Setup) (calls : List (List Sqe)) (m : Moment) : Type 0 where
  calm : IsCalm named m
  followed : IsFollowed named g calls m

one_followed : (named : ℕ → Bool) (g : Setup) (calls : List (List Sqe)) (m next : Moment) (x : Move)
    → IsFollowedCalmly named g calls m → moved m x ≡ Some next → IsFollowedCalmly named g calls next
one_followed named g calls m next move.Accept f e = record {
  calm = one_calm named m next move.Accept f.calm e;
  followed = accept_followed named g calls m next f.followed (subst (IsCalm named) f.followed.is f.calm) (subst (λ y. moved y move.Accept ≡ Some next) f.followed.is e);
}
one_followed named g calls m next (move.Issue n) f e =
    let p = can_of (is_issuable m.requests n) (issued m n) next e in
    record {
      calm = one_calm named m next (move.Issue n) f.calm e;
      followed = issue_followed named g calls m next n f.followed (subst (IsCalm named) f.followed.is f.calm) (subst (λ (y : Moment). is_issuable y.requests n ≡ true) f.followed.is p.0) (subst (λ y. issued y n ≡ next) f.followed.is p.1);
    }
one_followed named g calls m next (move.Finish n) f e =
    let p = can_of (is_finishable m.requests n) (finished m n) next e in
    record {
      calm = one_calm named m next (move.Finish n) f.calm e;
      followed = finish_followed named g calls m next n f.followed (subst (IsCalm named) f.followed.is f.calm) (subst (λ (y : Moment). is_finishable y.requests n ≡ true) f.followed.is p.0) (subst (λ y. finished y n ≡ next) f.followed.is p.1);
    }

pub prompt_moves_lead : PromptMovesLead
prompt_moves_lead g calls named posted files names to =
    let begun : IsFollowedCalmly named g calls (starting g calls) = record {
      calm = first_calm named g calls names;
      followed = record { moves = []; there = starting g calls; leads = refl; prompt = tt; idle = λ n quiet. refl; starts = []; is = refl; fewer = λ n no. no; named_too = λ n names no. no };
    } in
    let f = (kept_on (IsFollowedCalmly named g calls) (one_followed named g calls) to.moves (starting g calls) to.last begun to.leads).followed in
    let over : IsOver (as_if f.there f.starts) = subst IsOver f.is to.over in (
      record {
        moves = f.moves;
        last = f.there;
        leads = f.leads;
        over = record { none_left = over.none_left; none_outstanding = over.none_outstanding };
        posts = ap (λ (x : Moment). x.posted) (sym f.is) ∙ to.posts;
        leaves = ap (λ (x : Moment). x.files) (sym f.is) ∙ to.leaves;
      },
      f.prompt,
    )
