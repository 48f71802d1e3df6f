-- The law `direct_moves_lead`: prompt moves are followed by direct ones, which run ahead of them by calls that no cancel tells of.
use Rattle.std.proofs.Common.{◌≡◌, ℕ, zero, suc, ◌<◌, Bool, false, not, List, [], ◌∷◌, length, Option, Some, None, refl, sym, subst, ap, ◌∙◌, ◌⊎◌, inl, inr, arith}
use Rattle.uring_outcomes.proofs.Common.{All-cons, All-head, All-nil, All-tail, AreDirect, ArePrompt, AreUnnamed, DirectMovesLead, IsDirect, IsNextUnnamed, IsOver, IsPrompt, Moment, Move, Sqe, accepted, after_moves, and_parts, both_ways, cases_Bool, entry_kept, has_ended, has_started, moved, option_and_then, starting, user_data_of}
use Rattle.uring_outcomes.specs.declared.move_of_calls.Move.TheVariants as move
use Rattle.uring_outcomes.proofs.Prompting.{IsCalm, one_calm, first_calm, prompt_moves_lead}
use Rattle.uring_outcomes.proofs.CallsAhead.{called, issue_after, finish_after}

-- Moments that run ahead.

-- the second is the first with so many of the next calls accepted, all of them unnamed
abbrev IsAhead : (ℕ → Bool) → ℕ → Moment → Moment → Type 0
IsAhead named zero m there = m ≡ there
IsAhead named (suc k) m there =
    (e : IsNextUnnamed named m) × IsAhead named k (called m e.call e.later) there

accept_next : (named : ℕ → Bool) (m : Moment) (e : IsNextUnnamed named m)
    → moved m move.Accept ≡ Some (called m e.call e.later)
accept_next named m e = ap (accepted m) e.left

calm_called : (named : ℕ → Bool) (m : Moment) (e : IsNextUnnamed named m) → IsCalm named m
    → IsCalm named (called m e.call e.later)
calm_called named m e calm =
    one_calm named m (called m e.call e.later) move.Accept calm (accept_next named m e)

left_kept : (m next : Moment) (x : Move) → (x ≡ move.Accept → ⊥) → moved m x ≡ Some next
    → next.left ≡ m.left
left_kept m next x other e = grind arith

-- such a move can be made one call ahead
one_after : (named : ℕ → Bool) (m next : Moment) (x : Move) (e : IsNextUnnamed named m)
    → (x ≡ move.Accept → ⊥) → IsCalm named m → moved m x ≡ Some next
    → moved (called m e.call e.later) x ≡ Some (called next e.call e.later)
one_after named m next move.Accept e other calm made = absurd (other refl)
one_after named m next (move.Issue n) e other calm made =
    issue_after named m e.call e.later calm.sound.sound.cut_at_end e.unnamed n next (calm.are_named n) made
one_after named m next (move.Finish n) e other calm made =
    finish_after named m e.call e.later calm.sound.sound.cut_at_end e.unnamed n next made

record IsMovedAhead (named : ℕ → Bool) (k : ℕ) (next there : Moment) (x : Move) : Type 0 where
  last : Moment
  made : moved there x ≡ Some last
  ahead : IsAhead named k next last

-- and any number of calls ahead
moved_ahead : (named : ℕ → Bool) (k : ℕ) (m next there : Moment) (x : Move) → (x ≡ move.Accept → ⊥)
    → IsCalm named m → moved m x ≡ Some next → IsAhead named k m there → IsMovedAhead named k next there x
moved_ahead named zero m next there x other calm made ahead = grind arith
moved_ahead named (suc k) m next there x other calm made (e, ahead) =
    let f = moved_ahead named k (called m e.call e.later) (called next e.call e.later) there x other (calm_called named m e calm) (one_after named m next x e other calm made) ahead in
    record {
      last = f.last;
      made = f.made;
      ahead = (record { call = e.call; later = e.later; left = left_kept m next x other made ∙ e.left; unnamed = e.unnamed }, f.ahead);
    }

-- what is prompt is prompt ahead
prompt_ahead : (named : ℕ → Bool) (k : ℕ) (m there : Moment) (x : Move) → IsCalm named m → IsAhead named k m there
    → IsPrompt named m x → IsPrompt named there x
prompt_ahead named zero m there x calm ahead prompt = subst (λ y. IsPrompt named y x) ahead prompt
prompt_ahead named (suc k) m there x calm (e, ahead) prompt =
    prompt_ahead named k (called m e.call e.later) there x (calm_called named m e calm) ahead
    (λ n running quiet. (let low : n < length m.requests.accepted = calm.sound.sound.started_accepted n (and_parts (has_started m.requests n) (not (has_ended m.requests n)) running).0 in
    prompt n running (sym (ap (λ y. named (user_data_of y)) (entry_kept m.requests e.call calm.sound.sound.cut_at_end n low)) ∙ quiet)))

-- Direct moves to an end.

record IsLed (named : ℕ → Bool) (m last : Moment) : Type 0 where
  moves : List Move
  leads : after_moves m moves ≡ Some last
  direct : AreDirect named m moves

same_some : (m n : Moment) → Some m ≡ Some n → m ≡ n
same_some m n e = cc

led_by : (named : ℕ → Bool) (m next last : Moment) (x : Move) → moved m x ≡ Some next
    → IsDirect named m x → IsLed named next last → IsLed named m last
led_by named m next last x made direct to = record {
  moves = x ∷ to.moves;
  leads = ap (option_and_then (λ y. after_moves y to.moves)) made ∙ to.leads;
  direct = (direct, λ y is. subst (λ z. AreDirect named z to.moves) (same_some next y (sym made ∙ is)) to.direct);
}

unnamed_or : (named : ℕ → Bool) (entries : List Sqe)
    → AreUnnamed named entries ⊎ (AreUnnamed named entries → ⊥)
unnamed_or named [] = inl (All-nil (λ e. named (user_data_of e) ≡ false))
unnamed_or named (e ∷ later) =
    elim (cases_Bool (named (user_data_of e))) [
      | inl names ↦ inr (λ none. both_ways (named (user_data_of e)) (All-head (λ x. named (user_data_of x) ≡ false) e later none) names)
      | inr quiet ↦ elim (unnamed_or named later) [
        | inl none ↦ inl (All-cons (λ x. named (user_data_of x) ≡ false) e later quiet none)
        | inr some ↦ inr (λ none. some (All-tail (λ x. named (user_data_of x) ≡ false) e later none))
      ]
    ]

-- a moment with each of the next calls accepted that is unnamed
record IsCaughtUp (named : ℕ → Bool) (m : Moment) : Type 0 where
  k : ℕ
  there : Moment
  ahead : IsAhead named k m there
  done : IsNextUnnamed named there → ⊥
  back : (last : Moment) → IsLed named there last → IsLed named m last

first_call : (call other : List Sqe) (later others : List (List Sqe)) → call ∷ later ≡ other ∷ others → other ≡ call
first_call call other later others e = cc

caught_up : (named : ℕ → Bool) (left : List (List Sqe)) (m : Moment) → m.left ≡ left
    → IsCaughtUp named m
caught_up named [] m none = grind arith
caught_up named (call ∷ later) m is =
    elim (unnamed_or named call) [
      | inl unnamed ↦
          let e : IsNextUnnamed named m = record { call = call; later = later; left = is; unnamed = unnamed } in
          let c = caught_up named later (called m call later) refl in record {
            k = suc c.k;
            there = c.there;
            ahead = (e, c.ahead);
            done = c.done;
            back = λ last to. led_by named m (called m call later) last move.Accept (accept_next named m e) (record { accepts = λ f. refl; prompt = λ no. absurd (no e) }) (c.back last to);
          }
      | inr names ↦ record {
        k = 0;
        there = m;
        ahead = refl;
        done = λ e. names (subst (AreUnnamed named) (first_call call e.call later e.later (sym is ∙ e.left)) e.unnamed);
        back = λ last to. to;
      }
    ]

-- The moves are followed, one by one.

abbrev Follows : (ℕ → Bool) → List Move → Moment → Type 0
Follows named moves last = (k : ℕ) (m there : Moment) → IsCalm named m → IsAhead named k m there
    → (IsNextUnnamed named there → ⊥) → ArePrompt named m moves → after_moves m moves ≡ Some last
    → IsLed named there last

-- a call is accepted: those ahead have accepted it, or accept it now, and the unnamed ones after it
accept_on : (named : ℕ → Bool) (k : ℕ) (m next there last : Moment) (later : List Move) → Follows named later last
    → IsCalm named m → IsAhead named k m there → (IsNextUnnamed named there → ⊥)
    → IsPrompt named m move.Accept → moved m move.Accept ≡ Some next → ArePrompt named next later
    → after_moves next later ≡ Some last → IsLed named there last
accept_on named zero m next there last later go_on calm ahead done prompt made are_prompt leads =
    let c = caught_up named next.left next refl in
    let to = c.back last (go_on c.k next c.there (one_calm named m next move.Accept calm made) c.ahead c.done are_prompt leads) in
    subst (λ y. IsLed named y last) ahead
    (led_by named m next last move.Accept made (record { accepts = λ e. refl; prompt = λ no. prompt }) to)
accept_on named (suc k) m next there last later go_on calm (e, ahead) done prompt made are_prompt leads =
    let same : called m e.call e.later ≡ next = same_some (called m e.call e.later) next (sym (accept_next named m e) ∙ made) in
    go_on k next there (one_calm named m next move.Accept calm made) (subst (λ y. IsAhead named k y there) same ahead) done are_prompt leads

-- another move is made, as it is ahead
other_on : (named : ℕ → Bool) (k : ℕ) (m next there last : Moment) (x : Move) (later : List Move) → (x ≡ move.Accept → ⊥)
    → Follows named later last → IsCalm named m → IsAhead named k m there
    → (IsNextUnnamed named there → ⊥) → IsPrompt named m x → moved m x ≡ Some next
    → ArePrompt named next later → after_moves next later ≡ Some last → IsLed named there last
other_on named k m next there last x later other go_on calm ahead done prompt made are_prompt leads =
    let f = moved_ahead named k m next there x other calm made ahead in
    let still : IsNextUnnamed named f.last → ⊥ = λ e. done (record { call = e.call; later = e.later; left = sym (left_kept there f.last x other f.made) ∙ e.left; unnamed = e.unnamed }) in
    led_by named there f.last last x f.made
    (record { accepts = λ e. absurd (done e); prompt = λ no. prompt_ahead named k m there x calm ahead prompt })
    (go_on k next f.last (one_calm named m next x calm made) f.ahead still are_prompt leads)

one_on : (named : ℕ → Bool) (k : ℕ) (m next there last : Moment) (x : Move) (later : List Move)
    → Follows named later last → IsCalm named m → IsAhead named k m there
    → (IsNextUnnamed named there → ⊥) → IsPrompt named m x → moved m x ≡ Some next
    → ArePrompt named next later → after_moves next later ≡ Some last → IsLed named there last
one_on named k m next there last move.Accept later go_on calm ahead done prompt made are_prompt leads = grind (arith, accept_on)
one_on named k m next there last (move.Issue n) later go_on calm ahead done prompt made are_prompt leads =
    other_on named k m next there last (move.Issue n) later (λ no. (let e : move.Issue n ≡ move.Accept = no in cc)) go_on calm ahead done prompt made are_prompt leads
one_on named k m next there last (move.Finish n) later go_on calm ahead done prompt made are_prompt leads =
    other_on named k m next there last (move.Finish n) later (λ no. (let e : move.Finish n ≡ move.Accept = no in cc)) go_on calm ahead done prompt made are_prompt leads

-- at an end no call is left that could have been accepted ahead
over_there : (named : ℕ → Bool) (k : ℕ) (m there : Moment) → IsOver m → IsAhead named k m there → there ≡ m
over_there named k m there over ahead = grind arith

all_on : (named : ℕ → Bool) (moves : List Move) (last : Moment) → IsOver last → Follows named moves last
all_on named [] last over k m there calm ahead done prompt leads = grind (arith, over_there)
all_on named (x ∷ later) last over k m there calm ahead done prompt leads =
    by_first (moved m x) refl leads (all_on named later last over) where
      by_first : (next : Option Moment) → moved m x ≡ next → option_and_then (λ n. after_moves n later) next ≡ Some last → Follows named later last → IsLed named there last
      by_first None is none go_on = absurd cc
      by_first (Some next) is some go_on =
          one_on named k m next there last x later go_on calm ahead done prompt.0 is (prompt.1 next is) some

pub direct_moves_lead : DirectMovesLead
direct_moves_lead g calls named posted files names to =
    let q = prompt_moves_lead g calls named posted files names to in
    let c = caught_up named calls (starting g calls) refl in
    let d = c.back q.0.last (all_on named q.0.moves q.0.last q.0.over c.k (starting g calls) c.there (first_calm named g calls names) c.ahead c.done q.1 q.0.leads) in (
      record {
        moves = d.moves;
        last = q.0.last;
        leads = d.leads;
        over = q.0.over;
        posts = q.0.posts;
        leaves = q.0.leaves;
      },
      d.direct,
    )
