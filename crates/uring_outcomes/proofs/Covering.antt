-- That what a walk over all lists of moves has found is what they lead to: `next_are` and `visited` where a path is visited, `all_found` once all were.
use Rattle.std.proofs.Common.{◌≡◌, ℕ, ◌≤◌, ◌<◌, Bool, true, false, List, [], ◌∷◌, ◌++◌, length, get_or, Option, Some, None, refl, sym, subst, ap, ap₂, ◌∙◌, arith, ◌⊎◌, inl, inr, append_assoc, append-nil}
use Rattle.std.specs.Prelude.{IsSome}
use Rattle.uring_walk.specs.Paths.{AreNext, AreOnce, Follows, IsPath}
use Rattle.uring_walk.specs.Walks.{IsLeft, IsWalked}
use Rattle.uring_walk.specs.declared.visits.End.{End}
use Rattle.uring_walk.specs.declared.visits.End.TheVariants as ended
use Rattle.uring_walk.proofs.PathLists.{none_there}
use Rattle.uring_outcomes.specs.declared.stage.Stage.{Stage}
use Rattle.uring_outcomes.specs.declared.endings.Endings.{Endings}
use Rattle.uring_outcomes.proofs.MovesLead.{one_move_more}
use Rattle.uring_outcomes.proofs.Moving.{over_stays}
use Rattle.uring_outcomes.proofs.Common.{AddsOnce, AreAllEndings, AreDirect, AreEndings, AreNamed, CanCome, CanEnd, Contains, Contains-append_left, Contains-get_or, Contains-push, Contains-push_cases, Ending, HasFound, HasNext, HasNoted, IsDirect, IsDue, IsIndexed, IsOver, IsSpot, IsStage, MadeAs, Moment, Move, Setup, Sqe, StandsAt, StoppedWith, TookPaths, after_moves, among, both_ways, ending_of, moved, option_and_then, starting}
use Rattle.std.proofs.lemmas.List.Quantifiers.{all_pairs_push}
use Rattle.uring_outcomes.proofs.Directing.{direct_moves_lead}

-- Moves after moves.

then_same : (o : Option Moment) (f h : Moment → Option Moment) → ((y : Moment) → f y ≡ h y)
    → option_and_then f o ≡ option_and_then h o
then_same o f h e = grind arith

nested : (o : Option Moment) (f h : Moment → Option Moment)
    → option_and_then (λ y. option_and_then h (f y)) o ≡ option_and_then h (option_and_then f o)
nested o f h = grind arith

pub moves_after : (path rest : List Move) (m : Moment)
    → after_moves m (path ++ rest) ≡ option_and_then (λ y. after_moves y rest) (after_moves m path)
moves_after [] rest m = refl
moves_after (x ∷ path) rest m =
    then_same (moved m x) (λ y. after_moves y (path ++ rest)) (λ y. option_and_then (λ z. after_moves z rest) (after_moves y path)) (λ y. moves_after path rest y)
    ∙ nested (moved m x) (λ y. after_moves y path) (λ z. after_moves z rest)

same_some : (m n : Moment) → Some m ≡ Some n → m ≡ n
same_some m n e = cc

-- What is visited.

pub some_is : (o : Option Moment) (m : Moment) → o ≡ Some m → IsSome o
some_is o m is = subst IsSome (sym is) refl

pub some_tells : (o : Option Moment) → IsSome o → (m : Moment) × (o ≡ Some m)
some_tells None some = absurd (let f : false ≡ true = some in cc)
some_tells (Some m) some = (m, refl)

pub same_here : (g : Setup) (calls : List (List Sqe)) (path : List Move) (m n : Moment)
    → after_moves (starting g calls) path ≡ Some m → after_moves (starting g calls) path ≡ Some n → m ≡ n
same_here g calls path m n one other = same_some m n (sym one ∙ other)

pub one_further : (g : Setup) (calls : List (List Sqe)) (path : List Move) (x : Move) (m next : Moment)
    → after_moves (starting g calls) path ≡ Some m → moved m x ≡ Some next
    → after_moves (starting g calls) (path ++ x ∷ []) ≡ Some next
one_further g calls path x m next leads is =
    one_move_more path (starting g calls) x ∙ (ap (option_and_then (λ z. moved z x)) leads ∙ is)

-- direct moves are due
direct_follows : (g : Setup) (calls : List (List Sqe)) (names : List ℕ) (before later : List Move) (m last : Moment)
    → after_moves (starting g calls) before ≡ Some m → AreDirect (among names) m later
    → after_moves m later ≡ Some last → Follows (IsDue g calls names) before later
direct_follows g calls names before [] m last leads direct ends = tt
direct_follows g calls names before (x ∷ later) m last leads direct ends =
    by_next (moved m x) refl ends (λ next is e. direct_follows g calls names (before ++ x ∷ []) later next last (one_further g calls before x m next leads is) (direct.1 next is) e) where
      by_next : (o : Option Moment) → moved m x ≡ o → option_and_then (λ n. after_moves n later) o ≡ Some last → ((next : Moment) → moved m x ≡ Some next → after_moves next later ≡ Some last → Follows (IsDue g calls names) (before ++ x ∷ []) later) → Follows (IsDue g calls names) before (x ∷ later)
      by_next None is e rest = absurd cc
      by_next (Some next) is e rest = (record { here = m; next = next; leads = leads; made = is; direct = direct.0 }, rest next is e)

-- what can come can be made
pub path_made : (g : Setup) (calls : List (List Sqe)) (before later : List Move) (m : Moment)
    → after_moves (starting g calls) before ≡ Some m → Follows (CanCome g calls) before later
    → IsSome (after_moves (starting g calls) (before ++ later))
path_made g calls before [] m leads follows =
    some_is (after_moves (starting g calls) (before ++ [])) m (ap (after_moves (starting g calls)) (append-nil before) ∙ leads)
path_made g calls before (x ∷ later) m leads follows =
    let come : CanCome g calls before x = follows.0 in
    let next = some_tells (moved come.here x) come.can in
    subst (λ p. IsSome (after_moves (starting g calls) p)) (append_assoc before (x ∷ []) later)
    (path_made g calls (before ++ x ∷ []) later next.0 (one_further g calls before x come.here next.0 come.leads next.1) follows.1)

pub next_are : (g : Setup) (calls : List (List Sqe)) (names : List ℕ) (path xs : List Move) (m : Moment)
    → after_moves (starting g calls) path ≡ Some m → HasNext names m xs
    → AreNext (IsDue g calls names path) (CanCome g calls path) xs
next_are g calls names path xs m leads has = record {
  all = λ x due.
      let same : due.here ≡ m = same_here g calls path due.here m due.leads leads in
      has.all x due.next (subst (λ n. moved n x ≡ Some due.next) same due.made) (subst (λ n. IsDirect (among names) n x) same due.direct);
  right = λ x there. record { here = m; leads = leads; can = has.right x there };
  once = has.once;
}

-- nothing comes after an end
pub none_next : (g : Setup) (calls : List (List Sqe)) (names : List ℕ) (path xs : List Move) (m : Moment)
    → after_moves (starting g calls) path ≡ Some m → IsOver m → xs ≡ []
    → AreNext (IsDue g calls names path) (CanCome g calls path) xs
none_next g calls names path xs m leads over none =
    subst (AreNext (IsDue g calls names path) (CanCome g calls path)) (sym none) (record {
      all = λ x due. absurd (over_stays due.here due.next x (subst IsOver (same_here g calls path m due.here leads due.leads) over) due.made);
      right = λ x there. absurd (none_there x there);
      once = λ i j d low within. absurd (omega arith);
    })

-- the stage one move on
pub made_so : (b : Bool) (o : Option Moment) (P : Moment → Type 0) → MadeAs b o P → IsSome o → b ≡ true
made_so b None P made some = absurd (let f : false ≡ true = some in cc)
made_so b (Some m) P made some = made.0

pub stage_on : (g : Setup) (calls : List (List Sqe)) (path : List Move) (x : Move) (old new : Stage) (made : Bool)
    → IsStage g calls old path → CanCome g calls path x
    → ((m : Moment) → StandsAt calls old.run m → MadeAs made (moved m x) (StandsAt calls new.run))
    → new.path.items ≡ old.path.items ++ x ∷ []
    → IsStage g calls new (path ++ x ∷ [])
stage_on g calls path x old new made stage come makes is =
    let here : come.here ≡ stage.led.last = same_here g calls path come.here stage.led.last come.leads stage.led.leads in
    let next = some_tells (moved stage.led.last x) (subst (λ m. IsSome (moved m x)) here come.can) in
    let at : MadeAs made (Some next.0) (StandsAt calls new.run) = subst (λ o. MadeAs made o (StandsAt calls new.run)) next.1 (makes stage.led.last stage.led.at) in
    record {
      is = is ∙ ap (λ p. p ++ x ∷ []) stage.is;
      led = record { last = next.0; leads = one_further g calls path x stage.led.last next.0 stage.led.leads next.1; at = at.1 };
    }

pub can_here : (g : Setup) (calls : List (List Sqe)) (path : List Move) (x : Move) (stage : Stage)
    → (at : IsStage g calls stage path) → CanCome g calls path x → IsSome (moved at.led.last x)
can_here g calls path x stage at come =
    subst (λ m. IsSome (moved m x)) (same_here g calls path come.here at.led.last come.leads at.led.leads) come.can

-- a stage that was made anew
pub stage_anew : (g : Setup) (calls : List (List Sqe)) (kept path : List Move) (stage : Stage) (made : Bool)
    → IsSpot g calls kept path → stage.path.items ≡ kept
    → MadeAs made (after_moves (starting g calls) kept) (StandsAt calls stage.run)
    → IsStage g calls stage path
stage_anew g calls kept path stage made spot is makes =
    let last = some_tells (after_moves (starting g calls) path) spot.can in
    let at : MadeAs made (Some last.0) (StandsAt calls stage.run) = subst (λ o. MadeAs made o (StandsAt calls stage.run)) (ap (after_moves (starting g calls)) spot.is ∙ last.1) makes in
    record { is = is ∙ spot.is; led = record { last = last.0; leads = last.1; at = at.1 } }

pub spot_made : (g : Setup) (calls : List (List Sqe)) (kept path : List Move) (made : Bool) (P : Moment → Type 0)
    → IsSpot g calls kept path → MadeAs made (after_moves (starting g calls) kept) P → made ≡ true
spot_made g calls kept path made P spot makes =
    made_so made (after_moves (starting g calls) kept) P makes (subst (λ p. IsSome (after_moves (starting g calls) p)) (sym spot.is) spot.can)

pub comes_on : (g : Setup) (calls : List (List Sqe)) (path : List Move) (x : Move) → CanCome g calls path x
    → IsSome (after_moves (starting g calls) (path ++ x ∷ []))
comes_on g calls path x come =
    let next = some_tells (moved come.here x) come.can in
    some_is (after_moves (starting g calls) (path ++ x ∷ [])) next.0 (one_further g calls path x come.here next.0 come.leads next.1)

pub spot_longer : (g : Setup) (calls : List (List Sqe)) (path : List Move) (x : Move) (stage : Stage) (kept : List Move)
    → IsStage g calls stage path → CanCome g calls path x → kept ≡ stage.path.items ++ x ∷ []
    → IsSpot g calls kept (path ++ x ∷ [])
spot_longer g calls path x stage kept at come is =
    record { is = is ∙ ap (λ p. p ++ x ∷ []) at.is; can = comes_on g calls path x come }

pub none_listed : (xs : List Move) (x : Move) → xs ≡ [] → Contains xs x → ⊥
none_listed xs x none there = none_there x (subst (λ ys. Contains ys x) none there)

-- What was found.

right_on : (g : Setup) (calls : List (List Sqe)) (path : List Move) (m : Moment) (found noted : List Ending)
    → after_moves (starting g calls) path ≡ Some m → HasNoted m found noted
    → AreEndings g calls found → AreEndings g calls noted
right_on g calls path m found noted leads n right e there =
    elim (n.right e there) [
      | inl old ↦ right e old
      | inr new ↦ subst (CanEnd g calls) (sym new.1) (record {
        moves = path;
        last = m;
        leads = leads;
        over = new.0;
        posts = refl;
        leaves = refl;
      })
    ]

-- an ending was noted, if there is one
pub visited : (g : Setup) (calls : List (List Sqe)) (path : List Move) (seen : List (List Move)) (m : Moment) (old new : Endings)
    → after_moves (starting g calls) path ≡ Some m → HasNoted m old.list.items new.list.items → IsIndexed new
    → HasFound g calls old seen → HasFound g calls new (seen ++ path ∷ [])
visited g calls path seen m old new leads n indexed has = record {
  all = λ p last there ends over. elim (Contains-push_cases seen path p there) [
    | inl was ↦ n.kept (ending_of last) (has.all p last was ends over)
    | inr this ↦ (
        let same : m ≡ last = same_here g calls path m last leads (ap (after_moves (starting g calls)) this ∙ ends) in
        subst (λ y. Contains new.list.items (ending_of y)) same (n.noted (subst IsOver (sym same) over)))
  ];
  right = right_on g calls path m old.list.items new.list.items leads n has.right;
  once = n.once has.once;
  indexed = indexed;
}

-- Once each path was visited, each ending is there.
pub all_found : (g : Setup) (calls : List (List Sqe)) (names : List ℕ) (found : Endings) (seen : List (List Move))
    → AreNamed (among names) calls → HasFound g calls found seen
    → ((path : List Move) → IsPath (IsDue g calls names) path → Contains seen path)
    → AreAllEndings g calls found.list.items
all_found g calls names found seen named has covers e = (has.right e, there) where
  there : CanEnd g calls e → Contains found.list.items e
  there to =
      let q = direct_moves_lead g calls (among names) e.posted e.files named to in
      let d = q.0 in
      let same : ending_of d.last ≡ e = ap₂ (λ posted files. record { posted = posted; files = files }) d.posts d.leaves in
      subst (Contains found.list.items) same (has.all d.moves d.last (covers d.moves (direct_follows g calls names [] d.moves (starting g calls) d.last refl q.1 d.leads)) d.leads d.over)

abbrev pub took_paths : (g : Setup) (calls : List (List Sqe)) (most : ℕ) (seen : List (List Move)) → length seen ≡ most
    → AreOnce seen → ((path : List Move) → Contains seen path → IsPath (CanCome g calls) path)
    → IsLeft (CanCome g calls) seen → TookPaths g calls most
took_paths g calls most seen many once right left = record {
  paths = seen;
  many = many;
  differ = once;
  can = λ path there. path_made g calls [] path (starting g calls) refl (right path there);
  left = left.path;
  can_left = path_made g calls [] left.path (starting g calls) refl left.is_path;
  untaken = left.unseen;
}

-- why it ended
pub not_whole : (g : Setup) (calls : List (List Sqe)) (names : List ℕ) (most : ℕ) (seen : List (List Move)) (end : End) (found : Endings) (b : Bool)
    → ((b ≡ true → end ≡ ended.All) × (end ≡ ended.All → b ≡ true)) → b ≡ false → HasFound g calls found seen
    → IsWalked (IsDue g calls names) (CanCome g calls) (λ p. ⊥) most seen end
    → StoppedWith g calls most found.list.items
not_whole g calls names most seen ended.All found b whole off has walked = absurd (both_ways b off (whole.1 refl))
not_whole g calls names most seen ended.Found found b whole off has walked = absurd walked.ends.is_sought
not_whole g calls names most seen ended.Limit found b whole off has walked =
    record { took = took_paths g calls most seen walked.ends.0 walked.once walked.right walked.ends.1; noted = has.all }

pub is_whole : (g : Setup) (calls : List (List Sqe)) (names : List ℕ) (most : ℕ) (seen : List (List Move)) (end : End) (found : Endings)
    → end ≡ ended.All → AreNamed (among names) calls → HasFound g calls found seen
    → IsWalked (IsDue g calls names) (CanCome g calls) (λ p. ⊥) most seen end → AreAllEndings g calls found.list.items
is_whole g calls names most seen end found is named has walked =
    let at_end : IsWalked (IsDue g calls names) (CanCome g calls) (λ p. ⊥) most seen ended.All = subst (IsWalked (IsDue g calls names) (CanCome g calls) (λ p. ⊥) most seen) is walked in
    all_found g calls names found seen named has at_end.ends.0

-- nothing was visited
pub found_none : (g : Setup) (calls : List (List Sqe)) (found : Endings) → found.list.items ≡ [] → IsIndexed found
    → HasFound g calls found []
found_none g calls found none indexed = record {
  all = λ path last there ends over. absurd (none_there path there);
  right = subst (AreEndings g calls) (sym none) (λ e there. absurd (none_there e there));
  once = subst AreOnce (sym none) (λ i j d low within. absurd (omega arith));
  indexed = indexed;
}

-- An ending is noted.

same_there : {X : Type 0} (xs : List X) (y x : X) → y ≡ x → Contains xs y → Contains xs x
same_there xs y x is there = subst (Contains xs) is there

not_again : (found : List Ending) (e : Ending) → (Contains found e → ⊥) → AreOnce found → AreOnce (found ++ e ∷ [])
not_again found e new once =
    all_pairs_push (λ a b. a ≡ b → ⊥) found e once (λ k d low is. new (same_there found (get_or found k d) e is (Contains-get_or found k d low)))

pub noted_over : (m : Moment) (old new : List Ending) → IsOver m → AddsOnce (ending_of m) old new
    → HasNoted m old new
noted_over m old new over adds =
    elim adds [
      | inl there ↦ record {
        kept = λ e has. subst (λ xs. Contains xs e) (sym there.0) has;
        right = λ e has. inl (subst (λ xs. Contains xs e) there.0 has);
        noted = λ o. subst (λ xs. Contains xs (ending_of m)) (sym there.0) there.1;
        once = λ o. subst AreOnce (sym there.0) o;
      }
      | inr more ↦ record {
        kept = λ e has. subst (λ xs. Contains xs e) (sym more.0) (Contains-append_left old (ending_of m ∷ []) e has);
        right = λ e has. elim (Contains-push_cases old (ending_of m) e (subst (λ xs. Contains xs e) more.0 has)) [
          | inl was ↦ inl was
          | inr is ↦ inr (over, sym is)
        ];
        noted = λ o. subst (λ xs. Contains xs (ending_of m)) (sym more.0) (Contains-push old (ending_of m));
        once = λ o. subst AreOnce (sym more.0) (not_again old (ending_of m) more.1 o);
      }
    ]

pub none_noted : (m : Moment) (found : List Ending) → (IsOver m → ⊥) → HasNoted m found found
none_noted m found goes = grind arith
