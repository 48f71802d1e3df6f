-- A step that keeps the agreement keeps the rule, and so do the cutting of the first seat and the joining of two: of any table of two sides.
use Rattle.std.proofs.Common.{◌≡◌, ℕ, ◌-◌, true, List, [], ◌∷◌, ◌++◌, length, get_or, set, arith, ◌⊎◌}
use mathlib.Core.Option.{some}
use lib.ListN.{get_elem?}
use Rattle.atomic_table.specs.Table.{Me, keeps, opening, Allows, Splits, Joins}
use Rattle.atomic_table.proofs.Lists.{at_set}
use Rattle.uring_words.specs.Sides.{AgreeBy, both_know, with_app, with_kernel, app_part, kernel_part, both_parts, spent_with}
use Rattle.uring_words.specs.declared.sides.View.{View}

-- a view at a place of a longer list is there in the shorter one, or is the last
at_longer : {A : Type 0} (l : List A) (a b : A) (j : ℕ) → get_elem? (l ++ a ∷ []) j ≡ some b
    → (get_elem? l j ≡ some b) ⊎ ((j ≡ length l) × (a ≡ b))
at_longer [] a b j e = grind (arith, get_elem?)
at_longer (x ∷ xs) a b j e = grind (arith, get_elem?, at_longer xs a b (j - 1))

module _ {A D : Type 0} {Agree : List ℕ → A → D → Type 0} where
  -- A step of the application's seat, if the agreement is kept whatever the words and what the dispatcher knows are.
  pub app_step : (slots id i : ℕ) (f : ℕ → ℕ) (me : Me (Unit {0}) (View A D)) (then : ℕ → Me (Unit {0}) (View A D) → Type 0)
      → me.0.is_app ≡ true
      → ((words : List ℕ) (d : D) → Agree words me.0.app d → (me.0.is_kernel ≡ true → me.0.kernel ≡ d) → (b : A) × Agree (set words i (f (get_or words i 0))) b d × then (get_or words i 0) (with_app me b))
      → Allows (AgreeBy Agree) slots id me i f then
  app_step slots id i f me then is_app asked s kept _ at _ =
      let knows = kept.seats id me.0 at in
      let r = asked s.words kept.kernel (rw (knows.app is_app).1 kept.agree) (λ is. (knows.kernel is).1) in (
        record me.0 { app = r.0 },
        keeps,
        tt,
        record {
          app_seat = kept.app_seat;
          kernel_seat = kept.kernel_seat;
          app = r.0;
          kernel = kept.kernel;
          agree = r.1;
          seats = λ seat u there. grind (arith, knows, kept.seats seat u, at_set s.views id seat (record me.0 { app = r.0 }) u there);
        },
        r.2,
      )

  -- The same of the dispatcher's seat. If it has both sides, what the application knows is told.
  pub kernel_step : (slots id i : ℕ) (f : ℕ → ℕ) (me : Me (Unit {0}) (View A D)) (then : ℕ → Me (Unit {0}) (View A D) → Type 0)
      → me.0.is_kernel ≡ true
      → ((words : List ℕ) (a : A) → Agree words a me.0.kernel → (me.0.is_app ≡ true → me.0.app ≡ a) → (e : D) × Agree (set words i (f (get_or words i 0))) a e × then (get_or words i 0) (with_kernel me e))
      → Allows (AgreeBy Agree) slots id me i f then
  kernel_step slots id i f me then is_kernel asked s kept _ at _ =
      let knows = kept.seats id me.0 at in
      let r = asked s.words kept.app (rw (knows.kernel is_kernel).1 kept.agree) (λ is. (knows.app is).1) in (
        record me.0 { kernel = r.0 },
        keeps,
        tt,
        record {
          app_seat = kept.app_seat;
          kernel_seat = kept.kernel_seat;
          app = kept.app;
          kernel = r.0;
          agree = r.1;
          seats = λ seat u there. grind (arith, knows, kept.seats seat u, at_set s.views id seat (record me.0 { kernel = r.0 }) u there);
        },
        r.2,
      )

  -- a new table keeps the rule, if what its first seat knows agrees
  pub opens_with : (words : List ℕ) (a : A) (d : D) → Agree words a d
      → AgreeBy Agree (opening {S = Unit {0}} words [] (both_know a d))
  opens_with words a d agree =
      record { app_seat = 0; kernel_seat = 0; app = a; kernel = d; agree = agree; seats = λ seat v there. grind (arith, get_elem?) }

  -- a seat of both sides is cut into one of each
  pub splits : (id : ℕ) (me : View A D) → me.is_app ≡ true → me.is_kernel ≡ true
      → Splits {S = Unit {0}} (AgreeBy Agree) id me (app_part me) (kernel_part me)
  splits id me is_app is_kernel s kept at =
      let left : List (View A D) = set s.views id (app_part me) in
      record {
        app_seat = kept.app_seat;
        kernel_seat = length left;
        app = kept.app;
        kernel = kept.kernel;
        agree = kept.agree;
        seats = λ seat v there.
            grind (arith, kept.seats id me at, kept.seats seat v, at_longer left (kernel_part me) v seat there, at_set s.views id seat (app_part me) v);
      }

  -- the dispatcher's seat takes in the application's
  pub joins : (a : A) (d : D) (id other : ℕ) (me its : View A D) → me.is_kernel ≡ true
      → its.is_app ≡ true
      → Joins {S = Unit {0}} (AgreeBy Agree) id me other its (both_parts me its) (spent_with a d)
  joins a d id other me its is_kernel is_app s kept at apart there =
      let both = both_parts me its in
      let there' : get_elem? s.views other ≡ some its = grind (arith, at_set s.views id other both its there) in
      let mine = kept.seats id me at in
      let theirs = kept.seats other its there' in
      let left : List (View A D) = set s.views id both in
      record {
        app_seat = id;
        kernel_seat = id;
        app = kept.app;
        kernel = kept.kernel;
        agree = kept.agree;
        seats = λ seat v here.
            grind (arith, mine, theirs, kept.seats seat v, at_set s.views id seat both v, at_set left other seat (spent_with a d) v here);
      }
