-- What clap's walk over words without a fault leaves: each row has values that its option's parser took.
use Rattle.std.proofs.Common.{◌≡◌, ℕ, zero, suc, Bool, true, false, cond, List, [], ◌∷◌, ◌++◌, Option, Some, None, refl, ◌⊎◌, inl, inr, append-nil, fold, is_some, arith}
use Rattle.uring_options.proofs.Common.{Held, Kinds, Names, Outcome, Row, Rule, Shape, Step, Text, Waiting, Walk, action_of, after_flag, after_step, arg_by_index, at_row, attached_value, bundle_met, defaults_fault, find, flag_met, flag_word_fault, flags_fault, has_row, level_fault, long_or_other, nothing_held, option_fault, option_met, or_else, react_fault, reacted, reading_by, rows_after, settle_fault, settled, short_fault, short_met, slice_get, step_fault, takes_values, use_fault, used, values_fault, walk_fault, walked, with_default, with_values}
use Rattle.std.specs.Str.{chars}
use Rattle.clap.specs.Lexer.{short_of}
use Rattle.clap.specs.declared.builder.action.ArgAction.{ArgAction}
use Rattle.clap.specs.declared.builder.action.ArgAction.TheVariants as action
use Rattle.clap.specs.declared.error.kind.ErrorKind.TheVariants as kind
use Rattle.clap.specs.declared.parser.matches.ValueSource.{ValueSource}

-- ---- faults in a row

-- the first of two steps has no fault, nor has the second
pub neither_fails : (a b : Kinds) → or_else a b ≡ [] → (a ≡ []) × (b ≡ [])
neither_fails a b none = grind arith

-- ---- lists

abbrev pub Each : {X : Type 0} → (X → Type 0) → List X → Type 0
Each P [] = Unit {0}
Each P (x ∷ xs) = P x × Each P xs

each_more : {X : Type 0} (P : X → Type 0) (xs : List X) (y : X) → Each P xs → P y
    → Each P (xs ++ y ∷ [])
each_more P [] y each new = (new, tt)
each_more P (x ∷ xs) y each new = (each.0, each_more P xs y each.1 new)

abbrev pub Among : {X : Type 0} → X → List X → Type 0
Among y [] = ⊥
Among y (x ∷ xs) = (x ≡ y) ⊎ Among y xs

pub each_among : {X : Type 0} (P : X → Type 0) (xs : List X) (y : X) → Each P xs → Among y xs → P y
each_among P [] y each among = absurd among
each_among P (x ∷ xs) y each among = grind (arith, (each_among P xs y))

pub found_among : {X : Type 0} (p : X → Bool) (xs : List X) (y : X) → find p xs ≡ Some y
    → Among y xs × (p y ≡ true)
found_among p [] y found = absurd cc
found_among p (x ∷ xs) y found = grind (arith, (found_among p xs y))

-- ---- rules and rows

-- the option takes values or none, or asks for help
abbrev pub sets_or_helps : ArgAction → Bool
sets_or_helps action.Set = true
sets_or_helps action.SetTrue = true
sets_or_helps action.Help = true
sets_or_helps _ = false

abbrev pub is_plain : Rule → Bool
is_plain a = sets_or_helps (action_of a)

-- the row has the values of a rule, which its parser took
pub record IsRowOf (rules : List Rule) (r : Row) : Type 0 where
  pub rule : Rule
  pub among : Among rule rules
  pub id : r.id ≡ rule.id
  pub reading : r.reading ≡ reading_by rule
  pub values : values_fault rule r.values ≡ []

-- what an absent row's place gets stands at the end
at_no_row : (id : Text) (change : Row → List Row) (new rows : List Row) → has_row id rows ≡ false
    → at_row id change new rows ≡ rows ++ new
at_no_row id change new [] none = refl
at_no_row id change new (r ∷ rows) none = grind (arith, (at_no_row id change new rows))

-- ---- the walk of a command, whose options take values or none, each once, or ask for help

module _ (s : Shape) (plain_rules : Each (λ a. is_plain a ≡ true) s.rules) (once : s.args_override_self ≡ false) where
  abbrev Rows : List Row → Type 0
  Rows = Each (IsRowOf s.rules)

  -- a step without these faults leaves rows of the rules
  abbrev Keeps : List Row → Kinds → List Row → Type 0
  Keeps old fault new = Rows old → fault ≡ [] → Rows new

  in_turn : (a b : Kinds) (r t u : List Row) → Keeps r a t → Keeps t b u → Keeps r (or_else a b) u
  in_turn a b r t u first second each passes = grind arith

  -- ---- uses

  -- values of a rule that has no row yet add one
  new_row : (a : Rule) (from : ValueSource) (values : List Text) (rows : List Row) → Among a s.rules → has_row a.id rows ≡ false → values_fault a values ≡ [] → Rows rows
      → Rows (with_values a.id (reading_by a) from values rows)
  new_row a from values rows among none fits each = grind (arith, at_no_row, each_more)

  use_row : (a : Rule) (values : List Text) (rows : List Row) → Among a s.rules → Keeps rows (use_fault s.args_override_self a values rows) (used a values rows)
  use_row a values rows among each passes = grind (arith, at_no_row, append-nil, with_values, new_row, (each_among (λ b. is_plain b ≡ true) s.rules a plain_rules among))

  -- what was pending is used
  settled_row : (h : Held) → Keeps h.rows (settle_fault s.rules s.args_override_self h) (settled s.rules h).rows
  settled_row h each passes = grind (arith, use_row, found_among)

  reacted_row : (a : Rule) (values : List Text) (h : Held) → Among a s.rules → Keeps h.rows (react_fault s.rules s.args_override_self a values h) (reacted s.rules a values h).rows
  reacted_row a values h among = grind (arith, settled_row, use_row)

  -- ---- a flag word

  option_row : (a : Rule) (v : Option Text) (h : Held) → Among a s.rules → Keeps h.rows (option_fault s.rules s.args_override_self a v h) (option_met s.rules a v h).0.rows
  option_row a None h among = settled_row h
  option_row a (Some v) h among = reacted_row a (v ∷ []) h among

  flag_row : (a : Rule) (v : Option Text) (h : Held) → Among a s.rules
      → Keeps h.rows (cond (is_some v) (kind.TooManyValues ∷ []) (react_fault s.rules s.args_override_self a [] h)) (flag_met s.rules a v h).0.rows
  flag_row a None h among = reacted_row a [] h among
  flag_row a (Some v) h among = λ each passes. each

  -- a flag of a bundle, where what comes after it keeps the rows
  short_row : (test : Rule → Bool) (o : Option Rule) (rest : Text) (h : Held) (go_on : Held → Held × Outcome) (go_on_fault : Held → Kinds) → find test s.rules ≡ o
      → ((g : Held) → Keeps g.rows (go_on_fault g) (go_on g).0.rows)
      → Keeps h.rows (short_fault s.rules s.args_override_self o rest h go_on_fault) (short_met s.rules o rest h go_on).0.rows
  short_row test None rest h go_on go_on_fault found after each passes = each
  short_row test (Some a) rest h go_on go_on_fault found after each passes =
      grind (arith, (takes_values a), (found_among test s.rules a found), (option_row a (attached_value rest) h), (reacted_row a [] h), (after (reacted s.rules a [] h)), neither_fails)

  -- the characters of a bundle
  bundle_row : (k : ℕ) (flags : Text) (skip : ℕ) (so_far : Outcome) (h : Held) → Keeps h.rows (flags_fault s.rules s.args_override_self k flags skip h) (bundle_met s.rules k flags skip so_far h).0.rows
  unfolding bundle_met flags_fault
  bundle_row zero flags skip so_far h each passes = each
  bundle_row (suc k) flags skip so_far h each passes = grind (arith, (slice_get (chars flags) 0), short_row, (bundle_row k))

  -- ---- a word

  after_row : (waiting : Waiting) (word : Text) (h : Held) (x : Outcome) → (after_flag s.rules waiting word h x).0.rows ≡ h.rows
  after_row waiting word h x = grind arith

  flag_word_row : (waiting : Waiting) (word : Text) (o : Option (Text × Option Text)) (h : Held)
      → Keeps h.rows (flag_word_fault s.rules s.args_override_self o word h) (long_or_other s.rules waiting word o h).0.rows
  flag_word_row waiting word o h each passes = grind (arith, found_among, option_row, flag_row, (short_of word), after_row, bundle_row)

  step_taken_row : (word : Text) (w : Walk) (h : Held) (step : Step) → Keeps h.rows (step_fault s w.position h step) (after_step s.rules word w h step).held.rows
  step_taken_row word w h step each passes = grind (arith, (arg_by_index s.rules w.position), settled_row)

  walk_row : (names : Names) (w : Walk) (words : List Text) → Keeps w.held.rows (walk_fault s names w words) (fold (walked s.rules names) w words).held.rows
  unfolding walk_fault walked
  walk_row names w [] each passes = each
  walk_row names w (word ∷ rest) each passes =
      grind (arith, in_turn, flag_word_row, step_taken_row, (walk_row names (walked s.rules names w word) rest))

  -- ---- after the walk

  -- defaults that the parser takes add a row of their rule
  defaults_rows : (others : List Rule) (rows : List Row) → ((a : Rule) → Among a others → Among a s.rules) → Keeps rows (defaults_fault rows others) (fold with_default rows others)
  unfolding defaults_fault
  defaults_rows [] rows among each passes = each
  defaults_rows (a ∷ others) rows among each passes =
      grind (arith, new_row, neither_fails, (among a (inl refl)), (defaults_rows others (with_default rows a) (λ b there. among b (inr there))))

  -- words without a fault leave rows of the rules
  pub rows_of_rules : (words : List Text) → level_fault s [] nothing_held words false [] ≡ [] → Each (IsRowOf s.rules) (rows_after s.rules [] words)
  rows_of_rules words = grind (arith, in_turn, walk_row, settled, settled_row, defaults_rows)
