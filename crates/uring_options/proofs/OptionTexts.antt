-- What the option of a name gives of words that clap finds no fault in.
use Rattle.std.proofs.Common.{◌≡◌, ◌∙◌, ◌<◌, ◌≤◌, ◌^◌, ℕ, Bool, true, false, cond, List, [], ◌∷◌, Option, Some, None, Result, Ok, refl, ap, subst, inl, inr, arith}
use Rattle.uring_options.proofs.Common.{CommandOption, Gives, IsGiven, IsWithin, Row, Rule, TakesOption, TakesOptions, Text, codes, find, flag, number, parser_for, values_kinds}
use Rattle.std.specs.Str.Parse.{ParsesUnsigned}
use Rattle.clap.specs.Walk.{rows_of}
use Rattle.std.proofs.lemmas.Bool.{or_cases}
use Rattle.std.specs.Str.{bytes_eq}
use Rattle.std.proofs.lemmas.Slice.Eq.{bytes_eq-Decides}
use Rattle.clap.specs.Facts.{parser_of_value}
use Rattle.clap.specs.Lexer.{without_minus}
use Rattle.clap.specs.Matches.{one_text, ReadsOne}
use Rattle.clap.specs.Values.{reading_of}
use Rattle.clap.specs.declared.builder.value_parser.ValueParser.{ValueParser}
use Rattle.clap.specs.declared.parser.matches.Found.{Found}
use Rattle.clap.proofs.CallerReads.{signed_reads}
use Rattle.clap.proofs.ValueTestLemmas.{accepts-Accepts}
use Rattle.clap.proofs.WalkLemmas.{one_text-rows}
use Rattle.uring_options.proofs.Walks.{Among, each_among, found_among, Each, IsRowOf}

-- ---- what clap's parser took

-- the parsers of the rules of a name
abbrev pub parsers_of : Text → List Rule → List ValueParser
parsers_of id [] = []
parsers_of id (a ∷ rules) =
    cond (bytes_eq a.id id) (parser_of_value a.parser ∷ parsers_of id rules) (parsers_of id rules)

among_parsers : (id : Text) (rules : List Rule) (a : Rule) → Among a rules → bytes_eq a.id id ≡ true
    → Among (parser_of_value a.parser) (parsers_of id rules)
among_parsers id [] a among named = absurd among
among_parsers id (b ∷ rules) a among named = grind (arith, (among_parsers id rules a))

-- the rules have one of this option's name, with its parser
abbrev pub parsers_for : List Rule → CommandOption → List ValueParser
parsers_for rules option = parsers_of option.0 rules

abbrev pub only_parser : CommandOption → List ValueParser
only_parser option = parser_for option.1 ∷ []

-- so its text, in rows of these rules, passed its parser
option_taken : (rules : List Rule) (rows : List Row) (option : CommandOption)
    → parsers_for rules option ≡ only_parser option → Each (IsRowOf rules) rows
    → TakesOption rows option
option_taken rules rows option one each = row (find (λ r. bytes_eq r.id option.0) rows) refl
  where
    value : (r : Row) → find (λ r. bytes_eq r.id option.0) rows ≡ Some r → r.reading ≡ reading_of (parser_for option.1) → (ignore_case : Bool) (vs : List Text) → r.values ≡ vs
        → values_kinds ignore_case (parser_for option.1) vs ≡ [] → TakesOption rows option
    value r found reading ignore_case [] is passes = inl (rw (found, is) refl)
    value r found reading ignore_case (t ∷ vs) is passes =
        inr (t, ignore_case, rw (found, is, reading) refl, accepts-Accepts ignore_case (parser_for option.1) t (grind (arith, passes)))

    row : (o : Option Row) → find (λ r. bytes_eq r.id option.0) rows ≡ o → TakesOption rows option
    row None found = inl (rw found refl)
    row (Some r) found =
        let place = found_among (λ r. bytes_eq r.id option.0) rows r found in
        let of : IsRowOf rules r = each_among (IsRowOf rules) rows r each place.0 in
        let named : bytes_eq of.rule.id option.0 ≡ true = rw of.id at place.1 in
        let parser : parser_of_value of.rule.parser ≡ parser_for option.1 = grind (arith, one, (among_parsers option.0 rules of.rule of.among named)) in
        value r found (of.reading ∙ ap reading_of parser) of.rule.ignore_case r.values refl (subst (λ p. values_kinds of.rule.ignore_case p r.values ≡ []) parser of.values)

-- and those of a list of options, if a test of all of them computes to it
pub options_taken : (rules : List Rule) (rows : List Row) (options : List CommandOption)
    → Each (λ (o : CommandOption). parsers_for rules o ≡ only_parser o) options
    → Each (IsRowOf rules) rows → TakesOptions rows options
options_taken rules rows [] fits each = tt
options_taken rules rows (option ∷ rest) fits each = grind (arith, option_taken, (options_taken rules rows rest fits.1 each))

-- ---- what clap's getters read of it

-- the number of an option
pub number_given : {E : Type 0} (G : Text → Result ℕ E → Type 0) (f : Found) (id : Text) (r : Option ℕ)
    → (one_text f id ≡ None → r ≡ None) → ((t : Text) → one_text f id ≡ Some t → ReadsOne G t r)
    → ((t : Text) (x : Result ℕ E) → G t x → ParsesUnsigned 32 10 t x)
    → (low high : ℕ) → high ≤ 4294967295 → TakesOption (rows_of f) (number id low high)
    → Gives (rows_of f) id r × IsWithin low high r
number_given G f id r none value only low high fits (inl absent) = rw (none (one_text-rows f id ∙ absent)) (absent, tt)
number_given {E} G f id r none value only low high fits (inr (text, ignore_case, is, passed)) =
    let reads = value (without_minus text) (one_text-rows f id ∙ is) in
    let small : high < 2 ^ 32 = omega arith in
    let read = signed_reads E G 32 low high text r reads only small passed in
    let parsed = only (without_minus text) (Ok read.0) (rw read.1 at reads) in
    rw read.1 ((without_minus text, is, record { digits = parsed.0.0; value = parsed.1 }), (read.2, read.3))

-- whether an option is given that takes no value
pub flag_given : (f : Found) (id : Text) (r : Bool) → (one_text f id ≡ None → r ≡ false)
    → (one_text f id ≡ Some (codes "true") → r ≡ true)
    → (one_text f id ≡ Some (codes "false") → r ≡ false)
    → TakesOption (rows_of f) (flag id) → IsGiven (rows_of f) id r
flag_given f id r none set unset (inl absent) = rw (none (one_text-rows f id ∙ absent)) (inl absent)
flag_given f id r none set unset (inr (text, ignore_case, is, passed)) =
    grind (arith, (or_cases (bytes_eq text (codes "true")) (bytes_eq text (codes "false")) passed), ((bytes_eq-Decides text (codes "true")).0), ((bytes_eq-Decides text (codes "false")).0), (one_text-rows f id))
