-- The operations that may take effect before an end are those that are added for each that runs.
use Rattle.std.proofs.Common.{◌≡◌, ◌==◌, ℕ, Bool, true, false, List, [], ◌∷◌, ◌++◌, Option, Some, None, if◌then◌else◌, refl, sym, ap, subst, ◌∙◌, ◌⊎◌, inl, inr, arith, negsuc, map}
use Rattle.uring_effect_points.proofs.Common.{Adds, AreTakers, Contains, Contains-append_right, Contains-push_cases, End, FileContents, FitsEnd, IsForFiles, IsOutcome, Mark, MayTake, Op, Outcome, Running, Taker, awaits, both_ways, end_in, ended_with, eq-eqb, eqb-true, is_lengthening, is_some, look, plain, result_of, same_Some}
use Rattle.uring_effect_points.proofs.Plain.{outcome_back, outcome_plain}

-- those of one kind were added, and then those of another
pub adds_both : (P Q R : Taker → Type 0) (old mid new : List Taker) → Adds P old mid → Adds Q mid new
    → ((x : Taker) → P x → R x) → ((x : Taker) → Q x → R x) → ((x : Taker) → R x → P x ⊎ Q x)
    → Adds R old new
adds_both P Q R old mid new first second left right cases = grind arith

pub adds_same : (P Q : Taker → Type 0) (old new : List Taker) → Adds P old new → ((x : Taker) → P x → Q x)
    → ((x : Taker) → Q x → P x) → Adds Q old new
adds_same P Q old new adds to from = grind arith

-- what is found stands at a place, and has the number
pub record StandsIn (running : List Running) (n : ℕ) : Type 0 where
  pub one : Running
  pub there : Contains running one
  pub number : one.number ≡ n

in_rest : (r : Running) (rs : List Running) (n : ℕ) → StandsIn rs n → StandsIn (r ∷ rs) n
in_rest r rs n later = grind (arith, (Contains-append_right (r ∷ []) rs later.one later.there))

found_by : (r : Running) (rs : List Running) (n : ℕ) (b : Bool) (one : Running) → (r.number == n) ≡ b
    → (look rs n ≡ Some one → StandsIn rs n)
    → (if b then Some r else look rs n) ≡ Some one → StandsIn (r ∷ rs) n
found_by r rs n b one same later found = grind (arith, in_rest)

pub stands_in : (running : List Running) (n : ℕ) (one : Running) → look running n ≡ Some one → StandsIn running n
stands_in [] n one found = absurd (let f : None ≡ Some one = found in cc)
stands_in (r ∷ rs) n one found =
    found_by r rs n (r.number == n) one refl (λ later. stands_in rs n one later) found

number_by : (r : Running) (rs : List Running) (n : ℕ) (b : Bool) (one : Running) → (r.number == n) ≡ b
    → (look rs n ≡ Some one → one.number ≡ n)
    → (if b then Some r else look rs n) ≡ Some one → one.number ≡ n
number_by r rs n b one same later found = grind arith

found_number : (running : List Running) (n : ℕ) (one : Running) → look running n ≡ Some one → one.number ≡ n
found_number [] n one found = absurd (let f : None ≡ Some one = found in cc)
found_number (r ∷ rs) n one found =
    number_by r rs n (r.number == n) one refl (λ later. found_number rs n one later) found

-- ---- the outcomes of one that runs

-- the operation of a request runs, has taken no effect, and may take one here
pub record IsReady (running : List Running) (left : List Mark) (n : ℕ) (op : Op) : Type 0 where
  pub runs : look running n ≡ Some (record { number = n; op = op; taken = None })
  pub asks : IsForFiles op
  pub waits : awaits running left ≡ true

pub ready_by : (running : List Running) (left : List Mark) (n : ℕ) (one : Running) → Some one ≡ look running n
    → is_some one.taken ≡ false → IsForFiles one.op → awaits running left ≡ true
    → IsReady running left n one.op
ready_by running left n one found idle asks waits = grind (arith, found_number)

-- it may take effect, of this number
abbrev pub MayBe : List FileContents → List Running → List Mark → ℕ → Taker → Type 0
MayBe files running left n x =
    (x.number ≡ n) × MayTake (record { files = map plain files; running = running }) left x.number x.outcome

abbrev pub IsWith : List Mark → ℕ → Outcome → Taker → Type 0
IsWith left n o x = (x ≡ record { number = n; outcome = o }) × FitsEnd (end_in left n) o

with_may : (files : List FileContents) (running : List Running) (left : List Mark) (n : ℕ) (op : Op) (o : Outcome) (x : Taker)
    → IsReady running left n op → IsOutcome files op o → IsWith left n o x → MayBe files running left n x
with_may files running left n op o x ready gives is =
    subst (MayBe files running left n) (sym is.0) (
      refl,
      record {
        op = op;
        runs = ready.runs;
        asks = ready.asks;
        gives = outcome_plain files op o gives;
        ends = is.1;
        waits = ready.waits;
      },
    )

may_with : (files : List FileContents) (running : List Running) (left : List Mark) (n : ℕ) (op : Op) (x : Taker)
    → IsReady running left n op → MayBe files running left n x
    → IsWith left n (result_of files op) x ⊎ ((is_lengthening files op ≡ true) × IsWith left n (ended_with (negsuc 11)) x)
may_with files running left n op x ready may = by x.outcome refl (outcome_back files op x.outcome gives) where
  same_op : may.1.op ≡ op
  same_op = ap (λ (r : Running). r.op) (same_Some _ _ (sym may.1.runs ∙ ap (look running) may.0 ∙ ready.runs))

  gives : IsOutcome (map plain files) op x.outcome
  gives = subst (λ (y : Op). IsOutcome (map plain files) y x.outcome) same_op may.1.gives

  ends : FitsEnd (end_in left n) x.outcome
  ends = subst (λ (k : ℕ). FitsEnd (end_in left k) x.outcome) may.0 may.1.ends

  is_with : (o : Outcome) → x.outcome ≡ o → IsWith left n o x
  is_with o same = (ap (λ (k : ℕ). record { number = k; outcome = x.outcome }) may.0 ∙ ap (λ (p : Outcome). record { number = n; outcome = p }) same, subst (FitsEnd (end_in left n)) same ends)

  by : (o : Outcome) → x.outcome ≡ o → IsOutcome files op o → IsWith left n (result_of files op) x ⊎ ((is_lengthening files op ≡ true) × IsWith left n (ended_with (negsuc 11)) x)
  by o is h = grind arith

-- what was added by an end that was looked up
pub adds_for : (left : List Mark) (n : ℕ) (wanted : Option End) (o p : Outcome) (old new : List Taker)
    → wanted ≡ end_in left n → o ≡ p
    → Adds (λ x. (x ≡ record { number = n; outcome = o }) × FitsEnd wanted o) old new
    → Adds (IsWith left n p) old new
adds_for left n wanted o p old new is same adds =
    subst (λ (q : Outcome). Adds (IsWith left n q) old new) same
    (subst (λ (w : Option End). Adds (λ x. (x ≡ record { number = n; outcome = o }) × FitsEnd w o) old new) is adds)

pub adds_called : (files : List FileContents) (running : List Running) (left : List Mark) (n : ℕ) (op : Op) (old new : List Taker)
    → IsReady running left n op → is_lengthening files op ≡ false
    → Adds (IsWith left n (result_of files op)) old new → Adds (MayBe files running left n) old new
adds_called files running left n op old new ready short adds =
    adds_same (IsWith left n (result_of files op)) (MayBe files running left n) old new adds (λ x is. with_may files running left n op (result_of files op) x ready (inl refl) is) (λ x may. elim (may_with files running left n op x ready may) [
      | inl is ↦ is
      | inr longer ↦ absurd (let f : false ≡ true = sym short ∙ longer.0 in cc)
    ])

pub adds_refused : (files : List FileContents) (running : List Running) (left : List Mark) (n : ℕ) (op : Op) (old mid new : List Taker)
    → IsReady running left n op → is_lengthening files op ≡ true
    → Adds (IsWith left n (result_of files op)) old mid → Adds (IsWith left n (ended_with (negsuc 11))) mid new
    → Adds (MayBe files running left n) old new
adds_refused files running left n op old mid new ready longer first second =
    adds_both (IsWith left n (result_of files op)) (IsWith left n (ended_with (negsuc 11))) (MayBe files running left n) old mid new first second (λ x is. with_may files running left n op (result_of files op) x ready (inl refl) is) (λ x is. with_may files running left n op (ended_with (negsuc 11)) x ready (inr (longer, refl)) is) (λ x may. elim (may_with files running left n op x ready may) [
      | inl is ↦ inl is
      | inr refused ↦ inr refused.1
    ])

-- ---- all that run

-- the operations of those so far that may take effect, but for that of one request
pub record SoFar (files : List FileContents) (running : List Running) (left : List Mark) (awaited : ℕ) (some : List Running) (takers : List Taker) : Type 0 where
  pub right : (x : Taker) → Contains takers x → MayTake (record { files = map plain files; running = running }) left x.number x.outcome
  pub all : (x : Taker) → MayTake (record { files = map plain files; running = running }) left x.number x.outcome → (one : Running) → Contains some one → one.number ≡ x.number → (x.number ≡ awaited → ⊥) → Contains takers x

adds_right : (files : List FileContents) (running : List Running) (left : List Mark) (n : ℕ) (old new : List Taker)
    → Adds (MayBe files running left n) old new
    → ((x : Taker) → Contains old x → MayTake (record { files = map plain files; running = running }) left x.number x.outcome)
    → (x : Taker) → Contains new x → MayTake (record { files = map plain files; running = running }) left x.number x.outcome
adds_right files running left n old new adds before x there = elim (adds.right x there) [ inl old_one ↦ before x old_one | inr may ↦ may.1 ]

pub so_far_more : (files : List FileContents) (running : List Running) (left : List Mark) (awaited : ℕ) (some : List Running) (old new : List Taker) (one : Running)
    → SoFar files running left awaited some old → Adds (MayBe files running left one.number) old new
    → SoFar files running left awaited (some ++ one ∷ []) new
so_far_more files running left awaited some old new one before adds = record {
  right = adds_right files running left one.number old new adds before.right;
  all = λ x may other there same others. elim (Contains-push_cases some one other there) [
    | inl earlier ↦ adds.kept x (before.all x may other earlier same others)
    | inr this ↦ adds.all x (sym same ∙ ap (λ (r : Running). r.number) (sym this), may)
  ];
}

pub so_far_same : (files : List FileContents) (running : List Running) (left : List Mark) (awaited : ℕ) (some : List Running) (takers : List Taker) (one : Running)
    → SoFar files running left awaited some takers → one.number ≡ awaited
    → SoFar files running left awaited (some ++ one ∷ []) takers
so_far_same files running left awaited some takers one before own = record {
  right = before.right;
  all = λ x may other there same others. elim (Contains-push_cases some one other there) [
    | inl earlier ↦ before.all x may other earlier same others
    | inr this ↦ absurd (others (sym same ∙ ap (λ (r : Running). r.number) (sym this) ∙ own))
  ];
}

pub so_far_all : (files : List FileContents) (running : List Running) (left : List Mark) (awaited : ℕ) (old new : List Taker)
    → SoFar files running left awaited running old → Adds (MayBe files running left awaited) old new
    → AreTakers (record { files = map plain files; running = running }) left new
so_far_all files running left awaited old new before adds = record {
  right = adds_right files running left awaited old new adds before.right;
  all = λ x may. by x may (x.number == awaited) refl;
} where
  by : (x : Taker) → MayTake (record { files = map plain files; running = running }) left x.number x.outcome → (b : Bool) → (x.number == awaited) ≡ b → Contains new x
  by x may true same = adds.all x (eqb-true x.number awaited same, may)
  by x may false other =
      let in_list : StandsIn running x.number = stands_in running x.number _ may.runs in
      adds.kept x (before.all x may in_list.one in_list.there in_list.number (λ same. both_ways _ other (eq-eqb x.number awaited same)))
