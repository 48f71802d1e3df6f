-- What can be seen of a history, and the histories that show it.
use Rattle.std.specs.Prelude.{◌≡◌, ℕ, ℤ, Bool, true, false, List, [], ◌∷◌, ◌++◌, if◌then◌else◌}
use Rattle.std.specs.List.{filter_map}
use Rattle.uring_entry.specs.Setup.{Setup}
use Rattle.uring_entry.specs.Layout.{Cqe}
use Rattle.uring_rules.specs.Rules.{posts}
use Rattle.uring_entry.specs.Requests.{Requests, entry_of, no_bytes, outstanding_in}
use Rattle.uring_entry.specs.Results.{may_end}
use Rattle.uring_core.specs.Histories.{Event, History, world, IsLawfulApart}
use Rattle.uring_core.specs.Events.{reaped_by}
use Rattle.uring_core.specs.declared.step.Step.{Step}
use Rattle.uring_core.specs.declared.step.Step.TheVariants as step
use Rattle.uring_core.specs.declared.answer.Answer.TheVariants as answer

-- whether a step can't be seen from outside: the dispatcher issues a request, finishes one, or loads the completion ring's head
abbrev pub is_hidden : Step → Bool
is_hidden (step.Issue n) = true
is_hidden (step.Finish n) = true
is_hidden step.Flush = true
is_hidden _ = false

-- what is seen of a history, the oldest first: all but the hidden steps
abbrev pub seen_in : History → List Event
seen_in [] = []
seen_in (e ∷ before) = if is_hidden e.0 then seen_in before else seen_in before ++ e ∷ []

-- the completions that were reaped in what was seen, in order
abbrev pub completions_in : List Event → List Cqe
completions_in seen = filter_map reaped_by seen

-- A running request may end so, by these rules. What no completion tells has no bytes, which is our own rule: nobody could have seen them.
pub record MayEndWith (is_linux : Bool) (r : Requests) (n : ℕ) (res : ℤ) (bytes : List ℕ) : Type 0 where
  pub result : may_end (entry_of r n) res ≡ true
  pub untold : posts is_linux r n res ≡ false → bytes ≡ no_bytes

-- if the event ends a running request, it may end so
abbrev pub GivesAllowed : (is_linux : Bool) → Requests → Event → Type 0
GivesAllowed is_linux r (step.Finish n, answer.Ended res bytes) = MayEndWith is_linux r n res bytes
GivesAllowed is_linux r _ = Unit {0}

-- each operation gave what it may give
abbrev pub GiveAllowed : Setup → History → Type 0
GiveAllowed g [] = Unit {0}
GiveAllowed g (e ∷ before) = GivesAllowed g.linux (world g before).requests e × GiveAllowed g before

-- A history that shows exactly what was seen: it is lawful apart from what operations give, each gave what it may give, each request has ended, and each completion that was posted has been seen.
pub record IsFilling (g : Setup) (seen : List Event) (h : History) : Type 0 where
  pub lawful : IsLawfulApart g h
  pub results : GiveAllowed g h
  pub shows : seen_in h ≡ seen
  pub none_outstanding : outstanding_in (world g h).requests ≡ 0
  pub posted : (world g h).completions.posted ≡ completions_in seen

-- a list begins with another
pub record Begins {X : Type 0} (first all : List X) : Type 0 where
  pub rest : List X
  pub is : all ≡ first ++ rest

-- A history that goes a part of the way: it shows a beginning of what was seen, and the completions that it posted are the first ones of those that were seen.
pub record IsPart (g : Setup) (seen : List Event) (h : History) : Type 0 where
  pub lawful : IsLawfulApart g h
  pub results : GiveAllowed g h
  pub shows : Begins (seen_in h) seen
  pub posts : Begins (world g h).completions.posted (completions_in seen)
