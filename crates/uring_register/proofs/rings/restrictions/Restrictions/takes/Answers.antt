use Rattle.std.proofs.Common.{◌≡◌, ◌≢◌, ℕ, ◌<◌, ◌∷◌, List, arith, rules}
use Rattle.std.specs.Int.{bit_at}
use Rattle.std.proofs.lemmas.Grind.{common_steps}
use Rattle.uring_register.specs.declared.rings.restrictions.Restriction.{Restriction}
use Rattle.uring_register.specs.Rings.Restricting.{KeepsNumbers}
use Rattle.uring_register.proofs.rings.restrictions.Restrictions.takes.Goals as goal

named : (rows : List Restriction) (r : Restriction) (kind old new : ℕ) → r.kind ≡ kind → r.number < 64 → KeepsNumbers kind rows old
    → bit_at new r.number ≡ 1 → ((i : ℕ) → i ≢ r.number → bit_at new i ≡ bit_at old i) → KeepsNumbers kind (r ∷ rows) new
named rows r kind old new is fits keeps same others = λ i. let k = keeps i in let o = others i in grind (arith, common_steps)

pub returns-in-0-clause-after : goal.returns-in-0-clause-after
returns-in-0-clause-after c = λ rows keeps _. record {
  registered = keeps.registered;
  codes = rw c.in-0.is keeps.codes;
  calls = named rows c.args.row 0 _ _ c.in-0.is (search rules) keeps.calls c.with_bit-self.ensures.same c.with_bit-self.ensures.others;
  allowed = rw c.in-0.is keeps.allowed;
  required = rw c.in-0.is keeps.required;
}

pub returns-in-1-clause-after : goal.returns-in-1-clause-after
returns-in-1-clause-after c = λ rows keeps _. record {
  registered = keeps.registered;
  codes = named rows c.args.row 1 _ _ c.in-1.is (search rules) keeps.codes c.with_bit-self-in-1.ensures.same c.with_bit-self-in-1.ensures.others;
  calls = rw c.in-1.is keeps.calls;
  allowed = rw c.in-1.is keeps.allowed;
  required = rw c.in-1.is keeps.required;
}
