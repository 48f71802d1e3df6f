use Rattle.std.proofs.Common.{◌≡◌, true, false, sym, subst, ap, ◌∙◌, inl, inr}
use Rattle.uring_outcomes.proofs.Common.{Contains, HasPlace, cases_Bool, slice_get}
use Rattle.uring_outcomes.proofs.Indexing.{place_of, known_place, no_place}
use Rattle.uring_outcomes.proofs.endings.Endings.contains.Goals as goal

pub returns-in-Some : goal.returns-in-Some
returns-in-Some c = (
  λ found. subst (λ xs. Contains xs c.args.ending.now) c.as_slice.ensures.value (c.is_at.ensures.there found),
  λ has. elim (cases_Bool c.is_at.result) [
    | inl found ↦ found
    | inr missed ↦
        let at = place_of c.args.self.now.list.items c.args.ending.now has in
        let known : Contains c.in-Some.known.now.items at.0 = known_place c.args.self.now.places c.in-Some.known.now c.args.mark at.0 c.in-Some.ensures.value (subst (λ m. HasPlace c.args.self.now.places m at.0) (sym c.requires.mark) (c.requires.indexed at.0 c.args.ending.now at.1)) in
        absurd (c.is_at.ensures.nowhere missed at.0 (subst (λ xs. Contains xs at.0) (sym c.as_slice-in-Some.ensures.value) known) (ap (λ xs. slice_get xs at.0) c.as_slice.ensures.value ∙ at.1))
  ],
)

pub returns-in-None : goal.returns-in-None
returns-in-None c = (
  λ never. absurd (let f : false ≡ true = never in cc),
  λ has.
      let at = place_of c.args.self.now.list.items c.args.ending.now has in
      absurd (no_place c.args.self.now.places c.args.mark at.0 c.in-None.ensures.value (subst (λ m. HasPlace c.args.self.now.places m at.0) (sym c.requires.mark) (c.requires.indexed at.0 c.args.ending.now at.1))),
)
