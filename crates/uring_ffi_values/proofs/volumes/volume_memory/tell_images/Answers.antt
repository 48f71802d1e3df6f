use Rattle.std.proofs.Common.{ℕ, List, length, map, refl, ap, subst, sym, arith, rules}
use Rattle.uring_ffi_values.proofs.Common.{Global, TellsImages, Vec, false≢true, length-map}
use Rattle.uring_ffi_values.proofs.Exits.{apart}
use Rattle.uring_volume.specs.Listing.{AreTheImages}
use Rattle.uring_ffi_values.proofs.volumes.volume_memory.tell_images.Goals as goal

pub returns-in-Ok-give_images : goal.returns-in-Ok-give_images
returns-in-Ok-give_images g c =
    let v = c.args.volume.now in
    let given : TellsImages v c.args.bytes.now c.give_images.new.bytes c.args.lens.now c.give_images.new.lens c.give_images.new.count c.give_images.new.total = record { all = map (λ (b : Vec ℕ Global). b.items) c.deref.result.now; images = subst (λ (ps : List (Vec ℕ Global)). AreTheImages v.unit v.first v.history (map (λ b. b.items) ps)) (sym c.deref.ensures.value) c.in-Ok.ensures.images; lens = c.in-Ok-give_images.ensures.lens; bytes = c.in-Ok-give_images.ensures.bytes } in
    record { results = λ done. absurd (done refl); others = (apart _ _ refl, apart _ _ refl, apart _ _ refl); refused = λ done. absurd (done refl); too_many = apart _ _ refl; within = λ _. omega (arith, simp length-map at c.in-Ok-give_images.ensures.lens.total, ap length c.deref.ensures.value, c.in-Ok.ensures.within, c.min-most.ensures); told = λ _. given; granted = λ _. apart _ _ refl }

pub returns-in-Err-TooMany : goal.returns-in-Err-TooMany
returns-in-Err-TooMany g c =
    let found = c.in-Err-TooMany.ensures.too_many (search rules) in
    record { results = λ _ many. absurd (many refl); others = (apart _ _ refl, apart _ _ refl, apart _ _ refl); refused = λ _. (refl, refl, refl, refl); too_many = λ _. record { all = found.0; images = found.1; more = omega (arith, found.2, c.min-most.ensures) }; within = apart _ _ refl; told = apart _ _ refl; granted = λ _. apart _ _ refl }

pub returns : goal.returns
returns g c = record { results = λ _ _. refl; others = (apart _ _ refl, apart _ _ refl, apart _ _ refl); refused = λ _. c.in-Err.ensures.err; too_many = apart _ _ refl; within = apart _ _ refl; told = apart _ _ refl; granted = λ all _. false≢true (c.in-Err.ensures.granted all) }
