use Rattle.std.proofs.Common.{◌≡◌, pos, w32, sym, ◌∙◌, rules, neg_ℤ, refl, ℤ, of_z, ap}
use Rattle.uring_ffi_values.proofs.Common.{ENOMEM, TellsCount, crash_machine_in, to_z-of_z}
use Rattle.uring_ffi_values.proofs.Exits.{other_refusal}
use Rattle.uring_ffi_values.proofs.Files.{file_there, file_told}
use Rattle.uring_ffi_values.proofs.machines.crash_machine_memory.crash_machine_count_images_in.Goals as goal

pub returns-then-refusal-ne0 : goal.returns-then-refusal-ne0
returns-then-refusal-ne0 g c =
    let e = rw (to_z-of_z w32 c.args.fd c.ranges.fd) at c.refusal_of_file-refusal.ensures in
    rw (to_z-of_z w32 c.refusal_of_file-refusal.result (search rules)) (record { empty = e.empty; lost = e.lost; no_file = e.no_file; results = λ done empty lost no_file. absurd (e.results done empty lost no_file); kept = e.kept; refused = λ _. refl; told = λ done. absurd (c.if-refusal-ne0.true (ap (λ (z : ℤ). of_z w32 z) done)); granted = λ _. other_refusal _ (neg_ℤ ENOMEM) refl refl refl refl e.results })

pub returns : goal.returns
returns g c =
    let e = c.tell_count-told.ensures in
    let new = c.tell_count-told.new in
    let same = to_z-of_z w32 c.tell_count-told.result (search rules) in
    let no_refusal : c.refusal_of_file-refusal.result ≡ pos 0 = search rules in
    let there = file_there (crash_machine_in c.args.place.now) c.args.fd c.tell_count-told.result c.ranges.fd (search rules) e.others (c.refusal_of_file-refusal.ensures.there no_refusal) in
    record { empty = there.0; lost = there.1; no_file = there.2; results = λ none place lost no_file. same ∙ e.results (λ is. none (same ∙ is)); kept = c.put.ensures ∙ sym c.take_full-machine.ensures.taken ∙ c.refusal_of_file-refusal.ensures.kept; refused = λ fails. e.refused (λ is. fails (same ∙ is)); told = λ is. file_told (λ v. TellsCount v new.count) (crash_machine_in c.args.place.now) _ c.deref.result.now _ c.args.fd _ c.volume.result.now c.ranges.fd c.refusal_of_file-refusal.ensures.kept c.take_full-machine.ensures.taken c.deref.ensures c.in-Some.ensures c.volume.ensures (e.told (sym same ∙ is)); granted = λ all is. e.granted all (sym same ∙ is) }
