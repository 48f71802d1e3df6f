use Rattle.std.proofs.Common.{◌-◌, ◌^◌, length, min, w32, sym, ◌∙◌, rules}
use Rattle.uring_ffi_values.proofs.Common.{HasMore, TellsImages, to_z-of_z, volume_in}
use Rattle.uring_ffi_values.proofs.Exits.{not_none}
use Rattle.uring_ffi_values.proofs.Files.{place_told}
use Rattle.uring_ffi_values.proofs.volumes.volume_memory.volume_images_in.Goals as goal

pub returns : goal.returns
returns g c =
    let e = c.tell_images-told.ensures in
    let new = c.tell_images-told.new in
    let same = to_z-of_z w32 c.tell_images-told.result (search rules) in
    record {
      empty = (λ is. absurd (e.others.0 (sym same ∙ is)), not_none _ _ c.take_full-volume.ensures.taken);
      results = λ done place many. same ∙ e.results (λ is. done (same ∙ is)) (λ is. many (same ∙ is));
      kept = c.put.ensures ∙ sym c.take_full-volume.ensures.taken;
      refused = λ fails. e.refused (λ is. fails (same ∙ is));
      too_many = λ is. place_told (λ v. HasMore v (min (length c.args.lens.now) (2 ^ 32 - 1))) (volume_in c.args.place.now) _ c.deref.result.now c.take_full-volume.ensures.taken c.deref.ensures (e.too_many (sym same ∙ is));
      within = λ is. e.within (sym same ∙ is);
      told = λ is. place_told (λ v. TellsImages v c.args.bytes.now new.bytes c.args.lens.now new.lens new.count new.total) (volume_in c.args.place.now) _ c.deref.result.now c.take_full-volume.ensures.taken c.deref.ensures (e.told (sym same ∙ is));
      granted = λ all is. e.granted all (sym same ∙ is);
    }
