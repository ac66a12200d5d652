use Rattle.std.proofs.Common.{◌≡◌, List, ℕ, length, vec_len, refl, ap, subst, ◌∙◌, ◌%◌, ◌/◌, rules, arith}
use Rattle.std.proofs.lemmas.Bool.Decides.{nat_tests}
use Rattle.std.proofs.lemmas.List.{with_items_is}
use Rattle.disk_model.specs.Told.{overwritten, bytes_in_image}
use Rattle.disk_model.specs.Touched.{is_touched}
use Rattle.disk_model.specs.declared.mem_file.MemFile.{MemFile}
use Rattle.disk_model.specs.Memory.{IsSynced, file_bytes, synced_of, spans_of}
use Rattle.disk_model.proofs.FileLemmas.{filled_is_overwritten}
use Rattle.disk_model.proofs.mem_file.MemFile.restore.Goals as goal
use Rattle.disk_model.proofs.mem_file.MemFile.restore.Goals.{in-0, in-1, in_default}

abbrev restored : ℕ → MemFile → List ℕ
restored image file = bytes_in_image image (synced_of file) (file_bytes file) (is_touched (spans_of file))

same : (c : goal.After-sync) → (bytes : List ℕ) → file_bytes c.match-image-rem3.self ≡ bytes → bytes ≡ restored c.args.image c.args.self.now → IsSynced (restored c.args.image c.args.self.now) c.sync.new.self
same c bytes is restores = subst (λ now. IsSynced now c.sync.new.self) (is ∙ restores) c.sync.ensures

pub returns : goal.returns
returns c =
    let file = c.args.self.now in
    elim c.match-image-rem3.branch [
      | in-0 w ↦
          let swapped : file_bytes c.match-image-rem3.self ≡ synced_of file = search (rules, w.self-is, w.swap.ensures.x_after) in
          same c (synced_of file) swapped (grind (arith, nat_tests, w.in-0.is))
      | in-1 w ↦ same c (file_bytes file) (ap file_bytes w.self-is) (grind (arith, nat_tests, w.in-1.is))
      | in_default w ↦
          let byte = c.args.image / 3 % 256 in
          let size : length w.fill_touched.new.into ≡ vec_len file.bytes = w.fill_touched.ensures.size ∙ w.deref_mut.ensures.len in
          let filled : file_bytes c.match-image-rem3.self ≡ w.fill_touched.new.into = ap file_bytes w.self-is ∙ with_items_is file.bytes w.fill_touched.new.into size in
          let is = filled_is_overwritten w.deref.result.now byte w.deref_mut.result.now w.fill_touched.new.into w.fill_touched.ensures.size w.fill_touched.ensures.touched w.fill_touched.ensures.others in
          let named : overwritten (is_touched w.deref.result.now) byte 0 w.deref_mut.result.now ≡ overwritten (is_touched (spans_of file)) byte 0 (file_bytes file) = rw (w.deref.ensures.value, w.deref_mut.ensures.value) refl in
          same c (overwritten (is_touched (spans_of file)) byte 0 (file_bytes file)) (filled ∙ is ∙ named) (grind (arith, nat_tests, w.in_default))
    ]
