use Rattle.std.proofs.Common.{◌≡◌, [], ◌∷◌, ◌++◌, map, refl, ap, ◌∙◌, sym, subst}
use Rattle.due_set.specs.Table.{BeginsWithWindow, IsBuiltFor, IsSound, table_of_versions, version_of}
use Rattle.launch_tests.specs.Versions.{first_hour}
use Rattle.launch_tests.proofs.VersionLemmas.{AreTwo, sound, two_are}
use Rattle.launch_tests.proofs.versions.two_versions.Goals as goal

pub assemble_versions-requires-clause-sound : goal.assemble_versions-requires-clause-sound
assemble_versions-requires-clause-sound c =
    let zone = c.in_ok-build.field-0 in
    let a = c.in_ok-version.field-0 in
    let b = c.in_ok-version-2.field-0 in
    let zones : c.push.new.self.items ≡ zone ∷ [] = c.in_ok-push.ensures.items ∙ ap (λ l. l ++ zone ∷ []) c.new-zones.ensures.items in
    let items : c.push-3.new.self.items ≡ a ∷ b ∷ [] =
    c.in_ok-push-3.ensures.items ∙ ap (λ l. l ++ b ∷ []) (c.in_ok-push-2.ensures.items ∙ ap (λ l. l ++ a ∷ []) c.new-versions.ensures.items) in
    let two : AreTwo c.push-3.new.self.items =
    two_are c.push-3.new.self.items a b items c.in_ok-version.ensures.from c.in_ok-version-2.ensures.from c.in_ok-version.ensures.jobs c.in_ok-version-2.ensures.jobs in
    let built : IsBuiltFor first_hour zone = rw c.in_ok-build.ensures.built (record { from = refl; until = refl; read = c.in_ok-build.ensures.read }) in
    subst (λ zs. IsSound (table_of_versions first_hour 5 zs (map version_of c.push-3.new.self.items))) (sym zones)
    (subst (λ vs. IsSound (table_of_versions first_hour 5 (zone ∷ []) vs)) (sym two.are) (sound zone two.one two.first two.other two.second built two.first_is two.second_is))

pub assemble_versions-requires-clause-first : goal.assemble_versions-requires-clause-first
assemble_versions-requires-clause-first c =
    let a = c.in_ok-version.field-0 in
    let b = c.in_ok-version-2.field-0 in
    let items : c.push-3.new.self.items ≡ a ∷ b ∷ [] =
    c.in_ok-push-3.ensures.items ∙ ap (λ l. l ++ b ∷ []) (c.in_ok-push-2.ensures.items ∙ ap (λ l. l ++ a ∷ []) c.new-versions.ensures.items) in
    let two : AreTwo c.push-3.new.self.items =
    two_are c.push-3.new.self.items a b items c.in_ok-version.ensures.from c.in_ok-version-2.ensures.from c.in_ok-version.ensures.jobs c.in_ok-version-2.ensures.jobs in
    subst (BeginsWithWindow first_hour) (sym two.are) refl
