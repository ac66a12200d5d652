use Rattle.std.proofs.Common.{◌≡◌, [], ◌∷◌, ◌++◌, map, refl, ap, ◌∙◌, sym, subst}
use Rattle.due_set.specs.Table.{BeginsWithWindow, IsBuiltFor, IsSound, Table, table_of_versions, version_of}
use Rattle.zone_minutes.specs.declared.minute.Window.{Window}
use Rattle.rounds_tests.proofs.VersionLemmas.{hour, sound, two_are}
use Rattle.rounds_tests.proofs.versions.two_versions.Goals as goal

pub assemble_versions-requires-clause-sound : goal.assemble_versions-requires-clause-sound
assemble_versions-requires-clause-sound c =
    let zone = c.in_ok-build.field-0 in
    let a = c.in_ok-version.field-0 in
    let b = c.in_ok-version-2.field-0 in
    let zones : c.push.new.self.items ≡ zone ∷ [] = c.in_ok-push.ensures.items ∙ ap (λ l. l ++ zone ∷ []) c.new-zones.ensures.items in
    let items : c.push-3.new.self.items ≡ a ∷ b ∷ [] =
    c.in_ok-push-3.ensures.items ∙ ap (λ l. l ++ b ∷ []) (c.in_ok-push-2.ensures.items ∙ ap (λ l. l ++ a ∷ []) c.new-versions.ensures.items) in
    let found = two_are c.push-3.new.self.items a b items c.in_ok-version.ensures.from c.in_ok-version-2.ensures.from c.in_ok-version.ensures.entry c.in_ok-version-2.ensures.entry in
    let built : IsBuiltFor hour zone = rw c.in_ok-build.ensures.built (record { from = refl; until = refl; read = c.in_ok-build.ensures.read }) in
    subst (λ zs. IsSound (table_of_versions hour 5 zs (map version_of c.push-3.new.self.items))) (sym zones)
    (subst (λ vs. IsSound (table_of_versions hour 5 (zone ∷ []) vs)) (sym found.2) (sound zone found.0 found.1 built))

pub assemble_versions-requires-clause-first : goal.assemble_versions-requires-clause-first
assemble_versions-requires-clause-first c =
    let a = c.in_ok-version.field-0 in
    let b = c.in_ok-version-2.field-0 in
    let items : c.push-3.new.self.items ≡ a ∷ b ∷ [] =
    c.in_ok-push-3.ensures.items ∙ ap (λ l. l ++ b ∷ []) (c.in_ok-push-2.ensures.items ∙ ap (λ l. l ++ a ∷ []) c.new-versions.ensures.items) in
    let found = two_are c.push-3.new.self.items a b items c.in_ok-version.ensures.from c.in_ok-version-2.ensures.from c.in_ok-version.ensures.entry c.in_ok-version-2.ensures.entry in
    subst (BeginsWithWindow hour) (sym found.2) refl

pub returns : goal.returns
returns c =
    let a = c.in_ok-version.field-0 in
    let b = c.in_ok-version-2.field-0 in
    let items : c.push-3.new.self.items ≡ a ∷ b ∷ [] =
    c.in_ok-push-3.ensures.items ∙ ap (λ l. l ++ b ∷ []) (c.in_ok-push-2.ensures.items ∙ ap (λ l. l ++ a ∷ []) c.new-versions.ensures.items) in
    let found = two_are c.push-3.new.self.items a b items c.in_ok-version.ensures.from c.in_ok-version-2.ensures.from c.in_ok-version.ensures.entry c.in_ok-version-2.ensures.entry in
    let window : c.assemble_versions.result.window ≡ hour =
    ap (λ (t : Table). t.window) c.assemble_versions.ensures.table ∙ ap (λ vs. (table_of_versions hour 5 c.push.new.self.items vs).window) found.2 in
    record { from = ap (λ (w : Window). w.from.0) window; until = ap (λ (w : Window). w.until.0) window }
