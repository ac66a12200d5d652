use Rattle.std.proofs.Common.{◌≡◌, ◌+◌, ◌∷◌, [], ◌++◌, length, take, sym, ap, ◌∙◌, subst, rules}
use Rattle.std.proofs.lemmas.List.{take_more, get_or_read}
use Rattle.gate_file.proofs.ReadLemmas.{Writing, Writing-next}
use Rattle.gate_file.proofs.reading.gated.Goals as goal

pub loop-body-preserved : goal.loop-body-preserved
loop-body-preserved c =
    let item = c.body-item.result in
    let bodies = c.args.bodies.now in
    let long : length item ≡ 56 = search (rules, c.body.invariant, c.body.view_is) in
    let more : take (c.loop-body.body-index + 1) bodies ≡ take c.loop-body.body-index bodies ++ item ∷ [] =
    take_more bodies c.loop-body.body-index [] c.loop-body-test.true ∙ ap (λ body. take c.loop-body.body-index bodies ++ body ∷ []) (sym (get_or_read bodies c.loop-body.body-index item c.loop-body-test.true c.body-item.is [])) in
    let written : c.extend_from_slice.new.self.items ≡ (c.loop-body.bytes.items ++ 1 ∷ []) ++ item = search rules in
    subst (λ bytes. Writing (take (c.loop-body.body-index + 1) bodies) bytes) (sym written) (subst (λ front. Writing front ((c.loop-body.bytes.items ++ 1 ∷ []) ++ item)) (sym more) (Writing-next (take c.loop-body.body-index bodies) c.loop-body.bytes.items item c.loop-body.invariant long))
