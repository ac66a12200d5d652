use Rattle.std.proofs.Common.{rules, ◌≡◌, ◌-◌, ◌∷◌, [], ◌++◌, length, take, drop, sym, subst}
use Rattle.std.proofs.lemmas.List.{take_rest}
use Rattle.gate_file.proofs.ReadLemmas.{Reading, Reading-next}
use Rattle.gate_file.proofs.reading.open_bodies.Goals as goal

pub loop-rest-preserved : goal.loop-rest-preserved
loop-rest-preserved c =
    let rest = c.loop-rest.rest.now in
    let body = c.copy_from_slice.new.self in
    let is : body ≡ take 56 (drop 1 rest) = search rules in
    let next : Reading c.args.bytes.now (c.loop-rest.bodies.items ++ body ∷ []) (drop 57 rest) = Reading-next c.args.bytes.now c.loop-rest.bodies.items rest body c.loop-rest.invariant c.loop-rest-test.true c.if-rest-eq1.true is in
    subst (λ bodies. Reading c.args.bytes.now bodies (take (length rest - 57) (drop 57 rest))) (sym c.in_ok-push.ensures.items) (subst (λ after. Reading c.args.bytes.now (c.loop-rest.bodies.items ++ body ∷ []) after) (sym (take_rest rest 57)) next)
