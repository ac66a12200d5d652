-- A store keeps one state, so what may follow the one that was found may follow whatever it keeps.
use Rattle.std.proofs.Common.{sym, subst}
use Rattle.gate_file.specs.File.{bodies_of}
use Rattle.store_format.specs.Order.{ChangeMayFollow}
use Rattle.replica_store.specs.Files.{BodiesStand}
use Rattle.replica_store.proofs.FileLemmas.{bodies_stand_for_one}
use Rattle.store_tests.proofs.kept.Kept.save.Goals as goal

pub save-requires-clause-follows : goal.save-requires-clause-follows
save-requires-clause-follows g c kept keeps =
    let store = c.args.self.now.store in
    let same = bodies_stand_for_one store.size (bodies_of store.gates) c.args.self.now.durable kept c.requires.keeps keeps in
    subst (λ durable. ChangeMayFollow store.size durable c.args.delta) same (subst (λ size. ChangeMayFollow size c.args.self.now.durable c.args.delta) (sym c.requires.size) c.requires.follows)

pub returns-clause-keeps : goal.returns-clause-keeps
returns-clause-keeps g c =
    let store = c.save.new.self in
    subst (λ durable. BodiesStand store.size (bodies_of store.gates) durable) (sym c.in_ok-take.ensures) (c.in_ok-save.ensures.keeps c.args.self.now.durable c.requires.keeps)
