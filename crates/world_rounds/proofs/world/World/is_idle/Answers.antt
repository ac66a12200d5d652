use Rattle.std.proofs.Common.{◌≡◌, ◌↔◌, IsTrue, true, false, None, Some, length, refl, sym, ◌∙◌, subst}
use Rattle.std.specs.List.{slice_get}
use Rattle.std.proofs.lemmas.Option.{slice_get_read}
use Rattle.replica_core.specs.Replica.{ReplicaState}
use Rattle.replica_core.specs.Step.{IsOfTable}
use Rattle.script_semantics.specs.Settling.{AsksNothing, IsFreeTerm}
use Rattle.step_spec.specs.State.{prefix_of}
use Rattle.world_rounds.proofs.QuietLemmas.{no_some, node_table, some_none, tells_rest}
use Rattle.world_rounds.proofs.world.World.is_idle.Goals as goal

pub asks_nothing-requires-clause-of_table : goal.asks_nothing-requires-clause-of_table
asks_nothing-requires-clause-of_table g c =
    let there : slice_get c.args.self.now.members.items c.args.who ≡ Some c.index-member.result.now =
    slice_get_read c.args.self.now.members.items (length c.args.self.now.members.items) c.args.who c.index-member.result.now refl c.requires.member c.index-member.ensures in
    subst (IsOfTable c.args.table.now) (sym c.replica-replica.ensures)
    (node_table g.D.Disk.view c.args.table.now c.requires.world.rows c.args.self.now c.requires.world.situation c.args.who c.index-member.result.now c.requires.world.is there
    (c.requires.run c.args.who c.index-member.result.now there))

pub returns : goal.returns
returns g c =
    let there : slice_get c.args.self.now.members.items c.args.who ≡ Some c.index-member.result.now =
    slice_get_read c.args.self.now.members.items (length c.args.self.now.members.items) c.args.who c.index-member.result.now refl c.requires.member c.index-member.ensures in
    let free : IsTrue c.is_free.result ↔ IsFreeTerm (prefix_of c.replica-replica.result.now.state) c.replica-replica.result.now.state.term =
    subst (λ term. IsTrue c.is_free.result ↔ IsFreeTerm (prefix_of c.replica-replica.result.now.state) term) c.term.ensures
    (subst (λ prefix. IsTrue c.is_free.result ↔ IsFreeTerm prefix c.term.result.now) c.prefix.ensures c.is_free.ensures) in
    tells_rest g.D.Disk.view c.args.table.now c.args.self.now c.args.who c.args.at.0 c.index-member.result.now c.asks_nothing.result c.requires.run there
    (subst (λ (r : ReplicaState). IsTrue c.asks_nothing.result ↔ ((c.index-member.result.now.mail.waits ≡ None) × IsFreeTerm (prefix_of r.state) r.state.term × AsksNothing c.args.table.now c.args.at.0 r.state))
    c.replica-replica.ensures (
      λ yes. (no_some c.index-member.result.now.mail.waits (sym c.is_some.ensures ∙ c.if-is_some.false), free.0 c.if-not-is_free.false, c.asks_nothing.ensures.0 yes),
      λ three. c.asks_nothing.ensures.1 three.2,
    ))

pub returns-then-is_some : goal.returns-then-is_some
returns-then-is_some g c =
    let there : slice_get c.args.self.now.members.items c.args.who ≡ Some c.index-member.result.now =
    slice_get_read c.args.self.now.members.items (length c.args.self.now.members.items) c.args.who c.index-member.result.now refl c.requires.member c.index-member.ensures in
    tells_rest g.D.Disk.view c.args.table.now c.args.self.now c.args.who c.args.at.0 c.index-member.result.now false c.requires.run there (
      λ no. absurd (let e : false ≡ true = no in cc),
      λ three. absurd (some_none c.index-member.result.now.mail.waits (sym c.is_some.ensures ∙ c.if-is_some.true) three.0),
    )

pub returns-then-not-is_free : goal.returns-then-not-is_free
returns-then-not-is_free g c =
    let there : slice_get c.args.self.now.members.items c.args.who ≡ Some c.index-member.result.now =
    slice_get_read c.args.self.now.members.items (length c.args.self.now.members.items) c.args.who c.index-member.result.now refl c.requires.member c.index-member.ensures in
    let free : IsTrue c.is_free.result ↔ IsFreeTerm (prefix_of c.replica-replica.result.now.state) c.replica-replica.result.now.state.term =
    subst (λ term. IsTrue c.is_free.result ↔ IsFreeTerm (prefix_of c.replica-replica.result.now.state) term) c.term.ensures
    (subst (λ prefix. IsTrue c.is_free.result ↔ IsFreeTerm prefix c.term.result.now) c.prefix.ensures c.is_free.ensures) in
    tells_rest g.D.Disk.view c.args.table.now c.args.self.now c.args.who c.args.at.0 c.index-member.result.now false c.requires.run there
    (subst (λ (r : ReplicaState). IsTrue false ↔ ((c.index-member.result.now.mail.waits ≡ None) × IsFreeTerm (prefix_of r.state) r.state.term × AsksNothing c.args.table.now c.args.at.0 r.state))
    c.replica-replica.ensures (
      λ no. absurd (let e : false ≡ true = no in cc),
      λ three. absurd (let one : c.is_free.result ≡ true = free.1 three.1 in let other : c.is_free.result ≡ false = c.if-not-is_free.true in cc),
    ))
