use Rattle.std.proofs.Common.{refl, ap, sym, ◌∙◌, subst, Err}
use Rattle.gate_file.specs.File.{bodies_of}
use Rattle.step_spec.specs.Coherent.{IsCoherent}
use Rattle.step_spec.specs.State.{Identity, State}
use Rattle.step_spec.proofs.SoundLemmas.{start_sound}
use Rattle.replica_node.proofs.AttachedLemmas.{fit_to_start}
use Rattle.replica_node.proofs.FaultLemmas.{same_fault}
use Rattle.replica_node.specs.declared.node.Node.{Node}
use Rattle.replica_node.proofs.ReliableLemmas.{unfailing_handed}
use Rattle.replica_node.proofs.node.Node.recover.Goals as goal

pub returns-in-Ok-clause-at_rest : goal.returns-in-Ok-clause-at_rest
returns-in-Ok-clause-at_rest g c =
    let store = c.in-Ok.store in
    let replica = c.in-Ok.replica in
    let kept = replica.state.kept in
    let found = c.in-Ok.ensures in
    let self : Identity = record { me = c.args.me; members = c.args.members } in
    let fit = fit_to_start store.size (bodies_of store.gates) kept found.keeps.0 found.keeps.1 in
    let first : IsCoherent self replica.state = subst (λ (state : State). IsCoherent self state) (sym found.started) (start_sound self kept fit.votes) in
    record {
      runs = refl;
      member = rw found.identity c.requires.me;
      few = rw found.identity c.requires.few;
      of_table = found.of_table;
      coherent = subst (λ (identity : Identity). IsCoherent identity replica.state) (sym found.identity) first;
      rests = found.rests;
      size = found.size;
      format = found.format;
      keeps = found.keeps;
    }

pub returns-in-Err-clause-sound : goal.returns-in-Err-clause-sound
returns-in-Err-clause-sound g c before after gate honest recoverable is =
    c.start.ensures.sound before after gate honest recoverable (c.in-Err.is ∙ ap Err (same_fault c.in-Err.fault _ is))

pub returns-in-Err-clause-damaged : goal.returns-in-Err-clause-damaged
returns-in-Err-clause-damaged g c gate bodies is has = c.start.ensures.damaged gate bodies (c.in-Err.is ∙ ap Err (same_fault c.in-Err.fault _ is)) has

pub returns-in-Err-clause-unfailing : goal.returns-in-Err-clause-unfailing
returns-in-Err-clause-unfailing g c sure =
    unfailing_handed (Node g.row.D.Denot) c.in-Err.fault c.start.result (g.D.Disk.view.told c.start.new.disk) c.in-Err.is (c.start.ensures.unfailing sure)
