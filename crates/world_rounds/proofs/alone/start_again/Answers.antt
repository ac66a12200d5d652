use Rattle.std.proofs.Common.{refl, sym, ap, ◌∙◌, subst}
use Rattle.replica_store.specs.Files.{IsRecoverable, SelectsFormat1, selected}
use Rattle.replica_node.specs.Node.{fault_of, replica_of}
use Rattle.replica_node.specs.Reliable.{IsReliable}
use Rattle.replica_node.proofs.RestLemmas.{recoverable_at_rest, selects_format_2}
use Rattle.launch_machine.specs.Clerk.{table_size}
use Rattle.step_spec.specs.State.{started}
use Rattle.world_steps.proofs.MemoryLemmas.{memory_alone}
use Rattle.world_steps.proofs.Stopping.{and_some}
use Rattle.world_rounds.proofs.Starting.{either_way}
use Rattle.world_rounds.proofs.alone.start_again.Goals as goal

pub returns-in-Ok : goal.returns-in-Ok
returns-in-Ok g c =
    let kept = (replica_of c.args.stopped.node).state.kept in
    let trusted : g.D.Disk.view.honest c.into_disk.result = subst g.D.Disk.view.honest (sym c.into_disk.ensures) c.requires.trusted in
    let recoverable = recoverable_at_rest g.D.Disk.view c.args.table.now c.args.stopped.node c.requires.at_rest c.requires.trusted in
    let none : SelectsFormat1 (table_size c.args.table.now) (g.D.Disk.view.seen c.into_disk.result) → ⊥ =
    λ selects. selects_format_2 g.D.Disk.view c.args.table.now c.args.stopped.node c.requires.at_rest (subst (λ disk. SelectsFormat1 (table_size c.args.table.now) (g.D.Disk.view.seen disk)) c.into_disk.ensures selects) in
    let found =
    c.in-Ok.ensures.either kept kept trusted (subst (λ disk. IsRecoverable (table_size c.args.table.now) kept kept (g.D.Disk.view.may_leave disk)) (sym c.into_disk.ensures) recoverable) in
    record {
      at_rest = c.in-Ok.ensures.at_rest;
      trusted = c.in-Ok.ensures.answer.honest_still.1 trusted;
      reliable = c.in-Ok.ensures.reliable (subst (λ disk. IsReliable (g.D.Disk.view.told disk)) (sym c.into_disk.ensures) c.requires.reliable);
      clean = c.in-Ok.ensures.clean (and_some _ (g.D.Disk.view.told c.into_disk.result) (subst (λ disk. IsReliable (g.D.Disk.view.told disk)) (sym c.into_disk.ensures) c.requires.reliable));
      area = c.in-Ok.ensures.area none ∙ ap (λ disk. selected (g.D.Disk.view.seen disk)) c.into_disk.ensures;
      identity = c.in-Ok.ensures.identity;
      state = c.in-Ok.ensures.started ∙ ap (started c.args.who) (either_way _ kept found);
      runs = refl;
      letters = refl;
      skew = refl;
      fate = refl;
      waits = refl;
      arm = refl;
      steps = refl;
    }

pub memory_of-requires : goal.memory_of-requires
memory_of-requires g c =
    let kept = (replica_of c.args.stopped.node).state.kept in
    let trusted : g.D.Disk.view.honest c.into_disk.result = subst g.D.Disk.view.honest (sym c.into_disk.ensures) c.requires.trusted in
    let here = recoverable_at_rest g.D.Disk.view c.args.table.now c.args.stopped.node c.requires.at_rest c.requires.trusted in
    let recoverable = subst (λ disk. IsRecoverable (table_size c.args.table.now) kept kept (g.D.Disk.view.may_leave disk)) (sym c.into_disk.ensures) here in
    record {
      alone = memory_alone (fault_of c.recover.result) c.in-Err.fault (ap fault_of c.in-Err.is)
          (c.recover.ensures.unended (subst (λ disk. IsReliable (g.D.Disk.view.told disk)) (sym c.into_disk.ensures) c.requires.reliable))
          (λ gate. c.recover.ensures.sound kept kept gate trusted recoverable) c.recover.ensures.no_letter;
    }
