use Rattle.std.proofs.Common.{refl, ap, ◌∙◌}
use Rattle.launch_machine.specs.Clerk.{first_rows, table_size}
use Rattle.step_spec.specs.State.{started}
use Rattle.agreement.specs.World.{fresh}
use Rattle.replica_store.proofs.FileLemmas.{empty_recoverable}
use Rattle.replica_node.specs.Node.{fault_of}
use Rattle.replica_node.proofs.RestLemmas.{empty_in_format_2}
use Rattle.world_steps.proofs.MemoryLemmas.{memory_alone}
use Rattle.world_rounds.proofs.Starting.{either_way, first_area}
use Rattle.world_steps.proofs.Stopping.{and_some}
use Rattle.world_rounds.proofs.start.start_member.Goals as goal

pub returns-in-Ok : goal.returns-in-Ok
returns-in-Ok g c =
    let start = fresh (first_rows c.args.table.now) in
    let left = g.met.D.Disk.seen_is_left c.args.disk c.requires.fresh.trusted in
    let none = empty_in_format_2 (table_size c.args.table.now) (g.D.Disk.view.seen c.args.disk) (c.requires.fresh.empty (g.D.Disk.view.seen c.args.disk) left) in
    let found =
    c.in-Ok.ensures.either start start c.requires.fresh.trusted (empty_recoverable (table_size c.args.table.now) (g.D.Disk.view.may_leave c.args.disk) c.requires.fresh.empty) in
    record {
      at_rest = c.in-Ok.ensures.at_rest;
      trusted = c.in-Ok.ensures.answer.honest_still.1 c.requires.fresh.trusted;
      disk = record {
        reliable = c.in-Ok.ensures.reliable c.requires.fresh.reliable;
        clean = c.in-Ok.ensures.clean (and_some _ (g.D.Disk.view.told c.args.disk) c.requires.fresh.reliable);
        area = c.in-Ok.ensures.area none ∙ first_area g.D.Disk.view c.args.disk c.requires.fresh.empty left;
      };
      identity = c.in-Ok.ensures.identity;
      state = c.in-Ok.ensures.started ∙ ap (started c.args.me) (either_way _ start found);
      runs = refl;
      letters = c.new.ensures.items;
      skew = refl;
      fate = refl;
      waits = refl;
      arm = refl;
      none = c.new-in-Ok.ensures.items;
    }

pub memory_of-requires : goal.memory_of-requires
memory_of-requires g c =
    let start = fresh (first_rows c.args.table.now) in
    let empty = empty_recoverable (table_size c.args.table.now) (g.D.Disk.view.may_leave c.args.disk) c.requires.fresh.empty in
    record {
      alone = memory_alone (fault_of c.recover.result) c.in-Err.fault (ap fault_of c.in-Err.is) (c.recover.ensures.unended c.requires.fresh.reliable)
          (λ gate. c.recover.ensures.sound start start gate c.requires.fresh.trusted empty) c.recover.ensures.no_letter;
    }
