use Rattle.std.proofs.Common.{drop, refl, sym, ap, ◌∙◌, subst}
use Rattle.replica_node.specs.declared.node.Node.{Node}
use Rattle.world_steps.specs.declared.bundle.Bundle.{Bundle}
use Rattle.world_free.specs.Ends.{HaveEnded, HaveLooked, latest_by}
use Rattle.world_free.proofs.Closed.{is_closed}
use Rattle.world_free.proofs.Ending.{all_looked, all_seats, free_part, parts_there, seen_there}
use Rattle.world_free.proofs.free.finish.Goals as goal

pub close-book-requires : goal.close-book-requires
close-book-requires g c =
    all_seats g.D.Disk.view c.args.book c.args.setting c.requires.taken.0 c.args.jobs.items c.requires.taken.1
    c.requires.count c.in_ok-nodes.nodes.items c.in_ok-nodes.mails.items c.in_ok-nodes.seats.items c.in_ok-nodes.ensures.jobs

pub mails_ended-requires-clause-looked : goal.mails_ended-requires-clause-looked
mails_ended-requires-clause-looked g c =
    let closed = is_closed c.args.book c.requires.taken.0 c.args.setting c.in_ok-nodes.seats.items c.close-book.result c.close-book.ensures in
    subst (λ letters. HaveLooked letters c.in_ok-nodes.mails.items) (sym c.letters.ensures)
    (all_looked g.D.Disk.view c.args.book c.args.setting c.requires.taken.0 c.args.jobs.items
    c.requires.taken.1 c.requires.count c.in_ok-nodes.nodes.items c.in_ok-nodes.mails.items c.in_ok-nodes.seats.items c.in_ok-nodes.ensures.jobs c.close-book.result closed)

pub returns-clause-ends : goal.returns-clause-ends
returns-clause-ends g c = λ rows situation run begins.
    let closed = is_closed c.args.book situation c.args.setting c.in_ok-nodes.seats.items c.close-book.result c.close-book.ensures in
    let new : Bundle (Node g.row.D.Denot) g.row.M.Denot = record {
      nodes = c.in_ok-nodes.nodes;
      book = c.close-book.result;
      mail = record { members = c.in_ok-members.members; cuts = c.args.setting.cuts; latest = c.latest_reading-latest.result };
      room = c.args.room;
    } in
    let mails = c.in_ok-nodes.mails.items in
    let ends = c.in_ok-members.members.items in
    let ended =
    subst (λ cuts. HaveEnded cuts c.close-book.result.letters mails ends) c.deref.ensures.value
    (subst (λ letters. HaveEnded c.deref.result.now letters mails ends) c.letters.ensures c.in_ok-members.ensures.ended) in
    let latest = c.latest_reading-latest.ensures.latest ∙ ap (λ turns. latest_by c.args.latest.0 (drop c.args.first turns)) c.turns.ensures in (
      _,
      _,
      free_part g.D.Disk.view c.args.book c.args.setting situation c.args.jobs.items run c.requires.count
          c.in_ok-nodes.nodes.items c.in_ok-nodes.mails.items c.in_ok-nodes.seats.items c.in_ok-nodes.ensures.jobs new closed rows c.args.latest.0 begins c.requires.members,
      parts_there g.D.Disk.view c.args.book c.args.setting situation c.args.jobs.items run c.requires.count
          c.in_ok-nodes.nodes.items c.in_ok-nodes.mails.items c.in_ok-nodes.seats.items c.in_ok-nodes.ensures.jobs new closed rows c.args.latest.0 begins c.requires.members c.args.first
          refl ended refl c.requires.first latest,
      seen_there g.D.Disk.view c.args.book c.args.setting situation c.args.jobs.items run c.requires.count
          c.in_ok-nodes.nodes.items c.in_ok-nodes.mails.items c.in_ok-nodes.seats.items c.in_ok-nodes.ensures.jobs new closed rows c.args.latest.0 begins c.requires.members,
    )
