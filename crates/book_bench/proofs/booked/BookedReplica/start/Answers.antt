use Rattle.std.proofs.Common.{◌∙◌, ◌<◌, [], arith, refl, sym}
use Rattle.std.proofs.lemmas.Bool.{lt-ltb}
use Rattle.book_bench.proofs.booked.BookedReplica.start.Goals as goal

pub invariant_of-result : goal.invariant_of-result
invariant_of-result c =
    let some : 0 < c.new-book.result.members = omega (arith, c.new-book.ensures.members) in
    record {
      rows = [];
      behind = c.new-book.ensures.stands c.args.table.now;
      members = c.new-book.ensures.members;
      pending = c.new-book.ensures.pending;
      identity = c.in_ok-replica.ensures.identity;
      of_table = c.in_ok-replica.ensures.of_table;
      state = sym (c.in_ok-replica.ensures.state ∙ rw (c.new.ensures.items, c.in_ok-copy_rows.ensures, c.in_ok-new.ensures.rows) refl);
      runs = lt-ltb 0 c.new-book.result.members some;
    }
