use Rattle.std.proofs.Common.{◌≡◌, sym, ◌∙◌, refl}
use Rattle.store_format.proofs.WriteLemmas.{ballots_added, tried_added, none_added}
use Rattle.store_format.proofs.base.put_ballots.Goals as goal
use Rattle.store_format.proofs.base.put_ballots.Goals.{in-Some+in_ok-put, in_default}

pub returns-in-Some-promised : goal.returns-in-Some-promised
returns-in-Some-promised c = elim c.match-own.branch [
  | in-Some+in_ok-put w ↦
      let same : c.match-own.bodies.items ≡ w.put.new.bodies.items = rw w.bodies-is refl in
      ballots_added c.put-in-Some-promised.result c.args.own c.match-own.own c.args.promised c.in-Some-promised.promised c.args.bodies.now.items c.match-own.bodies.items c.put-in-Some-promised.new.bodies.items
      (w.own-is ∙ sym w.in-Some.is) c.in-Some-promised.is c.if-is_above.ensures
      (tried_added c.args.own w.in-Some.ballot c.args.bodies.now.items w.put.new.bodies.items c.match-own.bodies.items w.in-Some.is same w.in_ok-put.ensures)
      c.put-in-Some-promised.ensures
  | in_default w ↦
      let same : c.match-own.bodies.items ≡ c.args.bodies.now.items = rw w.bodies-is refl in
      ballots_added c.put-in-Some-promised.result c.args.own c.match-own.own c.args.promised c.in-Some-promised.promised c.args.bodies.now.items c.match-own.bodies.items c.put-in-Some-promised.new.bodies.items
      w.own-is c.in-Some-promised.is c.if-is_above.ensures
      (none_added c.args.own c.args.bodies.now.items c.match-own.bodies.items w.in_default.is same)
      c.put-in-Some-promised.ensures
]
