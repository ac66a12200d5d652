use Rattle.std.proofs.Common.{rules, ◌≡◌, ◌<◌, length, get_or, refl, IfSome, sym, subst}
use Rattle.std.specs.List.{slice_set}
use Rattle.std.proofs.lemmas.Option.{slice_get_read}
use Rattle.std.proofs.lemmas.Result.{on_ok_weaker}
use Rattle.launch_machine.proofs.MachineLemmas.{set_here, set_there}
use Rattle.world_tests.proofs.Scenes.{scene_arrives, scene_goes_on}
use Rattle.world_tests.proofs.scene.play_turn.Goals as goal

pub returns-in-Arrived : goal.returns-in-Arrived
returns-in-Arrived g c =
    on_ok_weaker c.arrive.result
    (λ arrives.
    scene_arrives c.args.table.now c.args.scene.now.book c.arrive.new.book c.args.scene.now.seats.items c.in-Arrived.late c.requires
    (arrives c.requires.rows c.requires.rests))
    c.arrive.ensures

pub returns-in-Some : goal.returns-in-Some
returns-in-Some g c =
    let within : c.in-Did.who < length c.args.scene.now.seats.items = search rules in
    let item : c.in-Some.seat.now ≡ get_or c.args.scene.now.seats.items c.in-Did.who c.in-Some.seat.now =
    subst (λ r. IfSome r (λ x. x.now ≡ get_or c.args.scene.now.seats.items c.in-Did.who x.now)) c.in-Some.is c.get_mut.ensures.item.1 in
    let there = slice_get_read c.args.scene.now.seats.items (length c.args.scene.now.seats.items) c.in-Did.who c.in-Some.seat.now refl within item in
    on_ok_weaker c.take_turn.result
    (λ goes.
    scene_goes_on c.args.table.now c.args.scene.now.book c.take_turn.new.book c.args.scene.now.seats.items
    (slice_set c.args.scene.now.seats.items c.in-Did.who c.take_turn.new.seat) c.in-Did.who c.take_turn.new.seat c.requires
    (goes c.requires.rows c.requires.rests (c.requires.seated c.in-Did.who c.in-Some.seat.now there))
    (λ found is. sym (set_here c.args.scene.now.seats.items c.in-Did.who found c.take_turn.new.seat is))
    (λ other differs. set_there c.args.scene.now.seats.items c.in-Did.who other c.take_turn.new.seat differs))
    c.take_turn.ensures
