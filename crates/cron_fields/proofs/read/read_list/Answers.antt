use Rattle.std.proofs.Common.{◌≡◌, eqb, get_or, length, map, lit<, arith, refl, ap, ◌∙◌}
use Rattle.std.proofs.lemmas.Bool.Decides.{same_from_decides, Decides-eqb}
use Rattle.std.proofs.lemmas.Iterator.Consumers.{YieldsList-turn, YieldsList-end, YieldsList-so_far}
use Rattle.std.proofs.lemmas.Iterator.Splits.{YieldsList-from_str_split}
use Rattle.std.proofs.lemmas.List.{length-map, map-append}
use Rattle.std.proofs.lemmas.Str.Pattern.{starts_char}
use Rattle.cron_fields.specs.Base.{steps_of}
use Rattle.cron_fields.proofs.FaultLemmas.{item_fault_within, list_fault, piece_in_text}
use Rattle.cron_fields.proofs.ListLemmas.{Reading-push, AreItems-pieces, pieces_of, reach_of}
use Rattle.cron_fields.proofs.read.read_list.Goals as goal

pub after-requires : goal.after-requires
after-requires c =
    let text = c.args.text.now in
    let yields = YieldsList-from_str_split 44 text (lit< tt) (cc) (cc) (cc) in
    let turn = YieldsList-turn yields c.loop-item.yielded _ c.loop-item.yielded_by _ _ c.in-Some.item c.in-Some.is c.next.ensures.steps in
    let so_far = YieldsList-so_far yields c.loop-item.yielded _ c.loop-item.yielded_by in
    let in_text = piece_in_text text (length c.loop-item.yielded) c.in-Some.item.now turn.0 turn.1 in
    let place = c.loop-item.invariant.place_is ∙ ap reach_of so_far in
    let offset = item_fault_within c.args.kind c.in-Some.item.now _ _ c.in-Err.ensures.fault in
    let small = c.requires in
    omega arith

pub overflow_add-place-in-loop-item : goal.overflow_add-place-in-loop-item
overflow_add-place-in-loop-item c =
    let text = c.args.text.now in
    let yields = YieldsList-from_str_split 44 text (lit< tt) (cc) (cc) (cc) in
    let turn = YieldsList-turn yields c.loop-item.yielded _ c.loop-item.yielded_by _ _ c.in-Some.item c.in-Some.is c.next.ensures.steps in
    let so_far = YieldsList-so_far yields c.loop-item.yielded _ c.loop-item.yielded_by in
    let in_text = piece_in_text text (length c.loop-item.yielded) c.in-Some.item.now turn.0 turn.1 in
    let place = c.loop-item.invariant.place_is ∙ ap reach_of so_far in
    let small = c.requires in
    omega arith

pub loop-item-preserved : goal.loop-item-preserved
loop-item-preserved c =
    rw map-append (Reading-push c.args.kind (map (λ piece. piece.now) c.loop-item.yielded) c.loop-item.bits c.loop-item.place c.in-Some.item.now (steps_of c.in-Ok.values) c.join-bits.result c.in-Ok.ensures.read c.join-bits.ensures c.loop-item.invariant)

pub returns-in-Err-clause-fault : goal.returns-in-Err-clause-fault
returns-in-Err-clause-fault c =
    let text = c.args.text.now in
    let yields = YieldsList-from_str_split 44 text (lit< tt) (cc) (cc) (cc) in
    let turn = YieldsList-turn yields c.loop-item.yielded _ c.loop-item.yielded_by _ _ c.in-Some.item c.in-Some.is c.next.ensures.steps in
    let so_far = YieldsList-so_far yields c.loop-item.yielded _ c.loop-item.yielded_by in
    let read = map (λ piece. piece.now) c.loop-item.yielded in
    let long : length read ≡ length c.loop-item.yielded = length-map c.loop-item.yielded (λ piece. piece.now) in
    rw (c.after.ensures.cause, c.after.ensures.place) (list_fault c.args.kind text read c.loop-item.bits c.loop-item.place c.in-Some.item.now _ _ c.loop-item.invariant (rw long so_far) (rw long turn.0) (rw long turn.1) c.in-Err.ensures.fault)

pub returns-clause-read : goal.returns-clause-read
returns-clause-read c =
    let text = c.args.text.now in
    let end = YieldsList-end (YieldsList-from_str_split 44 text (lit< tt) (cc) (cc) (cc)) c.loop-item.yielded _ c.loop-item.yielded_by _ _ c.in-None.is c.next.ensures.steps in
    let read = rw end.0 at c.loop-item.invariant in
    record {
      items = pieces_of text;
      parts = read.parts;
      split = AreItems-pieces text;
      each = read.each;
      has = read.has;
      star = same_from_decides c.starts_with.result (eqb (get_or text 0 0) 42) (starts_char 42 text c.starts_with.result c.starts_with.ensures.cases (lit< tt) (lit< tt)) (Decides-eqb (get_or text 0 0) 42);
      hashed = refl;
    }
