use Rattle.std.proofs.Common.{◌≤◌, ◌-◌, ltb, length, rules, arith}
use Rattle.std.proofs.lemmas.List.Sorted.{IsPartitionedBy-ltb, IsPartitionPoint-from_clause}
use Rattle.paxos_base.specs.declared.entry.Vote.{Vote}
use Rattle.paxos_base.proofs.PlaceLemmas.{Parts, EndsAt, parts-below, parts-from, empty_parts, parts_past, parts_last, parts_point, SlotsRise-non_decreasing}
use Rattle.paxos_base.proofs.votes.place_of.Goals as goal

pub returns-in-None-clause-below : goal.returns-in-None-clause-below
returns-in-None-clause-below c = let none : length c.args.votes.now ≤ 0 = grind arith in parts-below c.args.slot 0 c.args.votes.now (empty_parts c.args.slot c.args.votes.now none)

pub returns-in-None-clause-from : goal.returns-in-None-clause-from
returns-in-None-clause-from c = let none : length c.args.votes.now ≤ 0 = grind arith in parts-from c.args.slot 0 c.args.votes.now (empty_parts c.args.slot c.args.votes.now none)

past : (c : goal.Then-last-slot) → Parts c.args.slot (length c.args.votes.now) c.args.votes.now
past c =
    let ends : EndsAt c.args.votes.now c.in-Some.vote.now.slot = record { some = grind arith; last_is = λ d. grind arith } in
    parts_past c.args.slot c.in-Some.vote.now.slot c.args.votes.now c.requires ends c.if-last-slot.true

pub returns-then-last-slot-clause-below : goal.returns-then-last-slot-clause-below
returns-then-last-slot-clause-below c = parts-below c.args.slot _ c.args.votes.now (past c)

pub returns-then-last-slot-clause-from : goal.returns-then-last-slot-clause-from
returns-then-last-slot-clause-from c = parts-from c.args.slot _ c.args.votes.now (past c)

last : (c : goal.Then-last-slot-2) → Parts c.args.slot (length c.args.votes.now - 1) c.args.votes.now
last c =
    let ends : EndsAt c.args.votes.now c.in-Some.vote.now.slot = record { some = grind arith; last_is = λ d. grind arith } in
    parts_last c.args.slot c.in-Some.vote.now.slot c.args.votes.now c.requires ends c.if-last-slot-2.true

pub returns-then-last-slot-2-clause-below : goal.returns-then-last-slot-2-clause-below
returns-then-last-slot-2-clause-below c = parts-below c.args.slot _ c.args.votes.now (last c)

pub returns-then-last-slot-2-clause-from : goal.returns-then-last-slot-2-clause-from
returns-then-last-slot-2-clause-from c = parts-from c.args.slot _ c.args.votes.now (last c)

searched : (c : goal.After-partition_point) → Parts c.args.slot c.partition_point.result c.args.votes.now
searched c =
    parts_point c.args.slot c.partition_point.result c.args.votes.now c.partition_point.ensures.bound
    (IsPartitionPoint-from_clause (λ (vote : Vote). ltb vote.slot c.args.slot) c.args.votes.now c.partition_point.result c.partition_point.ensures.partitioned
    (IsPartitionedBy-ltb (λ (vote : Vote). vote.slot) c.args.votes.now c.args.slot (SlotsRise-non_decreasing c.args.votes.now c.requires)) (λ a r q k. search rules))

pub returns-else-last-slot-2-clause-below : goal.returns-else-last-slot-2-clause-below
returns-else-last-slot-2-clause-below c = parts-below c.args.slot _ c.args.votes.now (searched c)

pub returns-else-last-slot-2-clause-from : goal.returns-else-last-slot-2-clause-from
returns-else-last-slot-2-clause-from c = parts-from c.args.slot _ c.args.votes.now (searched c)
