use Rattle.std.proofs.Common.{ℕ, ◌≤◌, Option, None, Some, arith, subst}
use Rattle.std.specs.Option.{unwrap_or}
use Rattle.gate_file.specs.File.{bodies_of}
use Rattle.paxos_base.specs.Ballot.{IsAtLeast}
use Rattle.paxos_base.specs.declared.durable.Durable.{Durable}
use Rattle.paxos_base.specs.Durable.{after_delta}
use Rattle.replica_store.proofs.FileLemmas.{bodies_stand_for_one}
use Rattle.store_bench.proofs.votes.save_votes.Goals as goal

-- the ballot that is promised, or else another, is at least the one that is promised
at_least : (promised : Option ℕ) (other : ℕ) → IsAtLeast (unwrap_or promised other) promised
at_least None other = tt
at_least (Some ballot) other = omega arith

pub loop-slot-init : goal.loop-slot-init
loop-slot-init c = record {
  rests = c.in_ok-store.ensures.rests;
  takes = (c.in_ok-store.kept, (c.in_ok-store.ensures.keeps, (rw c.unwrap_or-ballot.ensures (at_least c.in_ok-store.kept.promised c.of.result), omega arith)));
}

pub save-requires-clause-follows : goal.save-requires-clause-follows
save-requires-clause-follows c kept keeps =
    let store = c.loop-slot.store in
    let takes = c.loop-slot.invariant.takes in
    let ballot = c.unwrap_or-ballot.result in
    let slot = c.loop-slot.slot in
    let below : takes.0.base ≤ slot = omega (arith, takes.1.1.1, c.loop-slot.auto.slot) in
    subst (λ (durable : Durable). IsAtLeast ballot durable.promised × (durable.base ≤ slot)) (bodies_stand_for_one store.size (bodies_of store.gates) takes.0 kept takes.1.0 keeps) (takes.1.1.0, below)

pub loop-slot-preserved : goal.loop-slot-preserved
unfolding after_delta
loop-slot-preserved c =
    let takes = c.loop-slot.invariant.takes in
    record {
      rests = c.in_ok-save.ensures.rests;
      takes = (_, (c.in_ok-save.ensures.keeps takes.0 takes.1.0, (omega arith, takes.1.1.1)));
    }
