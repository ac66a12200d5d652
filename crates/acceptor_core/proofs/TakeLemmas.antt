-- An acceptor that takes a change stays its replica's part.
use Rattle.std.proofs.Common.{◌≡◌, ℕ, Some, ap, ◌∙◌}
use Rattle.paxos_base.specs.declared.entry.Vote.{Vote}
use Rattle.paxos_base.specs.declared.durable.Delta.TheVariants.{Tried, Promised, Voted, Base}
use Rattle.paxos_base.specs.declared.durable.Durable.{Durable}
use Rattle.paxos_base.specs.declared.rows.JobRow.{JobRow}
use Rattle.std.specs.Prelude.{List}
use Rattle.paxos_base.specs.Vote.{put_vote, votes_from}
use Rattle.paxos_base.specs.Durable.{after_delta}
use Rattle.acceptor_core.specs.Acceptor.{AcceptorState, IsPart}

pub part-tried : (old new : AcceptorState) (durable : Durable) (ballot : ℕ) → new.promised ≡ Some ballot → new.votes ≡ old.votes → new.base ≡ old.base → IsPart old durable → IsPart new (after_delta (Tried ballot) durable)
unfolding after_delta
part-tried old new durable ballot promised votes base part = record { promised = promised; votes = votes ∙ part.votes; base = base ∙ part.base }

pub part-promised : (old new : AcceptorState) (durable : Durable) (ballot : ℕ) → new.promised ≡ Some ballot → new.votes ≡ old.votes → new.base ≡ old.base → IsPart old durable → IsPart new (after_delta (Promised ballot) durable)
unfolding after_delta
part-promised old new durable ballot promised votes base part = record { promised = promised; votes = votes ∙ part.votes; base = base ∙ part.base }

pub part-voted : (old new : AcceptorState) (durable : Durable) (vote : Vote) → new.promised ≡ Some vote.ballot → new.votes ≡ put_vote vote old.votes → new.base ≡ old.base → IsPart old durable → IsPart new (after_delta (Voted vote) durable)
unfolding after_delta
part-voted old new durable vote promised votes base part = record { promised = promised; votes = votes ∙ ap (put_vote vote) part.votes; base = base ∙ part.base }

pub part-base : (old new : AcceptorState) (durable : Durable) (slot : ℕ) (rows : List JobRow) → new.promised ≡ old.promised → new.votes ≡ votes_from slot old.votes → new.base ≡ slot → IsPart old durable → IsPart new (after_delta (Base slot rows) durable)
unfolding after_delta
part-base old new durable slot rows promised votes base part = record { promised = promised ∙ part.promised; votes = votes ∙ ap (votes_from slot) part.votes; base = base }
