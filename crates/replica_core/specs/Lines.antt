-- What the lines of the table have a draft do.
use Rattle.std.specs.Prelude.{◌≡◌, ℕ, List, ◌∷◌}
use Rattle.paxos_base.specs.declared.entry.Vote.{Vote}
use Rattle.acceptor_core.specs.Acceptor.{IsPart}
use Rattle.replica_draft.specs.Draft.{FixedParts, done, drafted}
use Rattle.replica_draft.specs.declared.draft.Draft.{Draft}
use Rattle.replica_core.specs.declared.parts.Core.{Core}
use Rattle.step_spec.specs.Act.{Act, Cast, Send}
use Rattle.step_spec.specs.Hear.{ask_below}
use Rattle.step_spec.specs.Message.{Accepted, Only}
use Rattle.step_spec.specs.State.{State}

-- what a replica is, beside its draft
pub record IsFixed (core : Core) (kept : FixedParts) : Type 0 where
  pub acceptor : IsPart core.acceptor kept.durable
  pub learned : core.learner.entries ≡ kept.learned
  pub base : core.learner.base ≡ kept.durable.base
  pub rows : core.rows ≡ kept.durable.rows

-- a draft goes on by the acts that its state asks for
abbrev pub GoesOnByActs : Core → Draft → Draft → (State → List Act) → Type 0
GoesOnByActs core old new acts =
    (kept : FixedParts) → IsFixed core kept → drafted kept new ≡ done (acts (drafted kept old).state) (drafted kept old)

-- a vote is told, and what lies below it is asked for
abbrev pub tell_vote : ℕ → Vote → State → List Act
tell_vote from vote state = Send (Only from) (Accepted vote.ballot vote.slot) ∷ ask_below from vote.slot state

-- a vote is cast and told
abbrev pub cast_vote : ℕ → Vote → State → List Act
cast_vote from vote state = Cast vote ∷ tell_vote from vote state
