-- What no promise and no letter goes beyond, whatever was learned.
use Rattle.std.specs.Prelude.{ℕ, ◌<◌, ◌≤◌, List}
use Rattle.std.specs.List.{AllByRecursion}
use Rattle.step_spec.specs.Message.{Message, ballot_in}
use Rattle.step_spec.specs.State.{promised_in}
use Rattle.synchronous_rounds.specs.Cluster.{Cluster, HeardLetter}

-- the message names no ballot above `top`
abbrev pub NamesUpTo : ℕ → Message → Type 0
NamesUpTo top message = ballot_in message ≤ top

-- each message of a mail does so
abbrev pub AreNamed : ℕ → List HeardLetter → Type 0
AreNamed top mail = AllByRecursion (λ letter. AllByRecursion (NamesUpTo top) letter.messages) mail

-- No replica has promised a ballot above `top`, and no letter names one.
pub record IsNamedUpTo (members top : ℕ) (cluster : Cluster) : Type 0 where
  pub low : (who : ℕ) → who < members → promised_in (cluster.replicas who).kept ≤ top
  pub named : (who : ℕ) → who < members → AreNamed top (cluster.mails who)
