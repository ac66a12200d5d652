-- What a situation stands for between two rounds: replicas, the answers that wait for them, and their letters as they are heard.
use Rattle.std.specs.Prelude.{◌≡◌, ℕ, ◌<◌, List, Some, slice_get, Contains}
use Rattle.std.specs.List.{AllZip}
use Rattle.paxos_base.specs.declared.rows.TableSize.{TableSize}
use Rattle.step_spec.specs.Letters.{IsHeardAs}
use Rattle.history.specs.Book.{PostedLetter}
use Rattle.synchronous_rounds.specs.Cluster.{Cluster, HeardLetter}
use Rattle.script_semantics.specs.Situation.{Situation}

-- a posted letter is heard as this one
pub record IsHeardLike (members : ℕ) (size : TableSize) (posted : PostedLetter) (letter : HeardLetter) : Type 0 where
  pub from : letter.from ≡ posted.from
  pub heard : IsHeardAs members size posted.bytes posted.from letter.messages

-- the letter of a number was posted to the replica, and is heard as this one
pub record IsLetterAt (members : ℕ) (size : TableSize) (posted : List PostedLetter) (who number : ℕ) (letter : HeardLetter) : Type 0 where
  pub sent : PostedLetter
  pub there : slice_get posted number ≡ Some sent
  pub to : sent.to ≡ who
  pub heard : IsHeardLike members size sent letter

-- each number in the mail of a replica is that of a letter that was posted to it
abbrev pub AreMailsPosted : Situation → Type 0
AreMailsPosted situation =
    (who number : ℕ) → Contains (situation.mails who) number
    → (letter : PostedLetter) × (slice_get situation.standing.posted number ≡ Some letter) × (letter.to ≡ who)

-- **The situation stands for this**, of so many replicas and jobs: the same replicas, the same answers that wait for them, and in
-- each mail the letters of its numbers, in order, as they are heard.
pub record StandsForCluster (members : ℕ) (size : TableSize) (situation : Situation) (cluster : Cluster) : Type 0 where
  pub replicas : (who : ℕ) → who < members → cluster.replicas who ≡ situation.standing.replicas who
  pub waits : (who : ℕ) → who < members → cluster.waits who ≡ situation.standing.waits who
  pub mails : (who : ℕ) → who < members
      → AllZip (IsLetterAt members size situation.standing.posted who) (situation.mails who) (cluster.mails who)
