-- What is kept beside the rows.
use Rattle.std.specs.Prelude.{◌≡◌, ℕ, List, ◌∷◌, drop}
use Rattle.paxos_base.specs.declared.rows.JobRow.{JobRow}
use Rattle.paxos_base.specs.declared.durable.Durable.{Durable}
use Rattle.store_format.specs.declared.body.Record.TheVariants.{Base}
use Rattle.store_format.specs.Records.{IsRecord}

-- what is kept, with these rows in place of its own
abbrev pub beside : List JobRow → Durable → Durable
beside rows kept = record kept { rows = rows }

-- bodies begin with a base of that slot, and those behind its group are the rest
pub record IsBehindGroup (bodies : List (List ℕ)) (slot : ℕ) (rest : List (List ℕ)) : Type 0 where
  pub body : List ℕ
  pub tail : List (List ℕ)
  pub count : ℕ
  pub bodies_are : bodies ≡ body ∷ tail
  pub base : IsRecord body (Base slot count)
  pub rest_is : rest ≡ drop count tail
