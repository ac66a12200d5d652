-- How letters join the mails of a replay. Private functions alone cite it.
use Rattle.std.specs.Prelude.{ℕ, List, [], ◌∷◌, ◌++◌, if◌then◌else◌, slice_get}
use Rattle.script_semantics.specs.Situation.{Situation, reaches}

-- a letter, where it reaches the replica
abbrev pub mail_arrival : Situation → ℕ → ℕ → List ℕ
mail_arrival situation number who = if reaches situation who (slice_get situation.standing.posted number) then number ∷ [] else []

-- a letter has joined the mail of its addressee, where it reaches that
abbrev pub letter_arrived : ℕ → Situation → Situation
letter_arrived number situation = record situation { mails = λ who. situation.mails who ++ mail_arrival situation number who }
