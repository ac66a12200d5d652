-- What a replica has of a part in which others take their turns too.
use Rattle.std.specs.Prelude.{◌≡◌, ℕ, false, List, [], ◌∷◌, drop, length}
use Rattle.std.specs.List.{filter}
use Rattle.history.specs.Book.{Row}
use Rattle.history.specs.declared.turn.Cause.{Cause}
use Rattle.history.specs.declared.turn.Cause.TheVariants.{Hear}
use Rattle.script_semantics.specs.Free.{is_turn_of}

-- no turn is the replica's
abbrev pub AreOthers : (who : ℕ) → List Row → Type 0
AreOthers who [] = Unit {0}
AreOthers who (row ∷ rows) = (is_turn_of who row.turn ≡ false) × AreOthers who rows

-- how many of the turns are the replica's
abbrev pub turns_had : (who : ℕ) → List Row → ℕ
turns_had who rows = length (filter (λ row. is_turn_of who row.turn) rows)

-- the mail behind a turn for this cause, but for the letters that come: a letter that is heard leaves it
abbrev pub mail_behind : Cause → List ℕ → List ℕ
mail_behind (Hear number) mail = drop 1 mail
mail_behind cause mail = mail
