-- Behind the book that a part leaves stand the rows with which the part began, whichever these were, and rows that have what the part has.
use Rattle.std.proofs.Common.{◌≡◌, ℕ, List, [], ◌∷◌, ◌++◌, map, sym, ap, ◌∙◌, subst, append_assoc}
use Rattle.std.specs.List.{AllZip}
use Rattle.std.proofs.lemmas.List.{append-nil, map-append}
use Rattle.due_set.specs.Table.{Table}
use Rattle.launch_machine.specs.Clerk.{first_rows}
use Rattle.history.specs.Book.{Row, Standing, after_row, standing_after}
use Rattle.history.specs.Legal.{IsLegal, MayFollow}
use Rattle.history.specs.declared.turn.Turn.{Turn}
use Rattle.history.proofs.Turns.{legal_push}
use Rattle.history.proofs.Keeping.{stands_next}
use Rattle.world_law.specs.Book.{BookState, StandsBehind}
use Rattle.world_law.specs.Rows.{HasRows, HasTurnOf}
use Rattle.world_law.specs.declared.row.BookRow.{BookRow}
use Rattle.world_law.proofs.Rows.{turns_behind}
use Rattle.world_law.proofs.Settled.{stand_instead, turns_settle}
use Rattle.world_free.proofs.Lists.{zip_split}
use Rattle.history.proofs.FrontLemmas.{front_legal}
use Rattle.history.proofs.FrontLemmas.{follows_there as may_next}

abbrev turns_of : List Row → List Turn
turns_of rows = map (λ (row : Row). row.turn) rows

-- rows that come after some may come after others that leave the same
legal_swapped : (members : ℕ) (table : Table) (one other more : List Row) → IsLegal members table (one ++ more) → IsLegal members table other
    → standing_after members (first_rows table) one ≡ standing_after members (first_rows table) other → IsLegal members table (other ++ more)
legal_swapped members table one other [] legal lawful same = rw (append-nil other) lawful
legal_swapped members table one other (row ∷ more) legal lawful same =
    let may = may_next members table one more row legal in
    let there : MayFollow members table (standing_after members (first_rows table) other) row.turn row =
    subst (λ (s : Standing). MayFollow members table s row.turn row) same may in
    let next : standing_after members (first_rows table) (one ++ row ∷ []) ≡ standing_after members (first_rows table) (other ++ row ∷ []) =
    stands_next members (first_rows table) one row ∙ ap (λ (s : Standing). after_row members s row.turn row.event row.letters) same
    ∙ sym (stands_next members (first_rows table) other row) in
    subst (λ rows. IsLegal members table rows) (append_assoc other (row ∷ []) more)
    (legal_swapped members table (one ++ row ∷ []) (other ++ row ∷ []) more
    (subst (λ rows. IsLegal members table rows) (sym (append_assoc one (row ∷ []) more)) legal)
    (legal_push members table other row lawful there) next)

pub record Joins (table : Table) (rows : List Row) (after : List BookRow) (new : BookState) : Type 0 where
  pub more : List Row
  pub each : AllZip HasTurnOf after more
  pub stands : StandsBehind table (rows ++ more) new

pub joins : (table : Table) (rows : List Row) (first after : List BookRow) (old new : BookState) → new.members ≡ old.members → StandsBehind table rows old
    → HasRows table first old
    → HasRows table (first ++ after) new → Joins table rows after new
joins table rows first after old new members behind began has =
    let two = zip_split HasTurnOf first after has.behind has.each in
    let whole : IsLegal new.members table (two.one ++ two.other) = subst (λ all. IsLegal new.members table all) two.parts has.stands.legal in
    let front : IsLegal new.members table two.one = front_legal new.members table two.one two.other whole in
    let here : IsLegal new.members table rows = subst (λ n. IsLegal n table rows) (sym members) behind.legal in
    let same_turns : turns_of two.one ≡ turns_of rows =
    turns_behind first two.one two.first ∙ sym (turns_behind first began.behind began.each) ∙ sym began.stands.turns ∙ behind.turns in
    let standing : standing_after new.members (first_rows table) two.one ≡ standing_after new.members (first_rows table) rows =
    (turns_settle new.members table two.one rows front here same_turns).stands in
    let legal = legal_swapped new.members table two.one rows two.other whole here standing in
    record {
      more = two.other;
      each = two.second;
      stands =
          stand_instead table has.behind (rows ++ two.other) new has.stands legal
          (has.stands.turns ∙ ap turns_of two.parts ∙ map-append (λ (row : Row). row.turn) two.one two.other ∙ ap (λ l. l ++ turns_of two.other) same_turns
          ∙ sym (map-append (λ (row : Row). row.turn) rows two.other));
    }
