-- What a turn leaves of the replicas of a world.
use Rattle.std.proofs.Common.{◌≡◌, ℕ, Bool, true, false, List, [], ◌∷◌, ◌++◌, Option, sym, ap, ◌∙◌, inl, inr}
use Rattle.std.proofs.lemmas.Bool.{cases_Bool}
use Rattle.std.specs.Option.{option_to_list}
use Rattle.disk_model.specs.View.{DiskView}
use Rattle.due_set.specs.Table.{Table}
use Rattle.history.specs.Book.{Row, Standing}
use Rattle.history.specs.declared.turn.CallRow.{CallRow}
use Rattle.script_semantics.specs.Situation.{Situation, after_turn, calls_for, changes_in}
use Rattle.world_law.specs.Book.{BookState, standing_behind}
use Rattle.world_steps.specs.Nodes.{bases_behind}
use Rattle.world_steps.specs.Parts.{IsBookAt}
use Rattle.world_steps.proofs.AfterTurn.{Leaves, mail_did, mail_stays, node_did, node_stays, row_runs, next_step, stands_after, stopped_stays}
use Rattle.world_steps.proofs.Bases.{bases_then, changes_joined}
use Rattle.world_steps.specs.Steps.{IsNodeAhead, causes_of, letters_heard_in}
use Rattle.world_steps.specs.Turns.{HasJoinedAt, HasLetters, noted}
use Rattle.world_steps.specs.declared.steps.Taken.{Taken}
use Rattle.world_rounds.specs.World.{IsMemberAhead}
use Rattle.world_rounds.specs.declared.member.Member.{Member}

module _ {D : Type 0} (view : DiskView D) (table : Table) where
  pub member_stays : (rows : List Row) (row : Row) (book after : BookState) (situation : Situation) (other : ℕ) (steps : List Taken) (member : Member D) → IsBookAt table rows book situation
      → after.members ≡ book.members → HasLetters book.letters after → Leaves book.members situation row other
      → IsMemberAhead view table rows book situation other steps member
      → IsMemberAhead view table (rows ++ row ∷ []) after (after_turn book.members situation row) other steps member
  member_stays rows row book after situation other steps member at members has leaves ahead = record {
    mail = mail_stays book.members situation row other (letters_heard_in (causes_of steps)) book.letters after member.mail has leaves ahead.mail;
    running = λ runs. node_stays view table rows row book after other steps member.node members has replica runs waits bases (ahead.running (sym running ∙ runs));
    stopped = λ stopped.
        stopped_stays view table book.members after.members other (standing_behind table rows book) (standing_behind table (rows ++ row ∷ []) after)
        (bases_behind table rows book other) (bases_behind table (rows ++ row ∷ []) after other) steps member.node members replica bases
        (ahead.stopped (sym running ∙ stopped));
  }
    where
      next : standing_behind table (rows ++ row ∷ []) after ≡ (after_turn book.members situation row).standing
      next = stands_after table rows row book after situation at members

      replica : (standing_behind table (rows ++ row ∷ []) after).replicas other ≡ (standing_behind table rows book).replicas other
      replica = ap (λ (s : Standing). s.replicas other) next ∙ leaves.replica ∙ ap (λ (s : Standing). s.replicas other) at.standing

      running : (standing_behind table (rows ++ row ∷ []) after).runs other ≡ (standing_behind table rows book).runs other
      running = ap (λ (s : Standing). s.runs other) next ∙ leaves.runs ∙ ap (λ (s : Standing). s.runs other) at.standing

      waits : (standing_behind table (rows ++ row ∷ []) after).waits other ≡ (standing_behind table rows book).waits other
      waits = ap (λ (s : Standing). s.waits other) next ∙ leaves.waits ∙ ap (λ (s : Standing). s.waits other) at.standing

      bases : bases_behind table (rows ++ row ∷ []) after other ≡ bases_behind table rows book other
      bases =
          ap (λ (counts : ℕ → ℕ). counts other) (sym (bases_then table rows row book after situation at members)) ∙ leaves.base
          ∙ ap (λ (counts : ℕ → ℕ). counts other) at.bases

-- a replica that is a step ahead runs
pub runs_ahead : {D : Type 0} (view : DiskView D) (table : Table) (rows : List Row) (book : BookState) (situation : Situation) (who : ℕ) (taken : Taken)
    (more : List Taken) (member : Member D) → IsMemberAhead view table rows book situation who (taken ∷ more) member → (standing_behind table rows book).runs who ≡ true
runs_ahead view table rows book situation who taken more member ahead =
    elim (cases_Bool ((standing_behind table rows book).runs who)) [
      | inl runs ↦ runs
      | inr stopped ↦ absurd (let none = (ahead.stopped stopped).none in cc)
    ]

module _ {D : Type 0} (view : DiskView D) (table : Table) where
  pub member_did : (rows : List Row) (book after : BookState) (situation : Situation) (who : ℕ) (taken : Taken) (more : List Taken) (made : Option CallRow) (member : Member D)
      → (at : IsBookAt table rows book situation) → (ahead : IsMemberAhead view table rows book situation who (taken ∷ more) member)
      → (node : IsNodeAhead view table rows book who (taken ∷ more) member.node)
      → (joined : HasJoinedAt table rows book after who taken made node.took.0)
      → IsMemberAhead view table (rows ++ joined.row ∷ []) after (after_turn book.members situation joined.row) who more
      (record member { mail = noted made (calls_for (option_to_list taken.out.delta)) member.mail })
  member_did rows book after situation who taken more made member at ahead node joined = record {
    mail = mail_did book.members situation joined.row who taken more made book.letters after member.mail joined.joined.turn changes joined.joined.has ahead.mail;
    running = λ here. node_did view table rows book after who taken more made member.node at.behind at.rest at.few node joined;
    stopped = λ stopped. absurd (let e : true ≡ false = sym was ∙ sym running ∙ stopped in cc);
  }
    where
      runs : (after_turn book.members situation joined.row).standing.runs ≡ situation.standing.runs
      runs = row_runs book.members situation.standing joined.row who taken.cause made joined.joined.turn

      changes : changes_in book.members situation.standing joined.row.turn joined.row.event ≡ option_to_list taken.out.delta
      changes =
          ap (λ (s : Standing). changes_in book.members s joined.row.turn joined.row.event) at.standing
          ∙ changes_joined table rows book after who taken node.first node.took.0 made joined.row
          (next_step view table rows book situation who taken more member.node at node) joined.joined

      was : (standing_behind table rows book).runs who ≡ true
      was = runs_ahead view table rows book situation who taken more member ahead

      running : (standing_behind table (rows ++ joined.row ∷ []) after).runs who ≡ (standing_behind table rows book).runs who
      running =
          ap (λ (s : Standing). s.runs who) (stands_after table rows joined.row book after situation at joined.joined.members) ∙ ap (λ (runs : ℕ → Bool). runs who) runs
          ∙ ap (λ (s : Standing). s.runs who) at.standing
