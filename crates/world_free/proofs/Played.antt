-- Rows of a part that threads take: whichever of them have what the shared book has, the same stands after them.
use Rattle.std.proofs.Common.{◌≡◌, ℕ, List, [], ◌∷◌, ◌++◌, map, fold, refl, sym, ap, ◌∙◌, subst, append_assoc}
use Rattle.std.specs.List.{AllZip}
use Rattle.std.proofs.lemmas.List.{map-append}
use Rattle.std.proofs.lemmas.List.Sums.{fold-append}
use Rattle.launch_machine.specs.Clerk.{first_rows}
use Rattle.history.specs.Book.{Row, Standing, after_row, first_standing, standing_after}
use Rattle.history.specs.Legal.{IsLegal}
use Rattle.history.specs.declared.turn.Turn.{Turn}
use Rattle.script_semantics.specs.Free.{after_all_posted, after_posted}
use Rattle.script_semantics.specs.Situation.{Situation}
use Rattle.world_law.specs.Rows.{HasTurnOf}
use Rattle.world_law.specs.declared.row.BookRow.{BookRow}
use Rattle.world_law.proofs.Rows.{turns_behind}
use Rattle.world_law.proofs.Settled.{turns_settle}
use Rattle.world_free.specs.Jobs.{IsOfPlan, situation_in}
use Rattle.world_free.specs.Plan.{ArePlayed, FreePlan, SharedBook}
use Rattle.world_free.proofs.Lists.{zip_split}
use Rattle.history.proofs.FrontLemmas.{front_legal}

abbrev turns_of : List Row → List Turn
turns_of rows = map (λ (row : Row). row.turn) rows

-- what stands after rows of a part
abbrev pub stands_in : FreePlan → List Row → Standing
stands_in plan rows = standing_after plan.book.members (first_rows plan.table) rows

-- ---- fronts

-- a part that has more is one that has less, and more
pub record Split (plan : FreePlan) (after more_rows : List BookRow) (begun more : List Row) : Type 0 where
  pub one : List Row
  pub other : List Row
  pub parts : more ≡ one ++ other
  pub first : ArePlayed plan after begun one
  pub second : AllZip HasTurnOf more_rows other

pub split_played : (plan : FreePlan) (after gone : List BookRow) (begun more : List Row) → ArePlayed plan (after ++ gone) begun more → Split plan after gone begun more
split_played plan after gone begun more are =
    let two = zip_split HasTurnOf after gone more are.each in
    record {
      one = two.one;
      other = two.other;
      parts = two.parts;
      first = record {
        legal = front_legal plan.book.members plan.table (begun ++ two.one) two.other
            (subst (λ rows. IsLegal plan.book.members plan.table rows) (ap (λ rows. begun ++ rows) two.parts ∙ sym (append_assoc begun two.one two.other)) are.legal);
        turns = are.turns;
        each = two.first;
      };
      second = two.second;
    }

-- ---- one standing

pub played_turns : (plan : FreePlan) (after : List BookRow) (begun more : List Row) → ArePlayed plan after begun more → turns_of (begun ++ more) ≡ plan.book.turns ++ map (λ (row : BookRow). row.turn) after
played_turns plan after begun more are =
    map-append (λ (row : Row). row.turn) begun more ∙ ap (λ l. l ++ turns_of more) (sym are.turns) ∙ ap (λ l. plan.book.turns ++ l) (turns_behind after more are.each)

pub played_stand : (plan : FreePlan) (after : List BookRow) (begun more first other : List Row) → ArePlayed plan after begun more → ArePlayed plan after first other
    → stands_in plan (begun ++ more) ≡ stands_in plan (first ++ other)
played_stand plan after begun more first other are also =
    (turns_settle plan.book.members plan.table (begun ++ more) (first ++ other) are.legal also.legal
    (played_turns plan after begun more are ∙ sym (played_turns plan after first other also))).stands

-- ---- the situation

-- letters that join the mails at once leave what stands
pub posted_stands : (members : ℕ) (situation : Situation) (rows : List Row)
    → (after_all_posted members situation rows).standing ≡ fold (λ (standing : Standing) (row : Row). after_row members standing row.turn row.event row.letters) situation.standing rows
posted_stands members situation [] = refl
posted_stands members situation (row ∷ rows) = posted_stands members (after_posted members situation row) rows

pub begun_stands : (plan : FreePlan) (book : SharedBook) (after : List BookRow) (begun more : List Row) → IsOfPlan plan book → ArePlayed plan after begun more
    → plan.situation.standing ≡ stands_in plan begun
begun_stands plan book after begun more of are =
    of.at.standing
    ∙ (turns_settle plan.book.members plan.table of.rows begun of.at.behind.legal (front_legal plan.book.members plan.table begun more are.legal) (sym of.at.behind.turns ∙ are.turns)).stands

pub situation_stands : (plan : FreePlan) (book : SharedBook) (after : List BookRow) (begun more : List Row) → IsOfPlan plan book → ArePlayed plan after begun more
    → (situation_in plan more).standing ≡ stands_in plan (begun ++ more)
situation_stands plan book after begun more of are =
    let next = λ (standing : Standing) (row : Row). after_row plan.book.members standing row.turn row.event row.letters in
    posted_stands plan.book.members plan.situation more ∙ ap (λ (s : Standing). fold next s more) (begun_stands plan book after begun more of are)
    ∙ sym (fold-append next (first_standing plan.book.members (first_rows plan.table)) begun more)
