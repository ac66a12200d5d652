-- How many bases the replicas have kept: legal rows with the same turns have kept as many.
use Rattle.std.proofs.Common.{◌≡◌, ℕ, List, [], ◌∷◌, ◌++◌, map, fold, refl, sym, ap, ◌∙◌, subst, append_assoc}
use Rattle.std.proofs.lemmas.List.Sums.{fold-append}
use Rattle.due_set.specs.Table.{Table}
use Rattle.launch_machine.specs.Clerk.{first_rows}
use Rattle.paxos_base.specs.declared.durable.Delta.{Delta}
use Rattle.history.specs.Book.{Row, Standing, after_row, standing_after}
use Rattle.history.specs.Legal.{IsLegal, MayFollow}
use Rattle.history.specs.declared.turn.Turn.{Turn}
use Rattle.history.proofs.Keeping.{stands_next}
use Rattle.script_semantics.specs.Free.{after_all_posted, after_posted}
use Rattle.script_semantics.specs.Situation.{Situation, after_turn, after_turns, bases_kept, changes_in, first_situation}
use Rattle.world_law.specs.declared.row.BookRow.{BookRow}
use Rattle.world_law.proofs.Settled.{alike_after}
use Rattle.world_free.specs.Jobs.{IsOfPlan, situation_in}
use Rattle.world_free.specs.Plan.{ArePlayed, FreePlan, SharedBook}
use Rattle.history.proofs.FrontLemmas.{front_legal}
use Rattle.world_free.proofs.Played.{begun_stands, played_turns}
use Rattle.history.proofs.FrontLemmas.{follows_there as may_next}
use Rattle.script_semantics.proofs.TurnLemmas.{same_changes}

-- how many bases the replicas have kept by some rows
abbrev pub bases_in : FreePlan → List Row → ℕ → ℕ
bases_in plan rows = (after_turns plan.book.members (first_situation plan.book.members plan.table) rows).bases

-- ---- rows with the same turns

-- Situations after the rows before, in which the same stands and as many bases were kept.
record AreEven (n : ℕ) (table : Table) (one other : List Row) (first second : Situation) : Type 0 where
  pub first_is : first.standing ≡ standing_after n (first_rows table) one
  pub second_is : second.standing ≡ standing_after n (first_rows table) other
  pub stands : first.standing ≡ second.standing
  pub bases : first.bases ≡ second.bases

even_next : (n : ℕ) (table : Table) (one other : List Row) (first second : Situation) (row next : Row) → AreEven n table one other first second → row.turn ≡ next.turn
    → MayFollow n table (standing_after n (first_rows table) one) row.turn row → MayFollow n table (standing_after n (first_rows table) other) next.turn next
    → AreEven n table (one ++ row ∷ []) (other ++ next ∷ []) (after_turn n first row) (after_turn n second next)
even_next n table one other first second row next even turn a b = record {
  first_is = ap (λ (s : Standing). after_row n s row.turn row.event row.letters) even.first_is ∙ sym (stands_next n (first_rows table) one row);
  second_is = ap (λ (s : Standing). after_row n s next.turn next.event next.letters) even.second_is ∙ sym (stands_next n (first_rows table) other next);
  stands =
      (alike_after n table first.standing row.turn row next mine theirs).stands
      ∙ ap (λ (t : Turn). after_row n first.standing t next.event next.letters) turn
      ∙ ap (λ (s : Standing). after_row n s next.turn next.event next.letters) even.stands;
  bases =
      ap (λ (changes : List Delta). bases_kept row.turn changes first.bases) (same_changes n table first.standing row.turn row next mine theirs)
      ∙ ap (λ (t : Turn). bases_kept t (changes_in n first.standing t next.event) first.bases) turn
      ∙ ap (λ (s : Standing). bases_kept next.turn (changes_in n s next.turn next.event) first.bases) even.stands
      ∙ ap (bases_kept next.turn (changes_in n second.standing next.turn next.event)) even.bases;
}
  where
    mine : MayFollow n table first.standing row.turn row
    mine = subst (λ (s : Standing). MayFollow n table s row.turn row) (sym even.first_is) a

    theirs : MayFollow n table first.standing row.turn next
    theirs =
        subst (λ (t : Turn). MayFollow n table first.standing t next) (sym turn)
        (subst (λ (s : Standing). MayFollow n table s next.turn next) (sym (even.stands ∙ even.second_is)) b)

walk : (n : ℕ) (table : Table) (one other back behind : List Row) (first second : Situation) → IsLegal n table (one ++ back) → IsLegal n table (other ++ behind)
    → map (λ (row : Row). row.turn) back ≡ map (λ (row : Row). row.turn) behind → AreEven n table one other first second
    → (after_turns n first back).bases ≡ (after_turns n second behind).bases
walk n table one other [] [] first second legal lawful turns even = even.bases
walk n table one other [] (next ∷ behind) first second legal lawful turns even = absurd cc
walk n table one other (row ∷ back) [] first second legal lawful turns even = absurd cc
walk n table one other (row ∷ back) (next ∷ behind) first second legal lawful turns even =
    let turn : row.turn ≡ next.turn = cc in
    let rest : map (λ (row : Row). row.turn) back ≡ map (λ (row : Row). row.turn) behind = cc in
    walk n table (one ++ row ∷ []) (other ++ next ∷ []) back behind (after_turn n first row) (after_turn n second next)
    (subst (λ rows. IsLegal n table rows) (sym (append_assoc one (row ∷ []) back)) legal)
    (subst (λ rows. IsLegal n table rows) (sym (append_assoc other (next ∷ []) behind)) lawful) rest
    (even_next n table one other first second row next even turn (may_next n table one back row legal) (may_next n table other behind next lawful))

pub bases_settle : (n : ℕ) (table : Table) (one other : List Row) → IsLegal n table one → IsLegal n table other
    → map (λ (row : Row). row.turn) one ≡ map (λ (row : Row). row.turn) other
    → (after_turns n (first_situation n table) one).bases ≡ (after_turns n (first_situation n table) other).bases
bases_settle n table one other legal lawful turns =
    walk n table [] [] one other (first_situation n table) (first_situation n table) legal lawful turns (record { first_is = refl; second_is = refl; stands = refl; bases = refl })

-- whichever rows of a part have what the shared book has, as many were kept
pub played_bases : (plan : FreePlan) (after : List BookRow) (begun more first other : List Row) → ArePlayed plan after begun more → ArePlayed plan after first other
    → bases_in plan (begun ++ more) ≡ bases_in plan (first ++ other)
played_bases plan after begun more first other are also =
    bases_settle plan.book.members plan.table (begun ++ more) (first ++ other) are.legal also.legal
    (played_turns plan after begun more are ∙ sym (played_turns plan after first other also))

-- ---- the situation

-- letters that join the mails at once leave what was kept
pub posted_bases : (n : ℕ) (one other : Situation) (rows : List Row) → one.standing ≡ other.standing → one.bases ≡ other.bases
    → (after_all_posted n one rows).bases ≡ (after_turns n other rows).bases
posted_bases n one other [] stands bases = bases
posted_bases n one other (row ∷ rows) stands bases =
    posted_bases n (after_posted n one row) (after_turn n other row) rows (ap (λ (s : Standing). after_row n s row.turn row.event row.letters) stands)
    (ap (λ (s : Standing). bases_kept row.turn (changes_in n s row.turn row.event) one.bases) stands
    ∙ ap (bases_kept row.turn (changes_in n other.standing row.turn row.event)) bases)

pub standing_of : (n : ℕ) (situation : Situation) (rows : List Row)
    → (after_turns n situation rows).standing ≡ fold (λ (standing : Standing) (row : Row). after_row n standing row.turn row.event row.letters) situation.standing rows
standing_of n situation [] = refl
standing_of n situation (row ∷ rows) = standing_of n (after_turn n situation row) rows

-- the situation has as many as the rows of the part have
pub situation_bases : (plan : FreePlan) (book : SharedBook) (after : List BookRow) (begun more : List Row) → IsOfPlan plan book → ArePlayed plan after begun more
    → (situation_in plan more).bases ≡ bases_in plan (begun ++ more)
situation_bases plan book after begun more of are =
    posted_bases plan.book.members plan.situation (after_turns plan.book.members first begun) more
    (begun_stands plan book after begun more of are ∙ sym (standing_of plan.book.members first begun)) begun_bases
    ∙ ap (λ (s : Situation). s.bases) (sym (fold-append (after_turn plan.book.members) first begun more))
  where
    first : Situation
    first = first_situation plan.book.members plan.table

    begun_bases : plan.situation.bases ≡ bases_in plan begun
    begun_bases =
        of.at.bases
        ∙ bases_settle plan.book.members plan.table of.rows begun of.at.behind.legal (front_legal plan.book.members plan.table begun more are.legal) (sym of.at.behind.turns ∙ are.turns)

-- whichever rows have what a seat has seen, a replica has kept as many
pub bases_still : (plan : FreePlan) (book : SharedBook) (who : ℕ) (after : List BookRow) (begun more first other : List Row) → IsOfPlan plan book → ArePlayed plan after begun more
    → ArePlayed plan after first other → (situation_in plan more).bases who ≡ (situation_in plan other).bases who
bases_still plan book who after begun more first other of are also =
    ap (λ (bases : ℕ → ℕ). bases who)
    (situation_bases plan book after begun more of are ∙ played_bases plan after begun more first other are also ∙ sym (situation_bases plan book after first other of also))
