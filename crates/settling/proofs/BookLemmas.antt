-- The rows behind a front of a legal book, and its letters.
use Rattle.std.proofs.Common.{◌≡◌, ℕ, ◌^◌, ◌<◌, ◌≤◌, ltb, List, [], ◌∷◌, ◌++◌, length, refl, sym, ap, ◌∙◌, arith, subst}
use Rattle.std.proofs.lemmas.Bool.{and_from, lt-ltb}
use Rattle.std.proofs.lemmas.List.Sums.{fold-append}
use Rattle.due_set.specs.Table.{IsSound, Table}
use Rattle.launch_machine.specs.Clerk.{first_rows, table_size}
use Rattle.paxos_letter.proofs.LetterLemmas.{letters_have_packets}
use Rattle.step_spec.specs.Coherent.{IsCoherent}
use Rattle.step_spec.specs.Letters.{are_small}
use Rattle.agreement.specs.Transition.{identity_of}
use Rattle.history.specs.Book.{Row, Standing, after_row, first_standing, standing_after}
use Rattle.history.specs.Legal.{IsLegal}
use Rattle.history.proofs.Turns.{after_rows}
use Rattle.history.proofs.BookLemmas.{stands}
use Rattle.history.proofs.Heard.{letters_small}
use Rattle.script_semantics.specs.Situation.{Situation, after_turn, after_turns}
use Rattle.settling.specs.Rounds.{IsWithinBounds}
use Rattle.settling.proofs.PostLemmas.{AreWhole}

turns_stand : (members : ℕ) (situation : Situation) (rows : List Row) → (after_turns members situation rows).standing ≡ after_rows members situation.standing rows
turns_stand members situation [] = refl
turns_stand members situation (row ∷ rows) = turns_stand members (after_turn members situation row) rows

-- what stands after the turns is what stands after the whole book
pub stand_after : (members : ℕ) (table : Table) (book rows : List Row) (situation : Situation) → situation.standing ≡ standing_after members (first_rows table) book
    → (after_turns members situation rows).standing ≡ standing_after members (first_rows table) (book ++ rows)
stand_after members table book rows situation is =
    turns_stand members situation rows ∙ ap (λ standing. after_rows members standing rows) is
    ∙ sym (fold-append (λ (standing : Standing) (row : Row). after_row members standing row.turn row.event row.letters) (first_standing members (first_rows table)) book rows)

pub letters_are_whole : (members : ℕ) (table : Table) (book : List Row) → members ≤ 7 → IsSound table → IsLegal members table book
    → IsWithinBounds book (standing_after members (first_rows table) book).posted
    → AreWhole members (table_size table) (standing_after members (first_rows table) book).posted
letters_are_whole members table book few sound legal limits letter has packets spells =
    let small_bytes = limits.letters letter has in
    let long = (letters_have_packets members letter.from packets letter.bytes spells).1 in
    let fewer : length packets < 2 ^ 31 = omega (arith, long, small_bytes) in
    and_from (ltb (length packets) (2 ^ 31)) (are_small (table_size table) packets) (lt-ltb (length packets) (2 ^ 31) fewer)
    (letters_small members table book letter packets few sound legal limits.turns has spells)

pub book_coherent : (members : ℕ) (table : Table) (book : List Row) (who : ℕ) → members ≤ 7 → IsLegal members table book → who < members
    → IsCoherent (identity_of members who) ((standing_after members (first_rows table) book).replicas who)
book_coherent members table book who few legal member =
    let there = stands members table book few legal in
    subst (λ s. IsCoherent (identity_of members who) s) (there.matches.replicas who) (there.followed.whole.kept.sound who member)
