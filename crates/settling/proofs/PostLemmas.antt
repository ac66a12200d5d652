-- The letters of a step, as those to whom they go hear them.
use Rattle.std.proofs.Common.{◌≡◌, ◌≢◌, ℕ, zero, suc, ◌+◌, ◌<◌, ◌≤◌, Bool, true, List, [], ◌∷◌, ◌++◌, refl, sym, ◌∙◌, inl, inr, arith, subst}
use Rattle.std.specs.Prelude.{◌==◌}
use Rattle.std.specs.List.{AllZip, Contains, filter, flat_map, range_with_len}
use Rattle.std.proofs.lemmas.Bool.{cases_eq, eq-eqb, ne_eqb}
use Rattle.paxos_base.specs.declared.rows.TableSize.{TableSize}
use Rattle.paxos_letter.specs.Letters.{Spells}
use Rattle.paxos_letter.specs.declared.packet.Packet.{Packet}
use Rattle.step_spec.specs.Folds.{Addressed, letter_of}
use Rattle.step_spec.specs.Heard.{heard_as, packets_of}
use Rattle.step_spec.specs.Letters.{IsSpelled, is_small_letter}
use Rattle.step_spec.specs.Message.{Message}
use Rattle.step_spec.specs.declared.out.OutLetter.{OutLetter}
use Rattle.step_spec.proofs.HeardLemmas.{messages_heard}
use Rattle.history.specs.Book.{PostedLetter, post}
use Rattle.synchronous_rounds.specs.Cluster.{letter_from}
use Rattle.settling.specs.Stands.{IsHeardLike}
use Rattle.due_set.proofs.Rising.{Contains-head as in_first, Contains-tail as in_rest}

-- the letter goes to the replica
abbrev pub is_to : ℕ → PostedLetter → Bool
is_to who letter = letter.to == who

-- the letter is within the bounds, however it is spelled
abbrev pub IsWhole : (members : ℕ) (size : TableSize) → PostedLetter → Type 0
IsWhole members size letter = (packets : List Packet) → Spells members letter.from packets letter.bytes → is_small_letter size packets ≡ true

-- each letter is
abbrev pub AreWhole : (members : ℕ) (size : TableSize) → List PostedLetter → Type 0
AreWhole members size letters = (letter : PostedLetter) → Contains letters letter → IsWhole members size letter

-- what is said to some replicas by their numbers, one letter to each to whom anything is said
abbrev said_from : (from count : ℕ) → (ℕ → List Message) → List Addressed
said_from from count sent = flat_map (λ member. letter_of member (sent member)) (range_with_len from count)

-- the letters behind those of the first
record Behind (members : ℕ) (size : TableSize) (me q : ℕ) (back : List Addressed) (letters : List OutLetter) : Type 0 where
  rest : List OutLetter
  spelled : AllZip (IsSpelled members me) back rest
  whole : AreWhole members size (post me letters) → AreWhole members size (post me rest)
  same : filter (is_to q) (post me letters) ≡ filter (is_to q) (post me rest)

behind_other : (members : ℕ) (size : TableSize) (me q from : ℕ) (messages : List Message) (back : List Addressed) (letters : List OutLetter)
    → AllZip (IsSpelled members me) (letter_of from messages ++ back) letters → from ≢ q → Behind members size me q back letters
behind_other members size me q from [] back letters spelled other = record { rest = letters; spelled = spelled; whole = λ whole. whole; same = refl }
behind_other members size me q from (message ∷ messages) back [] spelled other = absurd spelled
behind_other members size me q from (message ∷ messages) back (letter ∷ letters) spelled other =
    let apart : letter.to ≢ q = λ same. other (sym spelled.0.to ∙ same) in
    record {
      rest = letters;
      spelled = spelled.1;
      whole = λ whole one has. whole one (in_rest _ (post me letters) one has);
      same = rw (ne_eqb letter.to q apart) refl;
    }

none_to : (members : ℕ) (size : TableSize) (me q from count : ℕ) (sent : ℕ → List Message) (letters : List OutLetter)
    → AllZip (IsSpelled members me) (said_from from count sent) letters → q < from → filter (is_to q) (post me letters) ≡ []
none_to members size me q from zero sent [] spelled below = refl
none_to members size me q from zero sent (letter ∷ letters) spelled below = absurd spelled
none_to members size me q from (suc count) sent letters spelled below =
    let behind = behind_other members size me q from (sent from) (said_from (from + 1) count sent) letters spelled (λ same. absurd (omega (arith, same, below))) in
    behind.same ∙ none_to members size me q (from + 1) count sent behind.rest behind.spelled (omega (arith, below))

-- the letter is heard as what was said
heard_like : (members : ℕ) (size : TableSize) (me : ℕ) (letter : OutLetter) (messages : List Message) → Spells members me (flat_map packets_of messages) letter.bytes
    → IsWhole members size (record { from = me; to = letter.to; bytes = letter.bytes })
    → IsHeardLike members size (record { from = me; to = letter.to; bytes = letter.bytes }) (record { from = me; messages = flat_map heard_as messages })
heard_like members size me letter messages spells whole =
    let small : is_small_letter size (flat_map packets_of messages) ≡ true = whole (flat_map packets_of messages) spells in
    record { from = refl; heard = record { packets = flat_map packets_of messages; spells = spells; heard = rw small (sym (messages_heard messages)) } }

first_to : (members : ℕ) (size : TableSize) (me q : ℕ) (messages : List Message) (count : ℕ) (sent : ℕ → List Message) (letters : List OutLetter)
    → AllZip (IsSpelled members me) (letter_of q messages ++ said_from (q + 1) count sent) letters → AreWhole members size (post me letters)
    → AllZip (IsHeardLike members size) (filter (is_to q) (post me letters)) (letter_from me messages)
first_to members size me q [] count sent letters spelled whole =
    rw (none_to members size me q (q + 1) count sent letters spelled (omega arith)) tt
first_to members size me q (message ∷ messages) count sent [] spelled whole = absurd spelled
first_to members size me q (message ∷ messages) count sent (letter ∷ letters) spelled whole =
    let none = none_to members size me q (q + 1) count sent letters spelled.1 (omega arith) in
    rw (eq-eqb letter.to q spelled.0.to, none)
    (heard_like members size me letter (message ∷ messages) spelled.0.spells (whole _ (in_first _ (post me letters))), tt)

pub one_to : (members : ℕ) (size : TableSize) (me q from count : ℕ) (sent : ℕ → List Message) (letters : List OutLetter)
    → AllZip (IsSpelled members me) (said_from from count sent) letters → AreWhole members size (post me letters) → from ≤ q → q < from + count
    → AllZip (IsHeardLike members size) (filter (is_to q) (post me letters)) (letter_from me (sent q))
one_to members size me q from zero sent letters spelled whole least below = absurd (omega (arith, least, below))
one_to members size me q from (suc count) sent letters spelled whole least below = elim (cases_eq from q) [
  | inl same ↦ first_to members size me q (sent q) count sent letters
      (subst (λ k. AllZip (IsSpelled members me) (said_from k (suc count) sent) letters) same spelled) whole
  | inr other ↦
      let behind = behind_other members size me q from (sent from) (said_from (from + 1) count sent) letters spelled other in
      subst (λ list. AllZip (IsHeardLike members size) list (letter_from me (sent q))) (sym behind.same)
      (one_to members size me q (from + 1) count sent behind.rest behind.spelled (behind.whole whole) (omega (arith, least, other)) (omega (arith, below)))
]
