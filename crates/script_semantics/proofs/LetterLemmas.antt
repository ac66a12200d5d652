-- The letters that join a mail.
use Rattle.std.proofs.Common.{◌≡◌, ℕ, ◌-◌, ◌<◌, ◌≤◌, ◌==◌, ◌&&◌, not, true, Some, length, sym, subst, arith}
use Rattle.std.specs.Prelude.{Contains, slice_get}
use Rattle.std.specs.List.{range_with_len}
use Rattle.std.proofs.lemmas.Bool.{and_parts, eqb-true}
use Rattle.std.proofs.lemmas.Option.{slice_get_within}
use Rattle.history.specs.Book.{PostedLetter}
use Rattle.script_semantics.specs.Situation.{Situation, is_cut, letters_for, reaches}
use Rattle.script_semantics.proofs.ListLemmas.{from_range, passes_filter}
use Rattle.step_spec.proofs.ListLemmas.{from_filter, in_filter, in_range_from}

pub sent : (situation : Situation) (first who number : ℕ) → Contains (letters_for situation first who) number
    → (first ≤ number) × (number < length situation.standing.posted)
sent situation first who number has =
    let among = from_filter (λ n. reaches situation who (slice_get situation.standing.posted n)) (range_with_len first (length situation.standing.posted - first)) number has in
    let bounds = from_range first (length situation.standing.posted - first) number among in
    let low = bounds.0 in
    let high = bounds.1 in
    (low, omega arith)

pub addressee : (situation : Situation) (first who number : ℕ) (letter : PostedLetter) → slice_get situation.standing.posted number ≡ Some letter
    → Contains (letters_for situation first who) number → (letter.to ≡ who) × (situation.standing.runs who ≡ true)
addressee situation first who number letter there has =
    let passes = passes_filter (λ n. reaches situation who (slice_get situation.standing.posted n)) (range_with_len first (length situation.standing.posted - first)) number has in
    let reached : reaches situation who (Some letter) ≡ true = subst (λ found. reaches situation who found ≡ true) there passes in
    let lost = is_cut letter.from letter.to situation.cuts in
    let parts = and_parts (letter.to == who) (situation.standing.runs who && not lost) reached in
    (eqb-true letter.to who parts.0, (and_parts (situation.standing.runs who) (not lost) parts.1).0)

pub all_sent : (situation : Situation) (first who number : ℕ) (letter : PostedLetter) → slice_get situation.standing.posted number ≡ Some letter
    → first ≤ number → reaches situation who (Some letter) ≡ true → Contains (letters_for situation first who) number
all_sent situation first who number letter there from reached =
    let within = slice_get_within situation.standing.posted number letter there in
    in_filter (λ n. reaches situation who (slice_get situation.standing.posted n)) (range_with_len first (length situation.standing.posted - first)) number
    (subst (λ found. reaches situation who found ≡ true) (sym there) reached)
    (in_range_from first (length situation.standing.posted - first) number from (omega arith))
