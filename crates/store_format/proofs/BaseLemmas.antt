-- What is written for a base stands for the state after it.
use Rattle.std.proofs.Common.{◌≡◌, ℕ, ◌≤◌, Bool, Option, Some, None, List, [], ◌∷◌, ◌++◌, refl, sym, ap, ◌∙◌, subst, inl, inr, arith}
use Rattle.std.specs.Prelude.{All, Contains, IfSome, if◌then◌else◌}
use Rattle.std.proofs.lemmas.Bool.{lt-ltb, le-ltb, cases_lt}
use Rattle.std.proofs.lemmas.List.{append-nil}
use Rattle.std.proofs.lemmas.List.Elements.{All-nil, All-cons, All-head, All-tail, Contains-append_left, Contains-append_right, Contains-push}
use Rattle.paxos_base.specs.declared.rows.TableSize.{TableSize}
use Rattle.paxos_base.specs.declared.durable.Delta.TheVariants.{Base as BaseDelta}
use Rattle.paxos_base.specs.declared.durable.Durable.{Durable}
use Rattle.paxos_base.specs.declared.entry.Vote.{Vote}
use Rattle.paxos_base.specs.declared.rows.JobRow.{JobRow}
use Rattle.paxos_base.specs.Durable.{after_delta}
use Rattle.paxos_base.specs.Rows.{RowsStand}
use Rattle.paxos_base.specs.Vote.{SlotsRise, votes_from}
use Rattle.paxos_base.proofs.PutLemmas.{all_from, SlotsRise-votes_from}
use Rattle.paxos_base.specs.Ballot.{IsAbove}
use Rattle.store_format.specs.declared.body.Record.{Record}
use Rattle.store_format.specs.Area.{Stands, StandFor, group_of, Copy, copy_records, IsCopy, IsGreatest, after_copy, promise_above, base_records, rows_of_group}
use Rattle.store_format.specs.Order.{IsKeptSound, IsWithinPromise, IsChangeLog, own_round}
use Rattle.store_format.specs.Records.{AreRecords, own_ballot}
use Rattle.store_format.proofs.LogLemmas.{IsChangeLog-nil}
use Rattle.store_format.proofs.CopyRuns.{longest_alone}
use Rattle.store_format.proofs.StandLemmas.{table_rows}
use Rattle.store_format.proofs.SoundLemmas.{ballots_of, option_list, copy_ballots, base_own, all_kept}

-- the copy that is written
abbrev pub written : Durable → Option ℕ → ℕ → Copy
written kept own slot = record { tried = own; promised = promise_above own kept.promised; votes = votes_from slot kept.votes }

promise_is_above : (own promised : Option ℕ) → IfSome (promise_above own promised) (λ ballot. IsAbove ballot own)
promise_is_above own None = tt
promise_is_above None (Some ballot) = tt
promise_is_above (Some own) (Some ballot) = elim (cases_lt own ballot) [
  | inl above ↦ rw (lt-ltb own ballot above) above
  | inr below ↦ rw (le-ltb own ballot below) tt
]

pub written-IsCopy : (kept : Durable) (own : Option ℕ) (slot : ℕ) → SlotsRise kept.votes → IsCopy slot (written kept own slot)
written-IsCopy kept own slot rise =
    record { above = promise_is_above own kept.promised; rise = SlotsRise-votes_from slot kept.votes rise; from_base = all_from slot kept.votes }

-- ---- the greatest ballot

ballots_below : (promised : ℕ) (votes : List Vote) → All (λ (vote : Vote). IsWithinPromise (Some promised) vote.ballot) votes → All (λ (ballot : ℕ). ballot ≤ promised) (ballots_of votes)
ballots_below promised [] all = All-nil _
ballots_below promised (vote ∷ votes) all =
    All-cons (λ (ballot : ℕ). ballot ≤ promised) vote.ballot (ballots_of votes) (All-head (λ (v : Vote). IsWithinPromise (Some promised) v.ballot) vote votes all)
    (ballots_below promised votes (All-tail (λ (v : Vote). IsWithinPromise (Some promised) v.ballot) vote votes all))

no_votes_promised : (votes : List Vote) → All (λ (vote : Vote). IsWithinPromise None vote.ballot) votes → ballots_of votes ≡ []
no_votes_promised [] all = refl
no_votes_promised (vote ∷ votes) all = absurd (All-head (λ (v : Vote). IsWithinPromise None v.ballot) vote votes all)

first_is : (ballot : ℕ) (others : List ℕ) → Contains (ballot ∷ others) ballot
first_is ballot others = Contains-append_left (ballot ∷ []) others ballot (Contains-push [] ballot)

second_is : (other ballot : ℕ) (others : List ℕ) → Contains (other ∷ ballot ∷ others) ballot
second_is other ballot others = Contains-append_right (other ∷ []) (ballot ∷ others) ballot (first_is ballot others)

greatest_of : (own promised : Option ℕ) (votes : List Vote) → IfSome own (λ ballot. IsWithinPromise promised ballot) → All (λ (vote : Vote). IsWithinPromise promised vote.ballot) votes
    → IsGreatest promised (option_list own ++ (option_list (promise_above own promised) ++ ballots_of votes))
greatest_of None None votes own_is votes_are = no_votes_promised votes votes_are
greatest_of (Some own) None votes own_is votes_are = absurd own_is
greatest_of None (Some ballot) votes own_is votes_are =
    (first_is ballot (ballots_of votes), All-cons (λ (b : ℕ). b ≤ ballot) ballot (ballots_of votes) (omega arith) (ballots_below ballot votes votes_are))
greatest_of (Some own) (Some ballot) votes own_is votes_are =
    let below : All (λ (b : ℕ). b ≤ ballot) (ballots_of votes) = ballots_below ballot votes votes_are in
    elim (cases_lt own ballot) [
      | inl above ↦
          let is : promise_above (Some own) (Some ballot) ≡ Some ballot = ap (λ (b : Bool). if b then Some ballot else None) (lt-ltb own ballot above) in
          subst (λ (p : Option ℕ). IsGreatest (Some ballot) (own ∷ (option_list p ++ ballots_of votes))) (sym is) (
            second_is own ballot (ballots_of votes),
            All-cons (λ (b : ℕ). b ≤ ballot) own (ballot ∷ ballots_of votes) own_is (All-cons (λ (b : ℕ). b ≤ ballot) ballot (ballots_of votes) (omega arith) below),
          )
      | inr not_above ↦
          let same : own ≡ ballot = omega (arith, own_is, not_above) in
          let none : promise_above (Some own) (Some ballot) ≡ None = ap (λ (b : Bool). if b then Some ballot else None) (le-ltb own ballot not_above) in
          subst (λ (p : Option ℕ). IsGreatest (Some ballot) (own ∷ (option_list p ++ ballots_of votes))) (sym none)
          (subst (λ (b : ℕ). Contains (b ∷ ballots_of votes) ballot) (sym same) (first_is ballot (ballots_of votes)), All-cons (λ (b : ℕ). b ≤ ballot) own (ballots_of votes) own_is below)
    ]

-- ---- the records

after_base : (kept : Durable) (own : Option ℕ) (slot : ℕ) (rows : List JobRow) → kept.tried ≡ own_round own → after_copy slot rows (written kept own slot) kept.promised ≡ after_delta (BaseDelta slot rows) kept
unfolding after_delta
after_base kept own slot rows round =
    ap (λ (tried : ℕ). record kept { tried = tried; votes = votes_from slot kept.votes; base = slot; rows = rows }) (sym round)

pub base_stands : (size : TableSize) (kept : Durable) (own : Option ℕ) (slot : ℕ) (rows : List JobRow) → IsKeptSound kept own → RowsStand rows size → Stands size (base_records kept own slot rows) (after_delta (BaseDelta slot rows) kept)
base_stands size kept own slot rows sound stand =
    let copy : Copy = written kept own slot in
    let same_rows : rows_of_group size rows ≡ rows = table_rows size rows stand in
    let votes_are : All (λ (vote : Vote). IsWithinPromise kept.promised vote.ballot) (votes_from slot kept.votes) = all_kept (λ (vote : Vote). IsWithinPromise kept.promised vote.ballot) slot kept.votes sound.votes_promised in
    inr (record {
      slot = slot;
      rows = rows;
      copy = copy;
      promised = kept.promised;
      log = [];
      parts = ap (λ (behind : List Record). group_of slot rows ++ behind) (sym (append-nil (copy_records copy)));
      rows_stand = inl stand;
      is_copy = written-IsCopy kept own slot sound.votes_rise;
      longest = longest_alone slot copy;
      greatest = subst (IsGreatest kept.promised) (sym (copy_ballots own (promise_above own kept.promised) (votes_from slot kept.votes))) (greatest_of own kept.promised (votes_from slot kept.votes) sound.own_promised votes_are);
      is_log = subst (λ (all : List JobRow). IsChangeLog size (after_copy slot all copy kept.promised) [] (after_delta (BaseDelta slot rows) kept)) (sym same_rows)
          (subst (IsChangeLog size (after_copy slot rows copy kept.promised) []) (after_base kept own slot rows sound.round) (IsChangeLog-nil size (after_copy slot rows copy kept.promised)));
    })

pub base_own_ballot : (kept : Durable) (own : Option ℕ) (slot : ℕ) (rows : List JobRow) → own ≡ own_ballot (base_records kept own slot rows)
base_own_ballot kept own slot rows =
    sym (ap (λ (behind : List Record). own_ballot (group_of slot rows ++ behind)) (sym (append-nil (copy_records (written kept own slot)))) ∙ base_own slot rows (written kept own slot) [])

pub base_stand_for : (size : TableSize) (bodies : List (List ℕ)) (kept : Durable) (own : Option ℕ) (slot : ℕ) (rows : List JobRow) → AreRecords bodies (base_records kept own slot rows) → IsKeptSound kept own → RowsStand rows size
    → StandFor size bodies (after_delta (BaseDelta slot rows) kept) own
base_stand_for size bodies kept own slot rows are sound stand =
    record { items = base_records kept own slot rows; are_records = are; stands = base_stands size kept own slot rows sound stand; own_is = base_own_ballot kept own slot rows }
