-- Copies: a reader goes over a copy, and leaves it where the next record can't be of it.
use Rattle.std.proofs.Common.{◌≡◌, ℕ, ◌+◌, ◌<◌, ◌≤◌, Bool, true, false, ◌&&◌, ltb, leb, max, Option, Some, None, List, [], ◌∷◌, ◌++◌, length, map, refl, sym, ap, ◌∙◌, subst, inl, inr, arith, append_assoc}
use Rattle.std.specs.Prelude.{unwrap_or, All, Contains, if◌then◌else◌}
use Rattle.std.specs.List.{filter, filter_map}
use Rattle.std.proofs.lemmas.Bool.{and_parts, leb-true, ltb-true, eq-eqb, eqb-true, cases_Bool, cases_lt}
use Rattle.std.proofs.lemmas.List.{map-append}
use Rattle.std.proofs.lemmas.List.Elements.{All-nil, All-cons, All-push, All-weaker, All-contains, Contains-append_left, Contains-push, filter_map-append}
use Rattle.std.proofs.lemmas.List.Quantifiers.{all_pairs_push}
use Rattle.std.proofs.lemmas.Option.{none-some, same_Some}
use Rattle.paxos_base.specs.declared.rows.TableSize.{TableSize}
use Rattle.paxos_base.specs.declared.entry.Vote.{Vote}
use Rattle.paxos_base.specs.declared.rows.JobRow.{JobRow}
use Rattle.paxos_base.specs.Vote.{SlotsRise, votes_below, votes_from, put_vote}
use Rattle.paxos_base.specs.Ballot.{IsAbove}
use Rattle.paxos_base.proofs.PlaceLemmas.{below-votes_below, below-votes_from}
use Rattle.store_format.specs.declared.body.Record.{Record}
use Rattle.store_format.specs.declared.body.Record.TheVariants.{Tried, Promised, Voted, Base, Row}
use Rattle.store_format.specs.declared.place.Place.{Place}
use Rattle.store_format.specs.declared.place.Place.TheVariants.{CopyStart, CopyTried, CopyPromised, CopyVotes}
use Rattle.store_format.specs.Area.{Copy, copy_records, tried_records, promised_records, IsCopy, IsGreatest, after_copy}
use Rattle.store_format.specs.Places.{copy_place, taken, takes_votes, is_above, is_behind}
use Rattle.store_format.specs.Records.{record_ballot}
use Rattle.store_format.proofs.LogLemmas.{is_above-above}

-- ---- the greatest ballot

at_most_more : (least most : ℕ) (ballots : List ℕ) → least ≤ most → All (λ (other : ℕ). other ≤ least) ballots → All (λ (other : ℕ). other ≤ most) ballots
at_most_more least most ballots more all =
    All-weaker (λ (other : ℕ). other ≤ least) (λ (other : ℕ). other ≤ most) (λ other h. omega (arith, h, more)) ballots all

pub IsGreatest-push : (promised : Option ℕ) (ballots : List ℕ) (ballot : ℕ) → IsGreatest promised ballots → IsGreatest (Some (max (unwrap_or promised 0) ballot)) (ballots ++ ballot ∷ [])
IsGreatest-push None ballots ballot none =
    let same : max 0 ballot ≡ ballot = omega arith in
    subst (λ (bs : List ℕ). IsGreatest (Some (max 0 ballot)) (bs ++ ballot ∷ [])) (sym none)
    (subst (λ (b : ℕ). IsGreatest (Some b) (ballot ∷ [])) (sym same) (Contains-push [] ballot, All-cons (λ (other : ℕ). other ≤ ballot) ballot [] (omega arith) (All-nil _)))
IsGreatest-push (Some greatest) ballots ballot is = elim (cases_lt greatest ballot) [
  | inl above ↦
      let same : max greatest ballot ≡ ballot = omega (arith, above) in
      subst (λ (b : ℕ). IsGreatest (Some b) (ballots ++ ballot ∷ [])) (sym same)
      (Contains-push ballots ballot, All-push (λ (other : ℕ). other ≤ ballot) ballots ballot (at_most_more greatest ballot ballots (omega (arith, above)) is.1) (omega arith))
  | inr below ↦
      let same : max greatest ballot ≡ greatest = omega (arith, below) in
      subst (λ (b : ℕ). IsGreatest (Some b) (ballots ++ ballot ∷ [])) (sym same)
      (Contains-append_left ballots (ballot ∷ []) greatest is.0, All-push (λ (other : ℕ). other ≤ greatest) ballots ballot is.1 below)
]

not_in_none : (ballot : ℕ) → Contains [] ballot → ⊥
not_in_none ballot contains = omega (arith, contains.1)

pub IsGreatest-same : (one other : Option ℕ) (ballots : List ℕ) → IsGreatest one ballots → IsGreatest other ballots → one ≡ other
IsGreatest-same None None ballots a b = refl
IsGreatest-same None (Some other) ballots a b = absurd (not_in_none other (subst (λ (bs : List ℕ). Contains bs other) a b.0))
IsGreatest-same (Some one) None ballots a b = absurd (not_in_none one (subst (λ (bs : List ℕ). Contains bs one) b a.0))
IsGreatest-same (Some one) (Some other) ballots a b =
    let low : one ≤ other = All-contains (λ (ballot : ℕ). ballot ≤ other) ballots one b.1 a.0 in
    let high : other ≤ one = All-contains (λ (ballot : ℕ). ballot ≤ one) ballots other a.1 b.0 in
    let same : one ≡ other = omega (arith, low, high) in
    ap (λ (ballot : ℕ). Some ballot) same

-- ---- votes behind others

filter_short : {X : Type 0} (p : X → Bool) (xs : List X) → length (filter p xs) ≤ length xs
filter_short p [] = omega arith
filter_short p (x ∷ xs) = elim (cases_Bool (p x)) [
  | inl here ↦ rw here (omega (arith, filter_short p xs))
  | inr out ↦ rw out (omega (arith, filter_short p xs))
]

passes_all : {X : Type 0} (p : X → Bool) (xs : List X) → length (filter p xs) ≡ length xs → All (λ (x : X). p x ≡ true) xs
passes_all p [] same = All-nil _
passes_all p (x ∷ xs) same = elim (cases_Bool (p x)) [
  | inl here ↦
      let shorter : length (filter p xs) ≡ length xs = let e = rw here at same in omega (arith, e) in
      All-cons (λ y. p y ≡ true) x xs here (passes_all p xs shorter)
  | inr out ↦
      let e = rw out at same in absurd (omega (arith, e, filter_short p xs))
]

-- each vote is below the slot
abbrev pub AllBelow : ℕ → List Vote → Type 0
AllBelow slot votes = All (λ (vote : Vote). vote.slot < slot) votes

pub is_behind-below : (slot : ℕ) (votes : List Vote) → is_behind slot votes ≡ true → AllBelow slot votes
unfolding votes_below
is_behind-below slot votes behind =
    All-weaker _ _ (λ (vote : Vote) h. ltb-true vote.slot slot h) votes
    (passes_all (λ (vote : Vote). ltb vote.slot slot) votes (eqb-true _ _ behind))

pub below-is_behind : (slot : ℕ) (votes : List Vote) → AllBelow slot votes → is_behind slot votes ≡ true
below-is_behind slot votes below = eq-eqb _ _ (ap length (below-votes_below slot votes below))

-- a vote behind all others goes last
pub put_last : (vote : Vote) (votes : List Vote) → AllBelow vote.slot votes → put_vote vote votes ≡ votes ++ vote ∷ []
unfolding put_vote
put_last vote votes below =
    ap (λ (low : List Vote). low ++ vote ∷ votes_from (vote.slot + 1) votes) (below-votes_below vote.slot votes below)
    ∙ ap (λ (high : List Vote). votes ++ vote ∷ high) (below-votes_from vote.slot votes below)

pub SlotsRise-push : (vote : Vote) (votes : List Vote) → SlotsRise votes → AllBelow vote.slot votes → SlotsRise (votes ++ vote ∷ [])
SlotsRise-push vote votes rise below = all_pairs_push (λ (earlier later : Vote). earlier.slot < later.slot) votes vote rise below

-- ---- the forms that a copy has while it is read

pub data Form : Type 0 where
  Nothing : Form
  OwnBallot : ℕ → Form
  Promise : Option ℕ → ℕ → Form
  Votes : Option ℕ → Option ℕ → List Vote → Form

abbrev pub copy_with : Option ℕ → Option ℕ → List Vote → Copy
copy_with tried promised votes = record { tried = tried; promised = promised; votes = votes }

abbrev pub copy_of : Form → Copy
copy_of Nothing = copy_with None None []
copy_of (OwnBallot ballot) = copy_with (Some ballot) None []
copy_of (Promise tried ballot) = copy_with tried (Some ballot) []
copy_of (Votes tried promised votes) = copy_with tried promised votes

abbrev pub place_of_form : Form → Place
place_of_form Nothing = CopyStart
place_of_form (OwnBallot ballot) = CopyTried
place_of_form (Promise tried ballot) = CopyPromised
place_of_form (Votes tried promised votes) = CopyVotes

pub form_copies : (form : Form) → takes_votes (place_of_form form) ≡ true
form_copies Nothing = refl
form_copies (OwnBallot ballot) = refl
form_copies (Promise tried ballot) = refl
form_copies (Votes tried promised votes) = refl

-- the form with one more record
abbrev pub form_with : Form → Record → Form
form_with Nothing (Tried ballot) = OwnBallot ballot
form_with Nothing (Promised ballot) = Promise None ballot
form_with (OwnBallot own) (Promised ballot) = Promise (Some own) ballot
form_with Nothing (Voted vote) = Votes None None (vote ∷ [])
form_with (OwnBallot own) (Voted vote) = Votes (Some own) None (vote ∷ [])
form_with (Promise tried ballot) (Voted vote) = Votes tried (Some ballot) (vote ∷ [])
form_with (Votes tried promised votes) (Voted vote) = Votes tried promised (votes ++ vote ∷ [])
form_with form item = form

-- the form of a copy that was read, and the promise behind it
pub record Copied (slot : ℕ) (form : Form) (promised : Option ℕ) : Type 0 where
  pub is_copy : IsCopy slot (copy_of form)
  pub greatest : IsGreatest promised (filter_map record_ballot (copy_records (copy_of form)))

-- the copy goes on with a record
pub record GoesOn (slot : ℕ) (rows : List JobRow) (form : Form) (promised : Option ℕ) (item : Record) (next : Place) : Type 0 where
  pub greater : Option ℕ
  pub place : next ≡ place_of_form (form_with form item)
  pub records : copy_records (copy_of (form_with form item)) ≡ copy_records (copy_of form) ++ item ∷ []
  pub kept : (size : TableSize) → taken size next item (after_copy slot rows (copy_of form) promised) ≡ after_copy slot rows (copy_of (form_with form item)) greater
  pub copied : Copied slot (form_with form item) greater

copied-push : (slot : ℕ) (form next : Form) (promised : Option ℕ) (item : Record) (ballot : ℕ) → Copied slot form promised → copy_records (copy_of next) ≡ copy_records (copy_of form) ++ item ∷ [] → filter_map record_ballot (item ∷ []) ≡ ballot ∷ [] → IsCopy slot (copy_of next)
    → Copied slot next (Some (max (unwrap_or promised 0) ballot))
copied-push slot form next promised item ballot copied records one is_copy =
    let ballots : filter_map record_ballot (copy_records (copy_of next)) ≡ filter_map record_ballot (copy_records (copy_of form)) ++ ballot ∷ [] =
    ap (filter_map record_ballot) records ∙ filter_map-append record_ballot (copy_records (copy_of form)) (item ∷ []) ∙ ap (λ (last : List ℕ). filter_map record_ballot (copy_records (copy_of form)) ++ last) one in
    record {
      is_copy = is_copy;
      greatest = subst (IsGreatest (Some (max (unwrap_or promised 0) ballot))) (sym ballots) (IsGreatest-push promised (filter_map record_ballot (copy_records (copy_of form))) ballot copied.greatest);
    }

-- the same where the ballot is above the promise
copied-above : (slot : ℕ) (form next : Form) (promised : Option ℕ) (item : Record) (ballot : ℕ) → Copied slot form promised → copy_records (copy_of next) ≡ copy_records (copy_of form) ++ item ∷ [] → filter_map record_ballot (item ∷ []) ≡ ballot ∷ [] → IsCopy slot (copy_of next)
    → max (unwrap_or promised 0) ballot ≡ ballot → Copied slot next (Some ballot)
copied-above slot form next promised item ballot copied records one is_copy same =
    subst (λ (b : ℕ). Copied slot next (Some b)) same (copied-push slot form next promised item ballot copied records one is_copy)

above_max : (promised : Option ℕ) (ballot : ℕ) → IsAbove ballot promised → max (unwrap_or promised 0) ballot ≡ ballot
above_max None ballot above = omega arith
above_max (Some other) ballot above = omega (arith, above)

-- ---- a vote

records-push : (tried promised : Option ℕ) (votes : List Vote) (vote : Vote) → copy_records (copy_with tried promised (votes ++ vote ∷ [])) ≡ copy_records (copy_with tried promised votes) ++ Voted vote ∷ []
records-push tried promised votes vote =
    let last : map (λ (v : Vote). Voted v) (votes ++ vote ∷ []) ≡ map (λ (v : Vote). Voted v) votes ++ Voted vote ∷ [] = map-append (λ (v : Vote). Voted v) votes (vote ∷ []) in
    ap (λ (end : List Record). tried_records tried ++ (promised_records promised ++ end)) last
    ∙ simp append_assoc

IsCopy-push : (slot : ℕ) (tried promised : Option ℕ) (votes : List Vote) (vote : Vote) → IsCopy slot (copy_with tried promised votes) → slot ≤ vote.slot → AllBelow vote.slot votes → IsCopy slot (copy_with tried promised (votes ++ vote ∷ []))
IsCopy-push slot tried promised votes vote is from below =
    record {
      above = is.above;
      rise = SlotsRise-push vote votes is.rise below;
      from_base = All-push (λ (v : Vote). slot ≤ v.slot) votes vote is.from_base from;
    }

vote_kept : (size : TableSize) (place : Place) (slot : ℕ) (rows : List JobRow) (copy : Copy) (promised : Option ℕ) (vote : Vote) → AllBelow vote.slot copy.votes
    → taken size place (Voted vote) (after_copy slot rows copy promised) ≡ after_copy slot rows (copy_with copy.tried copy.promised (copy.votes ++ vote ∷ [])) (Some (max (unwrap_or promised 0) vote.ballot))
vote_kept size place slot rows copy promised vote below =
    ap (λ (votes : List Vote). after_copy slot rows (copy_with copy.tried copy.promised votes) (Some (max (unwrap_or promised 0) vote.ballot))) (put_last vote copy.votes below)

pub vote_goes_on : (slot : ℕ) (rows : List JobRow) (form : Form) (promised : Option ℕ) (vote : Vote) → Copied slot form promised → slot ≤ vote.slot → AllBelow vote.slot (copy_of form).votes → GoesOn slot rows form promised (Voted vote) CopyVotes
vote_goes_on slot rows Nothing promised vote copied from below =
    let records = records-push None None [] vote in
    record {
      greater = Some (max (unwrap_or promised 0) vote.ballot);
      place = refl;
      records = records;
      kept = λ size. vote_kept size CopyVotes slot rows (copy_of Nothing) promised vote below;
      copied = copied-push slot Nothing (Votes None None (vote ∷ [])) promised (Voted vote) vote.ballot copied records refl (IsCopy-push slot None None [] vote copied.is_copy from below);
    }
vote_goes_on slot rows (OwnBallot own) promised vote copied from below =
    let records = records-push (Some own) None [] vote in
    record {
      greater = Some (max (unwrap_or promised 0) vote.ballot);
      place = refl;
      records = records;
      kept = λ size. vote_kept size CopyVotes slot rows (copy_of (OwnBallot own)) promised vote below;
      copied = copied-push slot (OwnBallot own) (Votes (Some own) None (vote ∷ [])) promised (Voted vote) vote.ballot copied records refl (IsCopy-push slot (Some own) None [] vote copied.is_copy from below);
    }
vote_goes_on slot rows (Promise tried ballot) promised vote copied from below =
    let records = records-push tried (Some ballot) [] vote in
    record {
      greater = Some (max (unwrap_or promised 0) vote.ballot);
      place = refl;
      records = records;
      kept = λ size. vote_kept size CopyVotes slot rows (copy_of (Promise tried ballot)) promised vote below;
      copied = copied-push slot (Promise tried ballot) (Votes tried (Some ballot) (vote ∷ [])) promised (Voted vote) vote.ballot copied records refl (IsCopy-push slot tried (Some ballot) [] vote copied.is_copy from below);
    }
vote_goes_on slot rows (Votes tried was votes) promised vote copied from below =
    let records = records-push tried was votes vote in
    record {
      greater = Some (max (unwrap_or promised 0) vote.ballot);
      place = refl;
      records = records;
      kept = λ size. vote_kept size CopyVotes slot rows (copy_of (Votes tried was votes)) promised vote below;
      copied = copied-push slot (Votes tried was votes) (Votes tried was (votes ++ vote ∷ [])) promised (Voted vote) vote.ballot copied records refl (IsCopy-push slot tried was votes vote copied.is_copy from below);
    }

-- ---- each record that a copy goes on with

no_votes : (slot : ℕ) → SlotsRise []
no_votes slot = λ i j d before within. omega (arith, within)

tried_goes_on : (slot : ℕ) (rows : List JobRow) (promised : Option ℕ) (ballot : ℕ) → Copied slot Nothing promised → GoesOn slot rows Nothing promised (Tried ballot) CopyTried
tried_goes_on slot rows promised ballot copied =
    let none : promised ≡ None = IsGreatest-same promised None [] copied.greatest refl in
    let above : IsAbove ballot promised = subst (IsAbove ballot) (sym none) tt in
    record {
      greater = Some ballot;
      place = refl;
      records = refl;
      kept = λ size. refl;
      copied = copied-above slot Nothing (OwnBallot ballot) promised (Tried ballot) ballot copied refl refl (record { above = tt; rise = no_votes slot; from_base = All-nil _ }) (above_max promised ballot above);
    }

promise_goes_on : (slot : ℕ) (rows : List JobRow) (promised : Option ℕ) (ballot : ℕ) → Copied slot Nothing promised → IsAbove ballot promised → GoesOn slot rows Nothing promised (Promised ballot) CopyPromised
promise_goes_on slot rows promised ballot copied above =
    record {
      greater = Some ballot;
      place = refl;
      records = refl;
      kept = λ size. refl;
      copied = copied-above slot Nothing (Promise None ballot) promised (Promised ballot) ballot copied refl refl (record { above = tt; rise = no_votes slot; from_base = All-nil _ }) (above_max promised ballot above);
    }

own_promise_goes_on : (slot : ℕ) (rows : List JobRow) (own : ℕ) (promised : Option ℕ) (ballot : ℕ) → Copied slot (OwnBallot own) promised → IsAbove ballot promised → GoesOn slot rows (OwnBallot own) promised (Promised ballot) CopyPromised
own_promise_goes_on slot rows own promised ballot copied above =
    let only : IsGreatest (Some own) (own ∷ []) = (Contains-push [] own, All-cons (λ (other : ℕ). other ≤ own) own [] (omega arith) (All-nil _)) in
    let is : promised ≡ Some own = IsGreatest-same promised (Some own) (own ∷ []) copied.greatest only in
    let over : own < ballot = subst (IsAbove ballot) is above in
    record {
      greater = Some ballot;
      place = refl;
      records = refl;
      kept = λ size. refl;
      copied = copied-above slot (OwnBallot own) (Promise (Some own) ballot) promised (Promised ballot) ballot copied refl refl (record { above = over; rise = no_votes slot; from_base = All-nil _ }) (above_max promised ballot above);
    }

-- what the test of a place says
pub if_some : (test : Bool) (place next : Place) → (if test then Some place else None) ≡ Some next → (test ≡ true) × (place ≡ next)
if_some true place next e = (refl, same_Some place next e)
if_some false place next e = absurd (none-some next e)

to_place : (slot : ℕ) (rows : List JobRow) (form : Form) (promised : Option ℕ) (item : Record) (place next : Place) → place ≡ next → GoesOn slot rows form promised item place → GoesOn slot rows form promised item next
to_place slot rows form promised item place next same goes = subst (GoesOn slot rows form promised item) same goes

vote_at : (slot : ℕ) (rows : List JobRow) (form : Form) (promised : Option ℕ) (vote : Vote) (next : Place) → Copied slot form promised
    → (if leb slot vote.slot && is_behind vote.slot (copy_of form).votes then Some CopyVotes else None) ≡ Some next → GoesOn slot rows form promised (Voted vote) next
vote_at slot rows form promised vote next copied at =
    let parts = if_some (leb slot vote.slot && is_behind vote.slot (copy_of form).votes) CopyVotes next at in
    let both = and_parts (leb slot vote.slot) (is_behind vote.slot (copy_of form).votes) parts.0 in
    to_place slot rows form promised (Voted vote) CopyVotes next parts.1 (vote_goes_on slot rows form promised vote copied (leb-true slot vote.slot both.0) (is_behind-below vote.slot (copy_of form).votes both.1))

pub goes_on : (slot : ℕ) (rows : List JobRow) (form : Form) (promised : Option ℕ) (item : Record) (next : Place) → Copied slot form promised → copy_place (place_of_form form) (after_copy slot rows (copy_of form) promised) item ≡ Some next → GoesOn slot rows form promised item next
goes_on slot rows Nothing promised (Tried ballot) next copied at =
    to_place slot rows Nothing promised (Tried ballot) CopyTried next (same_Some CopyTried next at) (tried_goes_on slot rows promised ballot copied)
goes_on slot rows (OwnBallot own) promised (Tried ballot) next copied at = absurd (none-some next at)
goes_on slot rows (Promise tried was) promised (Tried ballot) next copied at = absurd (none-some next at)
goes_on slot rows (Votes tried was votes) promised (Tried ballot) next copied at = absurd (none-some next at)
goes_on slot rows Nothing promised (Promised ballot) next copied at =
    let parts = if_some (is_above ballot promised) CopyPromised next at in
    to_place slot rows Nothing promised (Promised ballot) CopyPromised next parts.1 (promise_goes_on slot rows promised ballot copied (is_above-above ballot promised parts.0))
goes_on slot rows (OwnBallot own) promised (Promised ballot) next copied at =
    let parts = if_some (is_above ballot promised) CopyPromised next at in
    to_place slot rows (OwnBallot own) promised (Promised ballot) CopyPromised next parts.1 (own_promise_goes_on slot rows own promised ballot copied (is_above-above ballot promised parts.0))
goes_on slot rows (Promise tried was) promised (Promised ballot) next copied at = absurd (none-some next at)
goes_on slot rows (Votes tried was votes) promised (Promised ballot) next copied at = absurd (none-some next at)
goes_on slot rows Nothing promised (Voted vote) next copied at = vote_at slot rows Nothing promised vote next copied at
goes_on slot rows (OwnBallot own) promised (Voted vote) next copied at = vote_at slot rows (OwnBallot own) promised vote next copied at
goes_on slot rows (Promise tried was) promised (Voted vote) next copied at = vote_at slot rows (Promise tried was) promised vote next copied at
goes_on slot rows (Votes tried was votes) promised (Voted vote) next copied at = vote_at slot rows (Votes tried was votes) promised vote next copied at
goes_on slot rows Nothing promised (Base s count) next copied at = absurd (none-some next at)
goes_on slot rows (OwnBallot own) promised (Base s count) next copied at = absurd (none-some next at)
goes_on slot rows (Promise tried was) promised (Base s count) next copied at = absurd (none-some next at)
goes_on slot rows (Votes tried was votes) promised (Base s count) next copied at = absurd (none-some next at)
goes_on slot rows Nothing promised (Row s row) next copied at = absurd (none-some next at)
goes_on slot rows (OwnBallot own) promised (Row s row) next copied at = absurd (none-some next at)
goes_on slot rows (Promise tried was) promised (Row s row) next copied at = absurd (none-some next at)
goes_on slot rows (Votes tried was votes) promised (Row s row) next copied at = absurd (none-some next at)
