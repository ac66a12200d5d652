-- What records stand for is sound, and stays so.
use Rattle.std.proofs.Common.{◌≡◌, ℕ, ◌+◌, ◌≤◌, Option, Some, None, List, [], ◌∷◌, ◌++◌, map, refl, sym, ap, ◌∙◌, subst, inl, inr, arith}
use Rattle.std.specs.Prelude.{All, IfSome}
use Rattle.std.specs.List.{filter_map, last_or}
use Rattle.std.proofs.lemmas.List.Elements.{All-nil, All-cons, All-head, All-tail, All-append, All-weaker, All-filter, filter_map-append}
use Rattle.std.proofs.lemmas.Option.{none-some, same_Some}
use Rattle.paxos_base.specs.declared.rows.TableSize.{TableSize}
use Rattle.paxos_base.specs.declared.durable.Delta.{Delta}
use Rattle.paxos_base.specs.declared.durable.Delta.TheVariants.{Tried as TriedDelta, Promised as PromisedDelta, Voted as VotedDelta, Base as BaseDelta}
use Rattle.paxos_base.specs.declared.durable.Durable.{Durable}
use Rattle.paxos_base.specs.declared.entry.Vote.{Vote}
use Rattle.paxos_base.specs.declared.rows.JobRow.{JobRow}
use Rattle.paxos_base.specs.Durable.{after_delta}
use Rattle.paxos_base.specs.Vote.{votes_below, votes_from, put_vote}
use Rattle.paxos_base.proofs.PutLemmas.{all_from, SlotsRise-votes_from, SlotsRise-put_vote}
use Rattle.paxos_base.specs.Ballot.{IsAbove, IsAtLeast}
use Rattle.store_format.specs.declared.body.Record.{Record}
use Rattle.store_format.specs.declared.body.Record.TheVariants.{Tried, Promised, Voted, Row}
use Rattle.store_format.specs.Area.{Stands, StandFor, fresh_kept, group_of, Copy, copy_records, IsCopy, IsGreatest, after_copy, rows_of_group}
use Rattle.store_format.specs.Order.{ChangeMayFollow, delta_record, IsChangeLog, IsKeptSound, IsWithinPromise, own_after}
use Rattle.store_format.specs.Records.{record_ballot, tried_in, own_ballot}
use Rattle.store_format.proofs.LogLemmas.{IsChangeLog-uncons, IsChangeLog-empty}
use Rattle.store_format.proofs.CopyLemmas.{copy_with}
use Rattle.store_format.proofs.BodyLemmas.{own_ballot-append, last_or-append}

-- ---- changes

-- a ballot that was promised still is after a promise of a greater one
promised_on : (promised : Option ℕ) (ballot other : ℕ) → IsAtLeast ballot promised → IsWithinPromise promised other → IsWithinPromise (Some ballot) other
promised_on None ballot other least is = absurd is
promised_on (Some greatest) ballot other least is = omega (arith, least, is)

above_least : (promised : Option ℕ) (ballot : ℕ) → IsAbove ballot promised → IsAtLeast ballot promised
above_least None ballot above = tt
above_least (Some other) ballot above = omega (arith, above)

own_on : (promised own : Option ℕ) (ballot : ℕ) → IsAtLeast ballot promised → IfSome own (λ other. IsWithinPromise promised other) → IfSome own (λ other. IsWithinPromise (Some ballot) other)
own_on promised None ballot least is = tt
own_on promised (Some own) ballot least is = promised_on promised ballot own least is

votes_on : (promised : Option ℕ) (ballot : ℕ) (votes : List Vote) → IsAtLeast ballot promised → All (λ (vote : Vote). IsWithinPromise promised vote.ballot) votes → All (λ (vote : Vote). IsWithinPromise (Some ballot) vote.ballot) votes
votes_on promised ballot votes least is =
    All-weaker (λ (vote : Vote). IsWithinPromise promised vote.ballot) (λ (vote : Vote). IsWithinPromise (Some ballot) vote.ballot) (λ vote h. promised_on promised ballot vote.ballot least h) votes is

-- what holds of each vote and of one more holds of each with that one put in
all_put : (P : Vote → Type 0) (vote : Vote) (votes : List Vote) → P vote → All P votes → All P (put_vote vote votes)
unfolding put_vote votes_below votes_from
all_put P vote votes here all =
    All-append P (votes_below vote.slot votes) (vote ∷ votes_from (vote.slot + 1) votes) (All-filter _ P votes all) (All-cons P vote (votes_from (vote.slot + 1) votes) here (All-filter _ P votes all))

pub all_kept : (P : Vote → Type 0) (slot : ℕ) (votes : List Vote) → All P votes → All P (votes_from slot votes)
unfolding votes_from
all_kept P slot votes all = All-filter _ P votes all

pub IsKeptSound-change : (size : TableSize) (kept : Durable) (own : Option ℕ) (change : Delta) → IsKeptSound kept own → ChangeMayFollow size kept change → IsKeptSound (after_delta change kept) (own_after change own)
unfolding after_delta
IsKeptSound-change size kept own (TriedDelta ballot) sound may =
    let promised : IsWithinPromise (Some ballot) ballot = omega arith in
    record {
      round = refl;
      own_promised = promised;
      votes_promised = votes_on kept.promised ballot kept.votes (above_least kept.promised ballot may.1) sound.votes_promised;
      votes_rise = sound.votes_rise;
      votes_from_base = sound.votes_from_base;
    }
IsKeptSound-change size kept own (PromisedDelta ballot) sound may =
    record {
      round = sound.round;
      own_promised = own_on kept.promised own ballot (above_least kept.promised ballot may) sound.own_promised;
      votes_promised = votes_on kept.promised ballot kept.votes (above_least kept.promised ballot may) sound.votes_promised;
      votes_rise = sound.votes_rise;
      votes_from_base = sound.votes_from_base;
    }
IsKeptSound-change size kept own (VotedDelta vote) sound may =
    let here : IsWithinPromise (Some vote.ballot) vote.ballot = omega arith in
    record {
      round = sound.round;
      own_promised = own_on kept.promised own vote.ballot may.0 sound.own_promised;
      votes_promised = all_put (λ (v : Vote). IsWithinPromise (Some vote.ballot) v.ballot) vote kept.votes here (votes_on kept.promised vote.ballot kept.votes may.0 sound.votes_promised);
      votes_rise = SlotsRise-put_vote vote kept.votes sound.votes_rise;
      votes_from_base = all_put (λ (v : Vote). kept.base ≤ v.slot) vote kept.votes may.1 sound.votes_from_base;
    }
IsKeptSound-change size kept own (BaseDelta slot rows) sound may =
    record {
      round = sound.round;
      own_promised = sound.own_promised;
      votes_promised = all_kept (λ (v : Vote). IsWithinPromise kept.promised v.ballot) slot kept.votes sound.votes_promised;
      votes_rise = SlotsRise-votes_from slot kept.votes sound.votes_rise;
      votes_from_base = all_from slot kept.votes;
    }

-- ---- logs

own_at : (own : Option ℕ) (item other : Record) (items : List Record) (after : Option ℕ) → other ≡ item → last_or own (filter_map tried_in (other ∷ items)) ≡ last_or after (filter_map tried_in items) → last_or own (filter_map tried_in (item ∷ items)) ≡ last_or after (filter_map tried_in items)
own_at own item other items after same is =
    ap (λ (i : Record). last_or own (filter_map tried_in (i ∷ items))) (sym same) ∙ is

own_of_change : (own : Option ℕ) (change : Delta) (item : Record) (items : List Record) → delta_record change ≡ Some item → last_or own (filter_map tried_in (item ∷ items)) ≡ last_or (own_after change own) (filter_map tried_in items)
own_of_change own (TriedDelta ballot) item items is = own_at own item (Tried ballot) items (Some ballot) (same_Some (Tried ballot) item is) refl
own_of_change own (PromisedDelta ballot) item items is = own_at own item (Promised ballot) items own (same_Some (Promised ballot) item is) refl
own_of_change own (VotedDelta vote) item items is = own_at own item (Voted vote) items own (same_Some (Voted vote) item is) refl
own_of_change own (BaseDelta slot rows) item items is = absurd (none-some item is)

pub own_ballot-change : (items : List Record) (change : Delta) (item : Record) → delta_record change ≡ Some item → own_ballot (items ++ item ∷ []) ≡ own_after change (own_ballot items)
own_ballot-change items change item is = own_ballot-append items (item ∷ []) ∙ own_of_change (own_ballot items) change item [] is

IsKeptSound-log : (size : TableSize) (kept last : Durable) (own : Option ℕ) (items : List Record) → IsChangeLog size kept items last → IsKeptSound kept own → IsKeptSound last (last_or own (filter_map tried_in items))
IsKeptSound-log size kept last own [] log sound = subst (λ (k : Durable). IsKeptSound k own) (sym (IsChangeLog-empty size kept last log)) sound
IsKeptSound-log size kept last own (item ∷ items) log sound =
    let parts = IsChangeLog-uncons size kept last item items log in
    subst (IsKeptSound last) (sym (own_of_change own parts.change item items parts.is_record))
    (IsKeptSound-log size (after_delta parts.change kept) last (own_after parts.change own) items parts.rest (IsKeptSound-change size kept own parts.change sound parts.may_follow))

IsKeptSound-fresh : (size : TableSize) → IsKeptSound (fresh_kept size) None
IsKeptSound-fresh size =
    record {
      round = refl;
      own_promised = tt;
      votes_promised = All-nil _;
      votes_rise = λ i j d before within. omega (arith, within);
      votes_from_base = All-nil _;
    }

-- ---- copies

abbrev pub ballots_of : List Vote → List ℕ
ballots_of votes = map (λ (vote : Vote). vote.ballot) votes

abbrev pub option_list : Option ℕ → List ℕ
option_list None = []
option_list (Some ballot) = ballot ∷ []

voted_ballots : (votes : List Vote) → filter_map record_ballot (map (λ (vote : Vote). Voted vote) votes) ≡ ballots_of votes
voted_ballots [] = refl
voted_ballots (vote ∷ votes) = ap (λ (ballots : List ℕ). vote.ballot ∷ ballots) (voted_ballots votes)

pub copy_ballots : (tried promised : Option ℕ) (votes : List Vote) → filter_map record_ballot (copy_records (copy_with tried promised votes)) ≡ option_list tried ++ (option_list promised ++ ballots_of votes)
copy_ballots None None votes = voted_ballots votes
copy_ballots (Some own) None votes = ap (λ (ballots : List ℕ). own ∷ ballots) (voted_ballots votes)
copy_ballots None (Some ballot) votes = ap (λ (ballots : List ℕ). ballot ∷ ballots) (voted_ballots votes)
copy_ballots (Some own) (Some ballot) votes = ap (λ (ballots : List ℕ). own ∷ ballot ∷ ballots) (voted_ballots votes)

all_promised : (promised : Option ℕ) (ballots : List ℕ) → IsGreatest promised ballots → All (λ (ballot : ℕ). IsWithinPromise promised ballot) ballots
all_promised None ballots none = subst (All (λ (ballot : ℕ). IsWithinPromise None ballot)) (sym none) (All-nil _)
all_promised (Some greatest) ballots is = is.1

all_behind : (P : ℕ → Type 0) (xs ys : List ℕ) → All P (xs ++ ys) → All P ys
all_behind P [] ys all = all
all_behind P (x ∷ xs) ys all = all_behind P xs ys (All-tail P x (xs ++ ys) all)

all_votes : (P : ℕ → Type 0) (votes : List Vote) → All P (ballots_of votes) → All (λ (vote : Vote). P vote.ballot) votes
all_votes P [] all = All-nil _
all_votes P (vote ∷ votes) all =
    All-cons (λ (v : Vote). P v.ballot) vote votes (All-head P vote.ballot (ballots_of votes) all) (all_votes P votes (All-tail P vote.ballot (ballots_of votes) all))

own_first : (promised tried : Option ℕ) (others : List ℕ) → All (λ (ballot : ℕ). IsWithinPromise promised ballot) (option_list tried ++ others) → IfSome tried (λ ballot. IsWithinPromise promised ballot)
own_first promised None others all = tt
own_first promised (Some own) others all = All-head (λ (ballot : ℕ). IsWithinPromise promised ballot) own others all

IsKeptSound-copy : (slot : ℕ) (rows : List JobRow) (copy : Copy) (promised : Option ℕ) → IsCopy slot copy → IsGreatest promised (filter_map record_ballot (copy_records copy)) → IsKeptSound (after_copy slot rows copy promised) copy.tried
IsKeptSound-copy slot rows copy promised is_copy greatest =
    let P : ℕ → Type 0 = λ ballot. IsWithinPromise promised ballot in
    let behind : List ℕ = option_list copy.promised ++ ballots_of copy.votes in
    let all : All P (option_list copy.tried ++ behind) =
    subst (All P) (copy_ballots copy.tried copy.promised copy.votes) (all_promised promised (filter_map record_ballot (copy_records copy)) greatest) in
    record {
      round = refl;
      own_promised = own_first promised copy.tried behind all;
      votes_promised = all_votes P copy.votes (all_behind P (option_list copy.promised) (ballots_of copy.votes) (all_behind P (option_list copy.tried) behind all));
      votes_rise = is_copy.rise;
      votes_from_base = is_copy.from_base;
    }

-- ---- the replica's own ballot

pub rows_untried : (slot : ℕ) (rows : List JobRow) → filter_map tried_in (map (λ (row : JobRow). Row slot row) rows) ≡ []
rows_untried slot [] = refl
rows_untried slot (row ∷ rows) = rows_untried slot rows

votes_untried : (votes : List Vote) → filter_map tried_in (map (λ (vote : Vote). Voted vote) votes) ≡ []
votes_untried [] = refl
votes_untried (vote ∷ votes) = votes_untried votes

copy_own : (tried promised : Option ℕ) (votes : List Vote) → last_or None (filter_map tried_in (copy_records (copy_with tried promised votes))) ≡ tried
copy_own None None votes = ap (last_or None) (votes_untried votes)
copy_own (Some own) None votes = ap (last_or (Some own)) (votes_untried votes)
copy_own None (Some ballot) votes = ap (last_or None) (votes_untried votes)
copy_own (Some own) (Some ballot) votes = ap (last_or (Some own)) (votes_untried votes)

pub base_own : (slot : ℕ) (rows : List JobRow) (copy : Copy) (log : List Record) → own_ballot (group_of slot rows ++ (copy_records copy ++ log)) ≡ last_or copy.tried (filter_map tried_in log)
base_own slot rows copy log =
    own_ballot-append (group_of slot rows) (copy_records copy ++ log)
    ∙ ap (λ (tried : List ℕ). last_or (last_or None tried) (filter_map tried_in (copy_records copy ++ log))) (rows_untried slot rows)
    ∙ ap (last_or None) (filter_map-append tried_in (copy_records copy) log)
    ∙ last_or-append None (filter_map tried_in (copy_records copy)) (filter_map tried_in log)
    ∙ ap (λ (own : Option ℕ). last_or own (filter_map tried_in log)) (copy_own copy.tried copy.promised copy.votes)

pub Stands-sound : (size : TableSize) (items : List Record) (kept : Durable) → Stands size items kept → IsKeptSound kept (own_ballot items)
Stands-sound size items kept (inl log) = IsKeptSound-log size (fresh_kept size) kept None items log (IsKeptSound-fresh size)
Stands-sound size items kept (inr base) =
    let own : own_ballot items ≡ last_or base.copy.tried (filter_map tried_in base.log) = ap own_ballot base.parts ∙ base_own base.slot base.rows base.copy base.log in
    subst (IsKeptSound kept) (sym own)
    (IsKeptSound-log size (after_copy base.slot (rows_of_group size base.rows) base.copy base.promised) kept base.copy.tried base.log base.is_log
    (IsKeptSound-copy base.slot (rows_of_group size base.rows) base.copy base.promised base.is_copy base.greatest))

pub StandFor-sound : (size : TableSize) (bodies : List (List ℕ)) (kept : Durable) (own : Option ℕ) → StandFor size bodies kept own → IsKeptSound kept own
StandFor-sound size bodies kept own stand = subst (IsKeptSound kept) (sym stand.own_is) (Stands-sound size stand.items kept stand.stands)
