-- Bodies written one after another.
use Rattle.std.proofs.Common.{◌≡◌, ℕ, ◌+◌, ◌<◌, ◌≤◌, List, [], ◌∷◌, ◌++◌, length, map, take, get_or, refl, sym, ap, ◌∙◌, subst, append_assoc}
use Rattle.std.proofs.lemmas.List.{append-nil, map_more, take_all}
use Rattle.std.specs.Prelude.{Bool, true, Option, None, Some, Result, Ok, Err, OnOk, if◌then◌else◌}
use Rattle.paxos_base.specs.declared.durable.Durable.{Durable}
use Rattle.paxos_base.specs.declared.entry.Vote.{Vote}
use Rattle.paxos_base.specs.declared.rows.JobRow.{JobRow}
use Rattle.paxos_base.specs.Vote.{votes_from}
use Rattle.store_format.specs.declared.body.Record.{Record}
use Rattle.store_format.specs.declared.body.Record.TheVariants.{Tried, Promised, Voted, Base, Row}
use Rattle.store_format.specs.Area.{group_of, tried_records, promised_records, promise_above, base_records}
use Rattle.store_format.specs.Places.{is_above}
use Rattle.store_format.specs.Records.{record_bytes, AreRecords}
use Rattle.store_format.specs.Written.{AddsRecords}
use Rattle.store_format.proofs.BodyLemmas.{AreRecords-append}

pub AddsRecords-none : (bodies : List (List ℕ)) → AddsRecords [] bodies bodies
AddsRecords-none bodies = record { bodies = []; added = sym (append-nil bodies); are_records = tt }

pub AddsRecords-append : (items more : List Record) (old middle new : List (List ℕ)) → AddsRecords items old middle → AddsRecords more middle new → AddsRecords (items ++ more) old new
AddsRecords-append items more old middle new first second =
    record {
      bodies = first.bodies ++ second.bodies;
      added = second.added ∙ ap (λ (m : List (List ℕ)). m ++ second.bodies) first.added ∙ append_assoc old first.bodies second.bodies;
      are_records = AreRecords-append first.bodies second.bodies items more first.are_records second.are_records;
    }

-- the record of one more element
pub AddsRecords-more : {X : Type 0} (record_of : X → Record) (front : List Record) (xs : List X) (i : ℕ) (x : X) (old middle new : List (List ℕ)) → i < length xs → x ≡ get_or xs i x
    → AddsRecords (front ++ map record_of (take i xs)) old middle → AddsRecords (record_of x ∷ []) middle new → AddsRecords (front ++ map record_of (take (i + 1) xs)) old new
AddsRecords-more record_of front xs i x old middle new within is first second =
    let last : map record_of (take (i + 1) xs) ≡ map record_of (take i xs) ++ record_of x ∷ [] =
    map_more record_of xs i x within ∙ ap (λ y. map record_of (take i xs) ++ record_of y ∷ []) (sym is) in
    let parts : front ++ map record_of (take (i + 1) xs) ≡ (front ++ map record_of (take i xs)) ++ record_of x ∷ [] =
    ap (λ (behind : List Record). front ++ behind) last ∙ sym (append_assoc front (map record_of (take i xs)) (record_of x ∷ [])) in
    subst (λ (items : List Record). AddsRecords items old new) (sym parts) (AddsRecords-append (front ++ map record_of (take i xs)) (record_of x ∷ []) old middle new first second)

pub AddsRecords-all : {X : Type 0} (record_of : X → Record) (front : List Record) (xs : List X) (i : ℕ) (old new : List (List ℕ)) → length xs ≤ i → AddsRecords (front ++ map record_of (take i xs)) old new → AddsRecords (front ++ map record_of xs) old new
AddsRecords-all record_of front xs i old new past adds =
    subst (λ ys. AddsRecords (front ++ map record_of ys) old new) (take_all i xs past) adds

-- all that was written into nothing
pub AddsRecords-are : (items : List Record) (new : List (List ℕ)) → AddsRecords items [] new → AreRecords new items
AddsRecords-are items new adds = subst (λ (bodies : List (List ℕ)). AreRecords bodies items) (sym adds.added) adds.are_records

-- bodies are the bytes of their records
pub AreRecords-bytes : (bodies : List (List ℕ)) (items : List Record) → AreRecords bodies items → bodies ≡ map record_bytes items
AreRecords-bytes [] [] are = refl
AreRecords-bytes [] (item ∷ items) are = absurd are
AreRecords-bytes (body ∷ bodies) [] are = absurd are
AreRecords-bytes (body ∷ bodies) (item ∷ items) are =
    ap (λ (b : List ℕ). b ∷ bodies) are.0.spelled ∙ ap (λ (bs : List (List ℕ)). record_bytes item ∷ bs) (AreRecords-bytes bodies items are.1)

-- the same with a default for the element
pub AddsRecords-more_at : {X : Type 0} (record_of : X → Record) (front : List Record) (xs : List X) (i : ℕ) (d : X) (old middle new : List (List ℕ)) → i < length xs
    → AddsRecords (front ++ map record_of (take i xs)) old middle → AddsRecords (record_of (get_or xs i d) ∷ []) middle new → AddsRecords (front ++ map record_of (take (i + 1) xs)) old new
AddsRecords-more_at record_of front xs i d old middle new within first second =
    let parts : front ++ map record_of (take (i + 1) xs) ≡ (front ++ map record_of (take i xs)) ++ record_of (get_or xs i d) ∷ [] =
    ap (λ (behind : List Record). front ++ behind) (map_more record_of xs i d within) ∙ sym (append_assoc front (map record_of (take i xs)) (record_of (get_or xs i d) ∷ [])) in
    subst (λ (items : List Record). AddsRecords items old new) (sym parts) (AddsRecords-append (front ++ map record_of (take i xs)) (record_of (get_or xs i d) ∷ []) old middle new first second)

-- the rows behind the base's own record
pub group_added : {T E : Type 0} (r : Result T E) (slot count : ℕ) (rows shown : List JobRow) (old middle new : List (List ℕ)) → count ≡ length rows → shown ≡ rows → AddsRecords (Base slot count ∷ []) old middle
    → OnOk r (AddsRecords (map (λ (row : JobRow). Row slot row) shown) middle new) → OnOk r (AddsRecords (group_of slot rows) old new)
group_added (Err e) slot count rows shown old middle new as_many same first second = tt
group_added (Ok u) slot count rows shown old middle new as_many same first second =
    AddsRecords-append (Base slot (length rows) ∷ []) (map (λ (row : JobRow). Row slot row) rows) old middle new
    (subst (λ (n : ℕ). AddsRecords (Base slot n ∷ []) old middle) as_many first)
    (subst (λ (rs : List JobRow). AddsRecords (map (λ (row : JobRow). Row slot row) rs) middle new) same second)

-- all that a base writes
pub base_added : (kept : Durable) (own : Option ℕ) (slot : ℕ) (rows : List JobRow) (votes : List Vote) (first second third new : List (List ℕ)) → first ≡ [] → votes ≡ votes_from slot kept.votes
    → AddsRecords (group_of slot rows) first second → AddsRecords (tried_records own ++ promised_records (promise_above own kept.promised)) second third → AddsRecords (map (λ (vote : Vote). Voted vote) votes) third new
    → AreRecords new (base_records kept own slot rows)
base_added kept own slot rows votes first second third new none same group ballots rest =
    let behind : List Record = map (λ (vote : Vote). Voted vote) (votes_from slot kept.votes) in
    let last : AddsRecords behind third new = subst (λ (vs : List Vote). AddsRecords (map (λ (vote : Vote). Voted vote) vs) third new) same rest in
    let copy = AddsRecords-append (tried_records own ++ promised_records (promise_above own kept.promised)) behind second third new ballots last in
    let parts : (tried_records own ++ promised_records (promise_above own kept.promised)) ++ behind ≡ tried_records own ++ (promised_records (promise_above own kept.promised) ++ behind) =
    append_assoc (tried_records own) (promised_records (promise_above own kept.promised)) behind in
    let all = AddsRecords-append (group_of slot rows) (tried_records own ++ (promised_records (promise_above own kept.promised) ++ behind)) first second new group (subst (λ (items : List Record). AddsRecords items second new) parts copy) in
    AddsRecords-are (base_records kept own slot rows) new (subst (λ (old : List (List ℕ)). AddsRecords (base_records kept own slot rows) old new) none all)

-- the promise behind the replica's own ballot
pub promise_added : {T E : Type 0} (r : Result T E) (own : Option ℕ) (ballot : ℕ) (old middle new : List (List ℕ)) → true ≡ is_above ballot own → AddsRecords (tried_records own) old middle
    → OnOk r (AddsRecords (Promised ballot ∷ []) middle new) → OnOk r (AddsRecords (tried_records own ++ promised_records (promise_above own (Some ballot))) old new)
promise_added (Err e) own ballot old middle new above first second = tt
promise_added (Ok u) None ballot old middle new above first second = AddsRecords-append [] (Promised ballot ∷ []) old middle new first second
promise_added (Ok u) (Some other) ballot old middle new above first second =
    let is : promise_above (Some other) (Some ballot) ≡ Some ballot = ap (λ (b : Bool). if b then Some ballot else None) (sym above) in
    subst (λ (p : Option ℕ). AddsRecords (Tried other ∷ promised_records p) old new) (sym is) (AddsRecords-append (Tried other ∷ []) (Promised ballot ∷ []) old middle new first second)

pub tried_added : (own : Option ℕ) (ballot : ℕ) (old middle same : List (List ℕ)) → own ≡ Some ballot → same ≡ middle → AddsRecords (Tried ballot ∷ []) old middle → AddsRecords (tried_records own) old same
tried_added own ballot old middle same is at adds =
    subst (λ (o : Option ℕ). AddsRecords (tried_records o) old same) (sym is) (subst (AddsRecords (Tried ballot ∷ []) old) (sym at) adds)

pub none_added : (own : Option ℕ) (old same : List (List ℕ)) → own ≡ None → same ≡ old → AddsRecords (tried_records own) old same
none_added own old same is at =
    subst (λ (o : Option ℕ). AddsRecords (tried_records o) old same) (sym is) (subst (AddsRecords [] old) (sym at) (AddsRecords-none old))

pub ballots_added : {T E : Type 0} (r : Result T E) (own held promised : Option ℕ) (ballot : ℕ) (old middle new : List (List ℕ)) → held ≡ own → promised ≡ Some ballot → true ≡ is_above ballot held → AddsRecords (tried_records own) old middle
    → OnOk r (AddsRecords (Promised ballot ∷ []) middle new) → OnOk r (AddsRecords (tried_records own ++ promised_records (promise_above own promised)) old new)
ballots_added r own held promised ballot old middle new same is above first second =
    subst (λ (p : Option ℕ). OnOk r (AddsRecords (tried_records own ++ promised_records (promise_above own p)) old new)) (sym is)
    (promise_added r own ballot old middle new (above ∙ ap (is_above ballot) same) first second)
