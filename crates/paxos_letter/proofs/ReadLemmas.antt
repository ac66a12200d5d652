-- Packets that are tried one after another, as a loop does, and what follows where they break no rule.
use Rattle.std.proofs.Common.{◌≡◌, ℕ, ◌+◌, ◌/◌, ◌%◌, ◌<◌, ◌≤◌, Bool, true, false, not, ◌&&◌, ◌||◌, eqb, leb, ltb, cond, List, [], ◌∷◌, length, get_or, map, drop, Option, Some, None, refl, sym, ap, ◌∙◌, arith}
use Rattle.std.specs.List.{AllByRecursion}
use Rattle.std.proofs.lemmas.Bool.{and_parts, and_from, eqb-true, eq-eqb, ltb-true, lt-ltb}
use Rattle.std.proofs.lemmas.List.{drop_more}
use Rattle.paxos_base.specs.Ballot.{is_ballot_of}
use Rattle.paxos_letter.specs.declared.fault.LetterFault.{LetterFault}
use Rattle.paxos_letter.specs.declared.fault.LetterFault.TheVariants.{BadKind, NotZero, BadMember, BadGroup}
use Rattle.paxos_letter.specs.declared.fields.Fields.{Fields}
use Rattle.paxos_letter.specs.declared.group.Group.{Group}
use Rattle.paxos_letter.specs.Fields.{fields_in}
use Rattle.paxos_letter.specs.Decoding.{packet_of}
use Rattle.paxos_letter.specs.Spelling.{fields_of}
use Rattle.paxos_letter.specs.Rules.{keeps_kind, keeps_zeros, keeps_members, has_ballot, has_old_ballot, KeepsRules}
use Rattle.paxos_letter.specs.Groups.{no_group, keeps_group, after}
use Rattle.paxos_letter.specs.Letters.{fault_at, or_later, fault_from}
use Rattle.paxos_letter.proofs.DecodeLemmas.{fields_of-packet_of}

pub record KeepsAll (members sender : ℕ) (group : Group) (fields : Fields) : Type 0 where
  pub kind : keeps_kind fields ≡ true
  pub zeros : keeps_zeros fields ≡ true
  pub members_keep : keeps_members members sender fields ≡ true
  pub group_keeps : keeps_group group fields ≡ true

-- no test of four failed
all_true : (kind zeros members group : Bool) (n : ℕ) → cond (not kind) (Some (BadKind n)) (cond (not zeros) (Some (NotZero n)) (cond (not members) (Some (BadMember n)) (cond (not group) (Some (BadGroup n)) None))) ≡ None
    → (kind ≡ true) × (zeros ≡ true) × (members ≡ true) × (group ≡ true)
all_true true true true true n e = (refl, refl, refl, refl)
all_true true true true false n e = absurd cc
all_true true true false group n e = absurd cc
all_true true false members group n e = absurd cc
all_true false zeros members group n e = absurd cc

pub fault_at-none : (members sender : ℕ) (group : Group) (number : ℕ) (fields : Fields) → fault_at members sender group number fields ≡ None → KeepsAll members sender group fields
fault_at-none members sender group number fields e =
    let all = all_true (keeps_kind fields) (keeps_zeros fields) (keeps_members members sender fields) (keeps_group group fields) number e in
    record { kind = all.0; zeros = all.1; members_keep = all.2; group_keeps = all.3 }

pub keeps_members-sender : (members sender : ℕ) (fields : Fields) → keeps_members members sender fields ≡ true → fields.from ≡ sender
keeps_members-sender members sender fields e = eqb-true _ _ (and_parts _ _ (and_parts _ _ e).0).1

-- what keeps the rule of the members, keeps it for seven
seven : (has : Bool) (members number : ℕ) → members ≤ 7 → (not has || is_ballot_of members number) ≡ true → (not has || is_ballot_of 7 number) ≡ true
seven true members number few h =
    let parts = and_parts (leb 1 (number / 8)) (ltb (number % 8) members) h in
    let below : number % 8 < members = ltb-true _ _ parts.1 in
    and_from _ _ parts.0 (lt-ltb (number % 8) 7 (omega arith))
seven false members number few h = refl

pub keeps_members-seven : (members sender : ℕ) (fields : Fields) → members ≤ 7 → keeps_members members sender fields ≡ true → keeps_members 7 fields.from fields ≡ true
keeps_members-seven members sender fields few e =
    let parts = and_parts (ltb fields.from members && eqb fields.from sender) _ e in
    let below : fields.from < members = ltb-true _ _ (and_parts _ _ parts.0).0 in
    let ballots = and_parts (not (has_ballot fields) || is_ballot_of members fields.ballot) (not (has_old_ballot fields) || is_ballot_of members fields.old) parts.1 in
    and_from _ _ (and_from _ _ (lt-ltb fields.from 7 (omega arith)) (eq-eqb fields.from fields.from refl))
    (and_from _ _ (seven (has_ballot fields) members fields.ballot few ballots.0) (seven (has_old_ballot fields) members fields.old few ballots.1))

-- the first fault of all packets is that of those that are left
pub record Testing (members sender : ℕ) (group : Group) (number at : ℕ) (packets : List (List ℕ)) : Type 0 where
  pub counted : number ≡ at
  pub fault : fault_from members sender group number (map fields_in (drop at packets)) ≡ fault_from members sender no_group 0 (map fields_in packets)

-- the packet at a place is the first of those that are left
first_left : (members sender : ℕ) (group : Group) (number at : ℕ) (packets : List (List ℕ)) (packet : List ℕ) (fields : Fields) → at < length packets → fields ≡ fields_in (get_or packets at packet)
    → fault_from members sender group number (map fields_in (drop at packets))
    ≡ or_later (fault_at members sender group number fields) (fault_from members sender (after group fields) (number + 1) (map fields_in (drop (at + 1) packets)))
first_left members sender group number at packets packet fields lt is =
    let rest : List Fields = map fields_in (drop (at + 1) packets) in
    ap (λ (left : List (List ℕ)). fault_from members sender group number (map fields_in left)) (drop_more packets at packet lt)
    ∙ ap (λ (f : Fields). or_later (fault_at members sender group number f) (fault_from members sender (after group f) (number + 1) rest)) (sym is)

pub Testing-next : (members sender : ℕ) (group : Group) (number at : ℕ) (packets : List (List ℕ)) (packet : List ℕ) (fields : Fields) → at < length packets
    → fields ≡ fields_in (get_or packets at packet) → fault_at members sender group number fields ≡ None
    → Testing members sender group number at packets → Testing members sender (after group fields) (number + 1) (at + 1) packets
Testing-next members sender group number at packets packet fields lt is none t =
    let rest : Option LetterFault = fault_from members sender (after group fields) (number + 1) (map fields_in (drop (at + 1) packets)) in
    record {
      counted = ap (λ (n : ℕ). n + 1) t.counted;
      fault = sym (first_left members sender group number at packets packet fields lt is ∙ ap (λ (fault : Option LetterFault). or_later fault rest) none) ∙ t.fault;
    }

-- ---- what breaks no rule

pub later_none : (first later : Option LetterFault) → or_later first later ≡ None → (first ≡ None) × (later ≡ None)
later_none None later e = (refl, e)
later_none (Some fault) later e = absurd cc

-- the first of the fields keeps each rule, and the others break none
first_none : (members sender : ℕ) (group : Group) (number : ℕ) (first : Fields) (rest : List Fields) → fault_from members sender group number (first ∷ rest) ≡ None
    → KeepsAll members sender group first × (fault_from members sender (after group first) (number + 1) rest ≡ None)
first_none members sender group number first rest none =
    let both = later_none (fault_at members sender group number first) (fault_from members sender (after group first) (number + 1) rest) none in
    (fault_at-none members sender group number first both.0, both.1)

-- fields that break no rule are those of the packets that they spell
pub fields_of-packets : (members sender : ℕ) (group : Group) (number : ℕ) (fields : List Fields) → fault_from members sender group number fields ≡ None
    → map (fields_of sender) (map packet_of fields) ≡ fields
fields_of-packets members sender group number [] none = refl
fields_of-packets members sender group number (first ∷ rest) none =
    let both = first_none members sender group number first rest none in
    let keeps = both.0 in
    let same : fields_of sender (packet_of first) ≡ first =
    ap (λ (from : ℕ). fields_of from (packet_of first)) (sym (keeps_members-sender members sender first keeps.members_keep)) ∙ fields_of-packet_of first keeps.kind keeps.zeros in
    ap (λ (f : Fields). f ∷ map (fields_of sender) (map packet_of rest)) same
    ∙ ap (λ (fs : List Fields). first ∷ fs) (fields_of-packets members sender (after group first) (number + 1) rest both.1)

-- fields that break no rule keep those of a packet by itself
pub all_keep : (members sender : ℕ) (group : Group) (number : ℕ) (fields : List Fields) → members ≤ 7 → fault_from members sender group number fields ≡ None
    → AllByRecursion (λ f. KeepsRules 7 f.from f) fields
all_keep members sender group number [] few none = tt
all_keep members sender group number (first ∷ rest) few none =
    let both = first_none members sender group number first rest none in
    let keeps = both.0 in (
      record { kind = keeps.kind; zeros = keeps.zeros; members_keep = keeps_members-seven members sender first few keeps.members_keep },
      all_keep members sender (after group first) (number + 1) rest few both.1,
    )
