-- What is told of entries and of the launch table at the base.
use Rattle.std.proofs.Common.{◌≡◌, ℕ, ◌+◌, ◌-◌, ◌<◌, ◌≤◌, true, false, Option, None, Some, List, [], ◌∷◌, ◌++◌, refl, sym, ap, ◌∙◌, arith, length, drop, take, min, max, zero, suc, inl, inr}
use Rattle.std.proofs.lemmas.Bool.{cases_lt, lt-ltb, le-ltb}
use Rattle.std.proofs.lemmas.List.{append_assoc, drop-map, length-drop, drop_all, map-append, take_all}
use Rattle.std.proofs.lemmas.List.Concat.{flat_map-cons}
use Rattle.std.specs.List.{flat_map}
use Rattle.paxos_base.specs.declared.entry.Entry.{Entry}
use Rattle.paxos_base.specs.declared.rows.JobRow.{JobRow}
use Rattle.launch_machine.specs.Machine.{Launches}
use Rattle.learner_core.specs.Learner.{LearnerState}
use Rattle.learner_core.specs.Learner as learned
use Rattle.step_spec.specs.Act.{Act, Rebase, Send}
use Rattle.paxos_letter.specs.declared.packet.Packet.{Packet}
use Rattle.paxos_letter.specs.declared.packet.Packet.TheVariants as packet
use Rattle.step_spec.specs.Heard.{row_in, vote_in}
use Rattle.step_spec.specs.Hear.{known_from, on_ask, on_snap, send_all, snapshot}
use Rattle.step_spec.specs.Message.{Known, Only, Snap}
use Rattle.step_spec.specs.declared.out.LearntRow.{LearntRow}
use Rattle.replica_draft.specs.Draft.{HasSent, SendsOnly, TakesRows, drafted, entries_in, has_copied, learned_with}
use Rattle.replica_draft.specs.declared.change.Change.{Change}
use Rattle.replica_draft.specs.declared.change.Change.TheVariants as change
use Rattle.replica_draft.specs.declared.change.Rebased.{Rebased}
use Rattle.replica_draft.specs.declared.draft.Draft.{Draft}
use Rattle.replica_draft.specs.declared.draft.Sent.{Sent}
use Rattle.replica_draft.proofs.DraftLemmas.{all-sends, drafted-rebase, goes-by, says-on, sends-twice}
use Rattle.replica_core.specs.Lines.{GoesOnByActs}
use Rattle.replica_core.specs.Replica.{base_of, next_slot, rebased_of, rows_of}
use Rattle.replica_core.specs.declared.parts.Core.{Core}
use Rattle.replica_core.proofs.LineLemmas.{base-drafted, does_as, does_nothing, done_as, drafted-prefix, rows-drafted}

-- ---- what was learned

known_from-append : (slot : ℕ) (before after : List Entry) → known_from slot (before ++ after) ≡ known_from slot before ++ known_from (slot + length before) after
known_from-append slot [] after = let at : slot + 0 ≡ slot = omega arith in rw at refl
known_from-append slot (entry ∷ before) after =
    let at : slot + 1 + length before ≡ slot + suc (length before) = omega arith in
    ap (λ rest. Known slot entry ∷ rest) (rw (← at) (known_from-append (slot + 1) before after))

drop-both : (n : ℕ) (before after : List Entry) → drop n (before ++ after) ≡ drop n before ++ drop (n - length before) after
drop-both zero before after = let none : 0 - length before ≡ 0 = omega arith in rw none refl
drop-both (suc n) [] after = let all : suc n - 0 ≡ suc n = omega arith in rw all refl
drop-both (suc n) (entry ∷ before) after = let less : suc n - suc (length before) ≡ n - length before = omega arith in rw less (drop-both n before after)

-- behind the end nothing is left
pub drop-min : {X : Type 0} (n : ℕ) (xs : List X) → drop (min n (length xs)) xs ≡ drop n xs
drop-min n xs = elim (cases_lt n (length xs)) [
  | inl within ↦ let same : min n (length xs) ≡ n = omega (arith, within) in rw same refl
  | inr past ↦
      let all : min n (length xs) ≡ length xs = omega (arith, past) in
      rw all (drop_all (length xs) xs (omega arith) ∙ sym (drop_all n xs past))
]

pub take-min : {X : Type 0} (n : ℕ) (xs : List X) → take (min n (length xs)) xs ≡ take n xs
take-min n xs = elim (cases_lt n (length xs)) [
  | inl within ↦ let same : min n (length xs) ≡ n = omega (arith, within) in rw same refl
  | inr past ↦
      let all : min n (length xs) ≡ length xs = omega (arith, past) in
      rw all (take_all (length xs) xs (omega arith) ∙ sym (take_all n xs past))
]

-- a packet that is no old vote has none, and one that is no row of a copy has none
pub no-vote : (other : Packet) → ((ballot slot cast : ℕ) (entry : Entry) → other ≡ packet.OldVote ballot slot cast entry → ⊥) → vote_in other ≡ []
no-vote (packet.OldVote ballot slot cast entry) not = absurd (not ballot slot cast entry refl)
no-vote other not = refl

pub no-row : (other : Packet) → ((slot : ℕ) (row : JobRow) → other ≡ packet.SnapRow slot row → ⊥) → row_in other ≡ []
no-row (packet.SnapRow slot row) not = absurd (not slot row refl)
no-row other not = refl

-- of the packets behind one those that it counts are gone over one after another
pub counted-next : {X : Type 0} (f : Packet → List X) (found : List X) (packet : Packet) (rest : List Packet) (count counter : ℕ) (all : List X) → counter < count
    → found ++ flat_map f (take (count - counter) (packet ∷ rest)) ≡ all → (found ++ f packet) ++ flat_map f (take (count - (counter + 1)) rest) ≡ all
counted-next f found packet rest count counter all within is =
    let left : count - counter ≡ suc (count - (counter + 1)) = omega (arith, within) in
    append_assoc found (f packet) (flat_map f (take (count - (counter + 1)) rest))
    ∙ ap (λ (behind : List _). found ++ behind) (sym (flat_map-cons f packet (take (count - (counter + 1)) rest)))
    ∙ (rw left at is)

-- a change that is no new base leaves the base, and what was learned
pub base-plain : (made : Option Change) (base : ℕ) → ((rebased : Rebased) → made ≡ Some (change.Rebased rebased) → ⊥) → base_of made base ≡ base
base-plain None base plain = refl
base-plain (Some (change.Tried ballot)) base plain = refl
base-plain (Some (change.Promised ballot)) base plain = refl
base-plain (Some (change.Voted vote)) base plain = refl
base-plain (Some (change.Rebased rebased)) base plain = absurd (plain rebased refl)

pub rows-plain : (made : Option Change) (rows : List JobRow) → ((rebased : Rebased) → made ≡ Some (change.Rebased rebased) → ⊥) → rows_of made rows ≡ rows
rows-plain None rows plain = refl
rows-plain (Some (change.Tried ballot)) rows plain = refl
rows-plain (Some (change.Promised ballot)) rows plain = refl
rows-plain (Some (change.Voted vote)) rows plain = refl
rows-plain (Some (change.Rebased rebased)) rows plain = absurd (plain rebased refl)

pub learned-plain : (made : Option Change) (learned : List Entry) (rows : List LearntRow) → ((rebased : Rebased) → made ≡ Some (change.Rebased rebased) → ⊥)
    → learned_with made learned rows ≡ learned ++ entries_in rows
learned-plain None learned rows plain = refl
learned-plain (Some (change.Tried ballot)) learned rows plain = refl
learned-plain (Some (change.Promised ballot)) learned rows plain = refl
learned-plain (Some (change.Voted vote)) learned rows plain = refl
learned-plain (Some (change.Rebased rebased)) learned rows plain = absurd (plain rebased refl)

pub not-rebased : (made : Option Change) → rebased_of made ≡ None → (rebased : Rebased) → made ≡ Some (change.Rebased rebased) → ⊥
not-rebased made none rebased is = let some : Some rebased ≡ None = rw is at none in absurd cc

pub is-rebased : (made : Option Change) (rebased : Rebased) → rebased_of made ≡ Some rebased → made ≡ Some (change.Rebased rebased)
is-rebased None rebased is = absurd cc
is-rebased (Some (change.Tried ballot)) rebased is = absurd cc
is-rebased (Some (change.Promised ballot)) rebased is = absurd cc
is-rebased (Some (change.Voted vote)) rebased is = absurd cc
is-rebased (Some (change.Rebased other)) rebased is = let same : other ≡ rebased = cc in rw same refl

pub base-rebased : (made : Option Change) (rebased : Rebased) (base : ℕ) → rebased_of made ≡ Some rebased → base_of made base ≡ rebased.slot
base-rebased made rebased base is = rw (is-rebased made rebased is) refl

-- the first slot that is told of those that the draft has learned, and how many of them are passed over
abbrev pub fresh_slot : LearnerState → ℕ → ℕ
fresh_slot learner slot = max (learned.learned_prefix learner) slot

abbrev pub passed : LearnerState → ℕ → ℕ
passed learner slot = fresh_slot learner slot - learned.learned_prefix learner

-- what is told are the learner's entries from the slot on, and then those that the draft has learned
pub told-parts : (learner : LearnerState) (rows : List LearntRow) (from slot : ℕ) → learner.base ≤ slot
    → send_all from (known_from slot (drop (slot - learner.base) (learner.entries ++ entries_in rows)))
    ≡ send_all from (known_from slot (drop (slot - learner.base) learner.entries)) ++ send_all from (known_from (fresh_slot learner slot) (drop (passed learner slot) (entries_in rows)))
told-parts learner rows from slot above_base =
    let past : slot - learner.base - length learner.entries ≡ passed learner slot = omega (arith, above_base) in
    let count : length (drop (slot - learner.base) learner.entries) ≡ length learner.entries - (slot - learner.base) = length-drop (slot - learner.base) learner.entries in
    let at : slot + length (drop (slot - learner.base) learner.entries) ≡ fresh_slot learner slot = rw count (omega (arith, above_base)) in
    rw (
      drop-both (slot - learner.base) learner.entries (entries_in rows),
      past,
      known_from-append slot (drop (slot - learner.base) learner.entries) (drop (passed learner slot) (entries_in rows)),
      at,
    )
    (map-append (Send (Only from)) (known_from slot (drop (slot - learner.base) learner.entries)) (known_from (fresh_slot learner slot) (drop (passed learner slot) (entries_in rows))))

-- so it is told in two parts
pub tells-both : (learner : LearnerState) (rows : List LearntRow) (one two three : List Sent) (from slot : ℕ) → learner.base ≤ slot
    → HasSent one two (send_all from (known_from slot (drop (slot - learner.base) learner.entries)))
    → HasSent two three (send_all from (known_from (fresh_slot learner slot) (drop (passed learner slot) (entries_in rows))))
    → HasSent one three (send_all from (known_from slot (drop (slot - learner.base) (learner.entries ++ entries_in rows))))
tells-both learner rows one two three from slot above_base first second =
    rw (told-parts learner rows from slot above_base)
    (says-on one two three (send_all from (known_from slot (drop (slot - learner.base) learner.entries))) (send_all from (known_from (fresh_slot learner slot) (drop (passed learner slot) (entries_in rows)))) first second)

-- the second part, as the rows behind those that are passed over
pub told-last : (learner : LearnerState) (rows tail : List LearntRow) (one two : List Sent) (from slot fresh skip : ℕ) → fresh ≡ fresh_slot learner slot → skip ≡ min (fresh - learned.learned_prefix learner) (length rows)
    → tail ≡ drop skip rows → HasSent one two (send_all from (known_from fresh (entries_in tail)))
    → HasSent one two (send_all from (known_from (fresh_slot learner slot) (drop (passed learner slot) (entries_in rows))))
told-last learner rows tail one two from slot fresh skip first least behind says =
    let same : tail ≡ drop (passed learner slot) rows = rw (behind, least, first, drop-min (passed learner slot) rows) refl in
    rw (drop-map (λ (row : LearntRow). row.entry) (passed learner slot) rows, sym same, sym first) says

-- where there is no new base, what is told is that of the learner and the draft
pub tells-plain : (learner : LearnerState) (made : Option Change) (rows : List LearntRow) (one two : List Sent) (from slot : ℕ) → rebased_of made ≡ None
    → HasSent one two (send_all from (known_from slot (drop (slot - learner.base) (learner.entries ++ entries_in rows))))
    → HasSent one two (send_all from (known_from slot (drop (slot - base_of made learner.base) (learned_with made learner.entries rows))))
tells-plain learner made rows one two from slot none says =
    let plain = not-rebased made none in
    rw (base-plain made learner.base plain, learned-plain made learner.entries rows plain) says

-- behind a new base, what is told is what was learned since
pub tells-since : (learner : LearnerState) (made : Option Change) (rebased : Rebased) (rows : List LearntRow) (one two : List Sent) (from slot : ℕ) → rebased_of made ≡ Some rebased
    → HasSent one two (send_all from (known_from slot (drop (slot - rebased.slot) rebased.since)))
    → HasSent one two (send_all from (known_from slot (drop (slot - base_of made learner.base) (learned_with made learner.entries rows))))
tells-since learner made rebased rows one two from slot some says = rw (is-rebased made rebased some) says

-- ---- AskFrom

pub ask-below_base : (core : Core) (old new : Draft) (from slot : ℕ) → slot < base_of old.change core.learner.base → GoesOnByActs core old new (snapshot from (has_copied old))
    → GoesOnByActs core old new (on_ask from slot (has_copied old))
unfolding on_ask
ask-below_base core old new from slot below sends kept is =
    sends kept is ∙ done_as (drafted kept old) (on_ask from slot (has_copied old) (drafted kept old).state) (snapshot from (has_copied old) (drafted kept old).state)
    (rw (base-drafted old.change kept.durable, sym is.base, lt-ltb slot (base_of old.change core.learner.base) below) refl)

-- what is told from a slot on
abbrev pub told_from : Core → Draft → ℕ → ℕ → List Act
told_from core draft from slot =
    send_all from (known_from slot (drop (slot - base_of draft.change core.learner.base) (learned_with draft.change core.learner.entries draft.learnt.items)))

pub ask-kept : (core : Core) (old new : Draft) (from slot : ℕ) → base_of old.change core.learner.base ≤ slot → SendsOnly old new → HasSent old.sends.items new.sends.items (told_from core old from slot)
    → GoesOnByActs core old new (on_ask from slot (has_copied old))
unfolding on_ask
ask-kept core old new from slot above_base only says =
    does_as core old new (on_ask from slot (has_copied old)) (told_from core old from slot) (goes-by old new (told_from core old from slot) only (all-sends from _) says)
    (λ kept is. rw (base-drafted old.change kept.durable, sym is.base, le-ltb slot (base_of old.change core.learner.base) above_base, sym is.learned) refl)

-- ---- a snapshot

pub snapshot-again : (core : Core) (old : Draft) (from : ℕ) → has_copied old ≡ true → GoesOnByActs core old old (snapshot from (has_copied old))
snapshot-again core old from copied = does_nothing core old (snapshot from (has_copied old)) (λ kept is. rw copied refl)

-- the launch table at the base, as it is sent
abbrev pub table_sent : Core → Draft → ℕ → Act
table_sent core draft from = Send (Only from) (Snap (base_of draft.change core.learner.base) (rows_of draft.change core.rows))

pub snapshot-sent : (core : Core) (old middle new : Draft) (from : ℕ) → has_copied old ≡ false → SendsOnly old middle → SendsOnly middle new
    → HasSent old.sends.items middle.sends.items (table_sent core old from ∷ [])
    → HasSent middle.sends.items new.sends.items (told_from core middle from (base_of middle.change core.learner.base))
    → GoesOnByActs core old new (snapshot from (has_copied old))
snapshot-sent core old middle new from quiet first second table told =
    let base = base_of old.change core.learner.base in
    let entries = learned_with old.change core.learner.entries old.learnt.items in
    let none : base - base ≡ 0 = omega arith in
    let rest : HasSent middle.sends.items new.sends.items (send_all from (known_from base entries)) = rw (first.change, first.learnt, none) at told in
    let acts = table_sent core old from ∷ send_all from (known_from base entries) in
    does_as core old new (snapshot from (has_copied old)) acts
    (goes-by old new acts (sends-twice old middle new first second) (tt, all-sends from (known_from base entries))
    (says-on old.sends.items middle.sends.items new.sends.items (table_sent core old from ∷ []) (send_all from (known_from base entries)) table rest))
    (λ kept is. rw (quiet, base-drafted old.change kept.durable, rows-drafted old.change kept.durable, sym is.base, sym is.rows, sym is.learned) refl)

-- ---- Snap

pub snap-old : (core : Core) (old : Draft) (slot : ℕ) (rows : List JobRow) → slot ≤ next_slot core.learner old → GoesOnByActs core old old (on_snap slot rows)
unfolding on_snap
snap-old core old slot rows reached =
    does_nothing core old (on_snap slot rows) (λ kept is. rw (drafted-prefix core old kept is, le-ltb (next_slot core.learner old) slot reached) refl)

pub snap-taken : (core : Core) (old new : Draft) (slot : ℕ) (rows : List JobRow) (machine : Option Launches) → old.change ≡ None → next_slot core.learner old < slot
    → TakesRows old new slot rows machine → GoesOnByActs core old new (on_snap slot rows)
unfolding on_snap
snap-taken core old new slot rows machine none behind takes kept is =
    let prefix = drafted-prefix core old kept is in
    drafted-rebase kept old new slot rows machine takes none (rw prefix (omega (arith, behind)))
    ∙ done_as (drafted kept old) (on_snap slot rows (drafted kept old).state) (Rebase slot rows ∷ []) (rw (prefix, lt-ltb (next_slot core.learner old) slot behind) refl)
