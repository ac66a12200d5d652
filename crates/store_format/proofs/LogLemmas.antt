-- Logs: what the order rule says of records, and that a reader goes over a log.
use Rattle.std.proofs.Common.{◌≡◌, ℕ, zero, suc, Bool, true, ltb, leb, max, Option, Some, None, List, [], ◌∷◌, map, take, refl, sym, ap, ◌∙◌, subst, arith}
use Rattle.std.specs.Prelude.{slice_get, unwrap_or, if◌then◌else◌}
use Rattle.std.proofs.lemmas.Bool.{ltb-true, lt-ltb, leb-true, le-leb, and_parts, and_from, false≢true}
use Rattle.std.proofs.lemmas.Option.{none-some, same_Some}
use Rattle.paxos_base.specs.declared.rows.TableSize.{TableSize}
use Rattle.paxos_base.specs.declared.durable.Delta.{Delta}
use Rattle.paxos_base.specs.declared.durable.Delta.TheVariants.{Tried as TriedDelta, Promised as PromisedDelta, Voted as VotedDelta, Base as BaseDelta}
use Rattle.paxos_base.specs.declared.durable.Durable.{Durable}
use Rattle.paxos_base.specs.declared.entry.Vote.{Vote}
use Rattle.paxos_base.specs.Ballot.{round_of, IsAbove, IsAtLeast}
use Rattle.paxos_base.specs.Durable.{after_delta}
use Rattle.paxos_base.specs.Vote.{put_vote}
use Rattle.store_format.specs.declared.body.Record.{Record}
use Rattle.store_format.specs.declared.body.Record.TheVariants.{Tried, Promised, Voted, Base, Row}
use Rattle.store_format.specs.declared.place.Place.{Place}
use Rattle.store_format.specs.declared.place.Place.TheVariants.{Log}
use Rattle.store_format.specs.Order.{ChangeMayFollow, delta_record, after_deltas, IsChangeLog}
use Rattle.store_format.specs.Places.{is_above, is_at_least, keeps_order, log_place, taken}
use Rattle.store_format.proofs.Machine.{Reading, reading, run, run_steps, runs_from, next-log, to_log, IsChange}

-- ---- the order rule

pub above-is_above : (ballot : ℕ) (promised : Option ℕ) → IsAbove ballot promised → is_above ballot promised ≡ true
above-is_above ballot None h = refl
above-is_above ballot (Some other) h = lt-ltb other ballot h

pub is_above-above : (ballot : ℕ) (promised : Option ℕ) → is_above ballot promised ≡ true → IsAbove ballot promised
is_above-above ballot None h = tt
is_above-above ballot (Some other) h = ltb-true other ballot h

pub at_least-is_at_least : (ballot : ℕ) (promised : Option ℕ) → IsAtLeast ballot promised → is_at_least ballot promised ≡ true
at_least-is_at_least ballot None h = refl
at_least-is_at_least ballot (Some other) h = le-leb other ballot h

pub is_at_least-at_least : (ballot : ℕ) (promised : Option ℕ) → is_at_least ballot promised ≡ true → IsAtLeast ballot promised
is_at_least-at_least ballot None h = tt
is_at_least-at_least ballot (Some other) h = leb-true other ballot h

-- a ballot that is at least the promise is the greatest
greatest-at_least : (ballot : ℕ) (promised : Option ℕ) → IsAtLeast ballot promised → max (unwrap_or promised 0) ballot ≡ ballot
greatest-at_least ballot None h = omega arith
greatest-at_least ballot (Some other) h = omega (arith, h)

-- the change of a record may follow, and brings what the record does
pub record Follows (size : TableSize) (kept : Durable) (item : Record) (change : Delta) : Type 0 where
  pub is_record : delta_record change ≡ Some item
  pub may_follow : ChangeMayFollow size kept change
  pub after : (place : Place) → taken size place item kept ≡ after_delta change kept

vote_taken : (size : TableSize) (place : Place) (vote : Vote) (kept : Durable) → IsAtLeast vote.ballot kept.promised → taken size place (Voted vote) kept ≡ after_delta (VotedDelta vote) kept
unfolding after_delta
vote_taken size place vote kept h =
    ap (λ (ballot : ℕ). record kept { promised = Some ballot; votes = put_vote vote kept.votes }) (greatest-at_least vote.ballot kept.promised h)

pub follows : (size : TableSize) (kept : Durable) (item : Record) → keeps_order kept item ≡ true → (change : Delta) × Follows size kept item change
unfolding after_delta
follows size kept (Tried ballot) keeps =
    let parts = and_parts (ltb kept.tried (round_of ballot)) (is_above ballot kept.promised) keeps in
    (TriedDelta ballot, record { is_record = refl; may_follow = (ltb-true kept.tried (round_of ballot) parts.0, is_above-above ballot kept.promised parts.1); after = λ place. refl })
follows size kept (Promised ballot) keeps =
    (PromisedDelta ballot, record { is_record = refl; may_follow = is_above-above ballot kept.promised keeps; after = λ place. refl })
follows size kept (Voted vote) keeps =
    let parts = and_parts (is_at_least vote.ballot kept.promised) (leb kept.base vote.slot) keeps in
    let least : IsAtLeast vote.ballot kept.promised = is_at_least-at_least vote.ballot kept.promised parts.0 in
    (VotedDelta vote, record { is_record = refl; may_follow = (least, leb-true kept.base vote.slot parts.1); after = λ place. vote_taken size place vote kept least })
follows size kept (Base slot count) keeps = absurd (false≢true keeps)
follows size kept (Row slot row) keeps = absurd (false≢true keeps)

-- the other way
pub record Keeps (kept : Durable) (item : Record) (change : Delta) : Type 0 where
  pub order : keeps_order kept item ≡ true
  pub after : (size : TableSize) (place : Place) → taken size place item kept ≡ after_delta change kept
  pub is_change : IsChange item

keeps_at : (size : TableSize) (kept : Durable) (item other : Record) (change : Delta) → item ≡ other → Keeps kept other change → Keeps kept item change
keeps_at size kept item other change same keeps = subst (λ (i : Record). Keeps kept i change) (sym same) keeps

pub keeps : (size : TableSize) (kept : Durable) (item : Record) (change : Delta) → delta_record change ≡ Some item → ChangeMayFollow size kept change → Keeps kept item change
unfolding after_delta
keeps size kept item (TriedDelta ballot) is may =
    keeps_at size kept item (Tried ballot) (TriedDelta ballot) (sym (same_Some (Tried ballot) item is))
    (record { order = and_from _ _ (lt-ltb kept.tried (round_of ballot) may.0) (above-is_above ballot kept.promised may.1); after = λ size place. refl; is_change = tt })
keeps size kept item (PromisedDelta ballot) is may =
    keeps_at size kept item (Promised ballot) (PromisedDelta ballot) (sym (same_Some (Promised ballot) item is))
    (record { order = above-is_above ballot kept.promised may; after = λ size place. refl; is_change = tt })
keeps size kept item (VotedDelta vote) is may =
    keeps_at size kept item (Voted vote) (VotedDelta vote) (sym (same_Some (Voted vote) item is))
    (record { order = and_from _ _ (at_least-is_at_least vote.ballot kept.promised may.0) (le-leb kept.base vote.slot may.1); after = λ size place. vote_taken size place vote kept may.0; is_change = tt })
keeps size kept item (BaseDelta slot rows) is may = absurd (none-some item is)

-- ---- logs from the front

pub IsChangeLog-nil : (size : TableSize) (kept : Durable) → IsChangeLog size kept [] kept
IsChangeLog-nil size kept =
    record { changes = []; are_changes = refl; may_follow = λ k change is. absurd (none-some change is); after = refl }

may_follow-cons : (size : TableSize) (kept : Durable) (first : Delta) (changes : List Delta) → ChangeMayFollow size kept first
    → ((k : ℕ) (change : Delta) → slice_get changes k ≡ Some change → ChangeMayFollow size (after_deltas (take k changes) (after_delta first kept)) change)
    → (k : ℕ) (change : Delta) → slice_get (first ∷ changes) k ≡ Some change → ChangeMayFollow size (after_deltas (take k (first ∷ changes)) kept) change
may_follow-cons size kept first changes here rest zero change is = subst (ChangeMayFollow size kept) (same_Some first change is) here
may_follow-cons size kept first changes here rest (suc k) change is = rest k change is

pub IsChangeLog-cons : (size : TableSize) (kept last : Durable) (item : Record) (items : List Record) (change : Delta) → delta_record change ≡ Some item → ChangeMayFollow size kept change → IsChangeLog size (after_delta change kept) items last → IsChangeLog size kept (item ∷ items) last
IsChangeLog-cons size kept last item items change is may rest =
    record {
      changes = change ∷ rest.changes;
      are_changes =
          ap (λ (first : Option Record). first ∷ map delta_record rest.changes) is ∙ ap (λ (others : List (Option Record)). Some item ∷ others) rest.are_changes;
      may_follow = may_follow-cons size kept change rest.changes may rest.may_follow;
      after = rest.after;
    }

pub record Uncons (size : TableSize) (kept last : Durable) (item : Record) (items : List Record) : Type 0 where
  pub change : Delta
  pub is_record : delta_record change ≡ Some item
  pub may_follow : ChangeMayFollow size kept change
  pub rest : IsChangeLog size (after_delta change kept) items last

uncons_changes : (size : TableSize) (kept last : Durable) (item : Record) (items : List Record) (changes : List Delta) → map delta_record changes ≡ map (λ (i : Record). Some i) (item ∷ items)
    → ((k : ℕ) (change : Delta) → slice_get changes k ≡ Some change → ChangeMayFollow size (after_deltas (take k changes) kept) change) → last ≡ after_deltas changes kept → Uncons size kept last item items
uncons_changes size kept last item items [] are may after = absurd (cc are)
uncons_changes size kept last item items (change ∷ changes) are may after =
    record {
      change = change;
      is_record = cc are;
      may_follow = may 0 change refl;
      rest = record { changes = changes; are_changes = cc are; may_follow = λ k other is. may (suc k) other is; after = after };
    }

pub IsChangeLog-uncons : (size : TableSize) (kept last : Durable) (item : Record) (items : List Record) → IsChangeLog size kept (item ∷ items) last → Uncons size kept last item items
IsChangeLog-uncons size kept last item items log =
    uncons_changes size kept last item items log.changes log.are_changes log.may_follow log.after

empty_changes : (kept last : Durable) (changes : List Delta) → map delta_record changes ≡ [] → last ≡ after_deltas changes kept → last ≡ kept
empty_changes kept last [] are after = after
empty_changes kept last (change ∷ changes) are after = absurd (cc are)

pub IsChangeLog-empty : (size : TableSize) (kept last : Durable) → IsChangeLog size kept [] last → last ≡ kept
IsChangeLog-empty size kept last log = empty_changes kept last log.changes log.are_changes log.after

-- ---- a reader in a log

pub log_place-keeps : (kept : Durable) (item : Record) → keeps_order kept item ≡ true → log_place kept item ≡ Some Log
log_place-keeps kept item keeps = ap (λ (b : Bool). if b then Some Log else None) keeps

-- a log is read
pub log_runs : (size : TableSize) (kept last : Durable) (items : List Record) → IsChangeLog size kept items last → run size (reading Log kept) items ≡ Some (reading Log last)
log_runs size kept last [] log = ap (λ (k : Durable). Some (reading Log k)) (sym (IsChangeLog-empty size kept last log))
log_runs size kept last (item ∷ items) log =
    let parts = IsChangeLog-uncons size kept last item items log in
    let now = keeps size kept item parts.change parts.is_record parts.may_follow in
    runs_from size Log Log kept item items (next-log size kept item ∙ log_place-keeps kept item now.order)
    ∙ ap (λ (k : Durable). run size (reading Log k) items) (now.after size Log)
    ∙ log_runs size (after_delta parts.change kept) last items parts.rest

-- what is read in a log is one
pub runs_log : (size : TableSize) (kept : Durable) (items : List Record) (t : Reading) → run size (reading Log kept) items ≡ Some t → (t.place ≡ Log) × IsChangeLog size kept items t.kept
runs_log size kept [] t e =
    let same : reading Log kept ≡ t = same_Some (reading Log kept) t e in
    subst (λ (u : Reading). (u.place ≡ Log) × IsChangeLog size kept [] u.kept) same (refl, IsChangeLog-nil size kept)
runs_log size kept (item ∷ items) t e =
    let parts = run_steps size Log kept item items t e in
    let at = to_log kept item parts.next (sym (next-log size kept item) ∙ parts.at) in
    let now = follows size kept item at.1 in
    let rest : run size (reading Log (after_delta now.0 kept)) items ≡ Some t =
    ap (λ (k : Durable). run size (reading Log k) items) (sym (now.1.after Log)) ∙ ap (λ (p : Place). run size (reading p (taken size p item kept)) items) (sym at.0) ∙ parts.rest in
    let log = runs_log size (after_delta now.0 kept) items t rest in
    (log.0, IsChangeLog-cons size kept t.kept item items now.0 now.1.is_record now.1.may_follow log.1)
