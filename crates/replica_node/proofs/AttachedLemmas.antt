-- What holds of what bodies stand for, as a replica asks for it where it starts.
use Rattle.std.proofs.Common.{◌≡◌, ℕ, ◌<◌, ◌≤◌, ◌^◌, Option, None, Some, List, [], ◌∷◌, refl, sym, ap, ◌∙◌, subst, arith}
use Rattle.std.specs.Prelude.{IfSome}
use Rattle.std.specs.List.{filter_map, last_or}
use Rattle.std.proofs.lemmas.List.Elements.{All-weaker}
use Rattle.std.proofs.lemmas.Option.{none-some}
use Rattle.paxos_base.specs.declared.rows.TableSize.{TableSize}
use Rattle.paxos_base.specs.Durable.{after_delta}
use Rattle.paxos_base.specs.Rows.{RowsStand}
use Rattle.paxos_base.specs.declared.durable.Delta.{Delta}
use Rattle.paxos_base.specs.declared.durable.Delta.TheVariants.{Tried as TriedDelta, Promised as PromisedDelta, Voted as VotedDelta, Base as BaseDelta}
use Rattle.paxos_base.specs.declared.durable.Durable.{Durable}
use Rattle.paxos_base.specs.declared.entry.Vote.{Vote}
use Rattle.step_spec.specs.Coherent.{AreUpTo}
use Rattle.step_spec.specs.State.{promised_in}
use Rattle.store_format.specs.declared.body.Record.{Record}
use Rattle.store_format.specs.declared.body.Record.TheVariants.{Tried, Promised, Voted, Base, Row}
use Rattle.store_format.specs.Area.{StandFor}
use Rattle.store_format.specs.Order.{IsChangeLog, IsKeptSound, IsWithinPromise, delta_record, own_round}
use Rattle.store_format.specs.Records.{AreRecords, tried_in}
use Rattle.store_format.proofs.LogLemmas.{IsChangeLog-empty, IsChangeLog-uncons}
use Rattle.store_format.proofs.SoundLemmas.{StandFor-sound}
use Rattle.replica_store.proofs.RowsLemmas.{rows_stand as stands_rows}

-- ---- the rows: a log has no base, so it leaves them

same_rows : (kept : Durable) (change : Delta) (item : Record) → delta_record change ≡ Some item → (after_delta change kept).rows ≡ kept.rows
unfolding after_delta
same_rows kept (TriedDelta ballot) item is = refl
same_rows kept (PromisedDelta ballot) item is = refl
same_rows kept (VotedDelta vote) item is = refl
same_rows kept (BaseDelta slot rows) item is = absurd (none-some item is)

log_rows : (size : TableSize) (kept last : Durable) (items : List Record) → IsChangeLog size kept items last → last.rows ≡ kept.rows
log_rows size kept last [] log = ap (λ (k : Durable). k.rows) (IsChangeLog-empty size kept last log)
log_rows size kept last (item ∷ items) log =
    let parts = IsChangeLog-uncons size kept last item items log in
    log_rows size (after_delta parts.change kept) last items parts.rest ∙ same_rows kept parts.change item parts.is_record

-- ---- the replica's own ballot: it is written in eight bytes

abbrev Fits : Option ℕ → Type 0
Fits own = IfSome own (λ ballot. ballot < 2 ^ 64)

own_fits : (own : Option ℕ) (bodies : List (List ℕ)) (items : List Record) → AreRecords bodies items → Fits own → Fits (last_or own (filter_map tried_in items))
own_fits own [] [] are fits = fits
own_fits own [] (item ∷ items) are fits = absurd are
own_fits own (body ∷ bodies) [] are fits = absurd are
own_fits own (body ∷ bodies) (Tried ballot ∷ items) are fits = own_fits (Some ballot) bodies items are.1 are.0.packet.fits.ballot
own_fits own (body ∷ bodies) (Promised ballot ∷ items) are fits = own_fits own bodies items are.1 fits
own_fits own (body ∷ bodies) (Voted vote ∷ items) are fits = own_fits own bodies items are.1 fits
own_fits own (body ∷ bodies) (Base slot count ∷ items) are fits = own_fits own bodies items are.1 fits
own_fits own (body ∷ bodies) (Row slot row ∷ items) are fits = own_fits own bodies items are.1 fits

round_fits : (own : Option ℕ) → Fits own → own_round own < 2 ^ 61
round_fits None fits = omega arith
round_fits (Some ballot) fits = omega (arith, fits)

-- ---- the promise

votes_up : (promised : Option ℕ) (kept : Durable) → kept.promised ≡ promised → (vote : Vote) → IsWithinPromise promised vote.ballot → vote.ballot ≤ promised_in kept
votes_up None kept is vote promised = absurd promised
votes_up (Some ballot) kept is vote promised = rw is promised

pub votes_up_to : (kept : Durable) (own : Option ℕ) → IsKeptSound kept own → AreUpTo (promised_in kept) kept.votes
votes_up_to kept own sound =
    All-weaker (λ (vote : Vote). IsWithinPromise kept.promised vote.ballot) (λ (vote : Vote). vote.ballot ≤ promised_in kept) (votes_up kept.promised kept refl) kept.votes sound.votes_promised

-- ---- all of it

-- what a replica asks of what it starts with
pub record IsFitToStart (size : TableSize) (kept : Durable) : Type 0 where
  pub rows : RowsStand kept.rows size
  pub tried : kept.tried < 2 ^ 61
  pub votes : AreUpTo (promised_in kept) kept.votes

pub fit_to_start : (size : TableSize) (bodies : List (List ℕ)) (kept : Durable) (own : Option ℕ) → StandFor size bodies kept own → IsFitToStart size kept
fit_to_start size bodies kept own stand =
    let sound = StandFor-sound size bodies kept own stand in
    let fits : Fits own = subst Fits (sym stand.own_is) (own_fits None bodies stand.items stand.are_records tt) in
    let round : own_round own < 2 ^ 61 = round_fits own fits in
    let same : kept.tried ≡ own_round own = sound.round in
    record {
      rows = stands_rows size stand.items kept stand.stands;
      tried = omega (arith, round, same);
      votes = votes_up_to kept own sound;
    }
