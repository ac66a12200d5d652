-- The rows and the round of what records stand for.
use Rattle.std.proofs.Common.{◌≡◌, inl, inr, ℕ, ◌<◌, ◌^◌, Option, None, Some, List, [], ◌∷◌, sym, subst, arith}
use Rattle.std.specs.Prelude.{IfSome}
use Rattle.std.specs.List.{filter_map, last_or}
use Rattle.paxos_base.specs.declared.rows.TableSize.{TableSize}
use Rattle.paxos_base.specs.declared.durable.Delta.{Delta}
use Rattle.paxos_base.specs.declared.durable.Delta.TheVariants.{Tried, Promised, Voted, Base}
use Rattle.paxos_base.specs.declared.durable.Durable.{Durable}
use Rattle.paxos_base.specs.Durable.{after_delta}
use Rattle.paxos_base.specs.Rows.{RowsStand}
use Rattle.paxos_base.proofs.RowLemmas.{RowsStand-fresh_rows}
use Rattle.store_format.specs.declared.body.Record.{Record}
use Rattle.store_format.specs.declared.body.Record.TheVariants.{Tried as TriedRecord, Promised as PromisedRecord, Voted as VotedRecord, Base as BaseRecord, Row as RowRecord}
use Rattle.store_format.specs.Area.{Stands, StandFor, fresh_kept, after_copy, rows_of_group}
use Rattle.store_format.specs.Order.{ChangeMayFollow, IsChangeLog, own_round}
use Rattle.store_format.specs.Records.{AreRecords, tried_in}
use Rattle.store_format.proofs.LogLemmas.{IsChangeLog-uncons, IsChangeLog-empty}
use Rattle.store_format.proofs.SoundLemmas.{StandFor-sound}
use Rattle.store_format.proofs.StandLemmas.{group_rows_stand}

rows_change : (size : TableSize) (kept : Durable) (change : Delta) → RowsStand kept.rows size → ChangeMayFollow size kept change → RowsStand (after_delta change kept).rows size
unfolding after_delta
rows_change size kept (Tried ballot) stand may = stand
rows_change size kept (Promised ballot) stand may = stand
rows_change size kept (Voted vote) stand may = stand
rows_change size kept (Base slot rows) stand may = may.1

rows_log : (size : TableSize) (kept last : Durable) (items : List Record) → IsChangeLog size kept items last → RowsStand kept.rows size → RowsStand last.rows size
rows_log size kept last [] log stand = subst (λ (k : Durable). RowsStand k.rows size) (sym (IsChangeLog-empty size kept last log)) stand
rows_log size kept last (item ∷ items) log stand =
    let parts = IsChangeLog-uncons size kept last item items log in
    rows_log size (after_delta parts.change kept) last items parts.rest (rows_change size kept parts.change stand parts.may_follow)

pub rows_stand : (size : TableSize) (items : List Record) (kept : Durable) → Stands size items kept → RowsStand kept.rows size
rows_stand size items kept (inl log) = rows_log size (fresh_kept size) kept items log (RowsStand-fresh_rows size)
rows_stand size items kept (inr base) =
    rows_log size (after_copy base.slot (rows_of_group size base.rows) base.copy base.promised) kept base.log base.is_log (group_rows_stand size base.rows base.rows_stand)

pub rows_found : (size : TableSize) (bodies : List (List ℕ)) (kept : Durable) (own : Option ℕ) → StandFor size bodies kept own → RowsStand kept.rows size
rows_found size bodies kept own stand = rows_stand size stand.items kept stand.stands

-- ---- the round of the replica's own ballot

ballot_fits : (bodies : List (List ℕ)) (items : List Record) (own : Option ℕ) → AreRecords bodies items → IfSome own (λ ballot. ballot < 2 ^ 64) → IfSome (last_or own (filter_map tried_in items)) (λ ballot. ballot < 2 ^ 64)
ballot_fits [] [] own are fits = fits
ballot_fits [] (item ∷ items) own are fits = absurd are
ballot_fits (body ∷ bodies) [] own are fits = absurd are
ballot_fits (body ∷ bodies) (TriedRecord ballot ∷ items) own are fits = ballot_fits bodies items (Some ballot) are.1 are.0.packet.fits.ballot
ballot_fits (body ∷ bodies) (PromisedRecord ballot ∷ items) own are fits = ballot_fits bodies items own are.1 fits
ballot_fits (body ∷ bodies) (VotedRecord vote ∷ items) own are fits = ballot_fits bodies items own are.1 fits
ballot_fits (body ∷ bodies) (BaseRecord slot count ∷ items) own are fits = ballot_fits bodies items own are.1 fits
ballot_fits (body ∷ bodies) (RowRecord slot row ∷ items) own are fits = ballot_fits bodies items own are.1 fits

round_fits : (own : Option ℕ) (tried : ℕ) → tried ≡ own_round own → IfSome own (λ ballot. ballot < 2 ^ 64) → tried < 2 ^ 61
round_fits None tried is fits = omega (arith, is)
round_fits (Some ballot) tried is fits = omega (arith, is, fits)

pub tried_fits : (size : TableSize) (bodies : List (List ℕ)) (kept : Durable) (own : Option ℕ) → StandFor size bodies kept own → kept.tried < 2 ^ 61
tried_fits size bodies kept own stand =
    round_fits own kept.tried (StandFor-sound size bodies kept own stand).round (subst (λ o. IfSome o (λ ballot. ballot < 2 ^ 64)) (sym stand.own_is) (ballot_fits bodies stand.items None stand.are_records tt))
