-- A base is written in format 2, and one of what is kept anyway changes nothing.
use Rattle.std.proofs.Common.{◌≡◌, ℕ, ◌≤◌, leb, Option, Some, List, [], ◌∷◌, length, sym, ap, subst, ◌∙◌, arith}
use Rattle.std.specs.Prelude.{All, slice_get}
use Rattle.std.proofs.lemmas.Bool.{le-leb}
use Rattle.std.proofs.lemmas.List.Elements.{All-weaker}
use Rattle.paxos_base.specs.declared.rows.TableSize.{TableSize}
use Rattle.paxos_base.specs.declared.durable.Delta.TheVariants.{Base as BaseDelta}
use Rattle.paxos_base.specs.declared.durable.Durable.{Durable}
use Rattle.paxos_base.specs.declared.entry.Vote.{Vote}
use Rattle.paxos_base.specs.declared.rows.JobRow.{JobRow}
use Rattle.paxos_base.specs.Durable.{after_delta}
use Rattle.paxos_base.specs.Rows.{RowsStand}
use Rattle.paxos_base.specs.Vote.{votes_from}
use Rattle.paxos_base.proofs.PlaceLemmas.{filter_all}
use Rattle.store_format.specs.declared.body.Record.{Record}
use Rattle.store_format.specs.declared.body.Record.TheVariants.{Base}
use Rattle.store_format.specs.Area.{BeginsInFormat1, base_records}
use Rattle.store_format.specs.Order.{IsKeptSound}
use Rattle.store_format.specs.Records.{AreRecords, IsRecord}
use Rattle.store_format.proofs.RecordLemmas.{IsRecord-same}

same_bytes : (one other : List ℕ) → Some one ≡ Some other → one ≡ other
same_bytes one other is = cc is

pub base_in_format_2 : (size : TableSize) (bodies : List (List ℕ)) (slot : ℕ) (rows : List JobRow) (kept : Durable) (own : Option ℕ) → RowsStand rows size → AreRecords bodies (base_records kept own slot rows) → BeginsInFormat1 size bodies → ⊥
base_in_format_2 size [] slot rows kept own stand are begins = begins
base_in_format_2 size (body ∷ bodies) slot rows kept own stand are begins =
    let same : Base slot (length rows) ≡ Base begins.0 size.jobs = IsRecord-same body (Base slot (length rows)) (Base begins.0 size.jobs) are.0 begins.1 in
    let count : length rows ≡ size.jobs = cc same in
    omega (arith, count, stand.numbered.count)

-- bodies whose first is no base with a row for each job
pub not_in_format_1 : (size : TableSize) (bodies : List (List ℕ)) (lent body : List ℕ) (found : Option Record) → Some lent ≡ slice_get bodies 0 → body ≡ lent → ((item : Record) → IsRecord body item → found ≡ Some item)
    → ((slot : ℕ) → found ≡ Some (Base slot size.jobs) → ⊥) → BeginsInFormat1 size bodies → ⊥
not_in_format_1 size [] lent body found first same only not_base begins = begins
not_in_format_1 size (other ∷ bodies) lent body found first same only not_base begins =
    let is : lent ≡ other = same_bytes lent other first in
    not_base begins.0 (only (Base begins.0 size.jobs) (subst (λ (bytes : List ℕ). IsRecord bytes (Base begins.0 size.jobs)) (sym (same ∙ is)) begins.1))

all_from_base : (slot : ℕ) (votes : List Vote) → All (λ (vote : Vote). slot ≤ vote.slot) votes → votes_from slot votes ≡ votes
unfolding votes_from
all_from_base slot votes all =
    filter_all (λ (vote : Vote). leb slot vote.slot) votes (All-weaker _ _ (λ (vote : Vote) h. le-leb slot vote.slot h) votes all)

pub same_base : (kept : Durable) (own : Option ℕ) → IsKeptSound kept own → after_delta (BaseDelta kept.base kept.rows) kept ≡ kept
unfolding after_delta
same_base kept own sound =
    ap (λ (votes : List Vote). record kept { votes = votes }) (all_from_base kept.base kept.votes sound.votes_from_base)
