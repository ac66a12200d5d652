-- A reader as a machine: the state behind each record.
use Rattle.std.proofs.Common.{◌≡◌, Bool, true, false, Option, Some, None, List, [], ◌∷◌, ◌++◌, refl, sym, ap, ◌∙◌, inl, inr}
use Rattle.std.specs.Prelude.{◌⊎◌, if◌then◌else◌}
use Rattle.std.specs.Option.{option_and_then, option_map, option_or}
use Rattle.std.proofs.lemmas.Option.{none-some, same_Some, option_and_then_some}
use Rattle.paxos_base.specs.declared.rows.TableSize.{TableSize}
use Rattle.paxos_base.specs.declared.durable.Durable.{Durable}
use Rattle.store_format.specs.declared.body.Record.{Record}
use Rattle.store_format.specs.declared.body.Record.TheVariants.{Tried, Promised, Voted, Base, Row}
use Rattle.store_format.specs.declared.place.Place.{Place}
use Rattle.store_format.specs.declared.place.Place.TheVariants.{Start, Rows, CopyStart, CopyTried, CopyPromised, CopyVotes, Log}
use Rattle.store_format.specs.Places.{copy_place, log_place, next_place, taken, takes_votes, keeps_order}

pub record Reading : Type 0 where
  pub place : Place
  pub kept : Durable

abbrev pub reading : Place → Durable → Reading
reading place kept = record { place = place; kept = kept }

abbrev pub step : TableSize → Reading → Record → Option Reading
step size s item = option_map (λ (place : Place). reading place (taken size place item s.kept)) (next_place size s.place s.kept item)

abbrev pub run : TableSize → Reading → List Record → Option Reading
run size s [] = Some s
run size s (item ∷ items) = option_and_then (λ (next : Reading). run size next items) (step size s item)

pub option_cases : {A : Type 0} (o : Option A) → (o ≡ None) ⊎ ((x : A) × (o ≡ Some x))
option_cases None = inl refl
option_cases (Some x) = inr (x, refl)

pub run-append : (size : TableSize) (s : Reading) (xs ys : List Record) → run size s (xs ++ ys) ≡ option_and_then (λ (next : Reading). run size next ys) (run size s xs)
run-append size s [] ys = refl
run-append size s (x ∷ xs) ys =
    elim (step size s x) as (λ (o : Option Reading). option_and_then (λ (next : Reading). run size next (xs ++ ys)) o ≡ option_and_then (λ (next : Reading). run size next ys) (option_and_then (λ (next : Reading). run size next xs) o)) [
      | None ↦ refl
      | Some next ↦ run-append size next xs ys
    ]

-- one run after another
pub runs_on : (size : TableSize) (s t u : Reading) (xs ys : List Record) → run size s xs ≡ Some t → run size t ys ≡ Some u → run size s (xs ++ ys) ≡ Some u
runs_on size s t u xs ys first second =
    run-append size s xs ys ∙ ap (option_and_then (λ (next : Reading). run size next ys)) first ∙ second

pub record Parts (size : TableSize) (s u : Reading) (xs ys : List Record) : Type 0 where
  pub middle : Reading
  pub first : run size s xs ≡ Some middle
  pub second : run size middle ys ≡ Some u

-- a run in two parts
pub run_parts : (size : TableSize) (s u : Reading) (xs ys : List Record) → run size s (xs ++ ys) ≡ Some u → Parts size s u xs ys
run_parts size s u xs ys whole =
    option_and_then_some (λ (next : Reading). run size next ys) (run size s xs) u (sym (run-append size s xs ys) ∙ whole)
    (λ middle first second. record { middle = middle; first = first; second = second })

-- a step to a place
pub step_to : (size : TableSize) (place next : Place) (kept : Durable) (item : Record) → next_place size place kept item ≡ Some next → step size (reading place kept) item ≡ Some (reading next (taken size next item kept))
step_to size place next kept item at = ap (option_map (λ (p : Place). reading p (taken size p item kept))) at

pub runs_from : (size : TableSize) (place next : Place) (kept : Durable) (item : Record) (items : List Record) → next_place size place kept item ≡ Some next → run size (reading place kept) (item ∷ items) ≡ run size (reading next (taken size next item kept)) items
runs_from size place next kept item items at =
    ap (option_and_then (λ (s : Reading). run size s items)) (step_to size place next kept item at)

pub record Steps (size : TableSize) (place : Place) (kept : Durable) (item : Record) (items : List Record) (u : Reading) : Type 0 where
  pub next : Place
  pub at : next_place size place kept item ≡ Some next
  pub rest : run size (reading next (taken size next item kept)) items ≡ Some u

step_parts : (size : TableSize) (place : Place) (kept : Durable) (item : Record) (items : List Record) (u : Reading) (o : Option Place) → next_place size place kept item ≡ o → option_and_then (λ (s : Reading). run size s items) (option_map (λ (p : Place). reading p (taken size p item kept)) o) ≡ Some u → Steps size place kept item items u
step_parts size place kept item items u None at e = absurd (none-some u e)
step_parts size place kept item items u (Some next) at e = record { next = next; at = at; rest = e }

pub run_steps : (size : TableSize) (place : Place) (kept : Durable) (item : Record) (items : List Record) (u : Reading) → run size (reading place kept) (item ∷ items) ≡ Some u → Steps size place kept item items u
run_steps size place kept item items u e = step_parts size place kept item items u (next_place size place kept item) refl e

-- ---- where the next record leads

pub next-log : (size : TableSize) (kept : Durable) (item : Record) → next_place size Log kept item ≡ log_place kept item
next-log size kept (Tried ballot) = refl
next-log size kept (Promised ballot) = refl
next-log size kept (Voted vote) = refl
next-log size kept (Base slot count) = refl
next-log size kept (Row slot row) = refl

-- in a copy
pub next-copy : (size : TableSize) (place : Place) (kept : Durable) (item : Record) → takes_votes place ≡ true → next_place size place kept item ≡ option_or (copy_place place kept item) (log_place kept item)
next-copy size Start kept item copies = absurd (cc copies)
next-copy size (Rows total) kept item copies = absurd (cc copies)
next-copy size CopyStart kept item copies = refl
next-copy size CopyTried kept item copies = refl
next-copy size CopyPromised kept item copies = refl
next-copy size CopyVotes kept item copies = refl
next-copy size Log kept item copies = absurd (cc copies)

-- a change, and no part of a group
abbrev pub IsChange : Record → Type 0
IsChange (Base slot count) = ⊥
IsChange (Row slot row) = ⊥
IsChange item = Unit {0}

pub next-start : (size : TableSize) (kept : Durable) (item : Record) → IsChange item → next_place size Start kept item ≡ log_place kept item
next-start size kept (Tried ballot) change = refl
next-start size kept (Promised ballot) change = refl
next-start size kept (Voted vote) change = refl
next-start size kept (Base slot count) change = absurd change
next-start size kept (Row slot row) change = absurd change

-- the record leads where it would in a log
pub runs_as_log : (size : TableSize) (place : Place) (kept : Durable) (item : Record) (items : List Record) → next_place size place kept item ≡ log_place kept item → run size (reading place kept) (item ∷ items) ≡ run size (reading Log kept) (item ∷ items)
runs_as_log size place kept item items same =
    ap (λ (o : Option Place). option_and_then (λ (s : Reading). run size s items) (option_map (λ (p : Place). reading p (taken size p item kept)) o)) (same ∙ sym (next-log size kept item))

pub copy_ends : (size : TableSize) (place : Place) (kept : Durable) (item : Record) → takes_votes place ≡ true → copy_place place kept item ≡ None → next_place size place kept item ≡ log_place kept item
copy_ends size place kept item copies none =
    next-copy size place kept item copies ∙ ap (λ (o : Option Place). option_or o (log_place kept item)) none

pub copy_goes_on : (size : TableSize) (place next : Place) (kept : Durable) (item : Record) → takes_votes place ≡ true → copy_place place kept item ≡ Some next → next_place size place kept item ≡ Some next
copy_goes_on size place next kept item copies at =
    next-copy size place kept item copies ∙ ap (λ (o : Option Place). option_or o (log_place kept item)) at

-- a place in a log
pub to_log : (kept : Durable) (item : Record) (next : Place) → log_place kept item ≡ Some next → (next ≡ Log) × (keeps_order kept item ≡ true)
to_log kept item next at =
    elim (keeps_order kept item) as (λ (b : Bool). (if b then Some Log else None) ≡ Some next → (next ≡ Log) × (b ≡ true)) [
      | true ↦ λ e. (sym (same_Some Log next e), refl)
      | false ↦ λ e. absurd (none-some next e)
    ] at
