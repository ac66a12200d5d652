-- Lists of rows that gain one.
use Rattle.std.proofs.Common.{◌≡◌, ◌≢◌, ◌⊎◌, ℕ, zero, suc, ◌<◌, ◌≤◌, List, [], ◌∷◌, ◌++◌, take, slice_get, Option, Some, refl, sym, ap, ◌∙◌, subst, inl, inr, ⊎_elim, arith, append_assoc, eq-eqb, ne_eqb}
use Rattle.std.proofs.lemmas.List.{append-nil}
use Rattle.std.proofs.lemmas.List.Elements.{filter-append}
use Rattle.std.proofs.lemmas.Option.{none-some}
use Rattle.turn_book.specs.declared.law.Law.{Ghosts}
use Rattle.turn_book.specs.Rule.{NamesBelow}
use Rattle.turn_book.specs.Rows.{BeginsWith, IsLawful, is_seat, rows_of}

module _ {R : Type 0} where
  -- a row of a list with one more is a row of the list, or the last
  pub row_of_snoc : (rows : List R) (last : R) (place : ℕ) (row : R) → slice_get (rows ++ last ∷ []) place ≡ Some row
      → ((slice_get rows place ≡ Some row) × (take place (rows ++ last ∷ []) ≡ take place rows)) ⊎ ((row ≡ last) × (take place (rows ++ last ∷ []) ≡ rows))
  row_of_snoc [] last zero row is = inr (cc, refl)
  row_of_snoc [] last (suc place) row is = absurd (none-some row is)
  row_of_snoc (x ∷ xs) last zero row is = inl (is, refl)
  row_of_snoc (x ∷ xs) last (suc place) row is =
      ⊎_elim (λ t. inl (t.0, ap (λ (l : List R). x ∷ l) t.1)) (λ t. inr (t.0, ap (λ (l : List R). x ∷ l) t.1)) (row_of_snoc xs last place row is)

  pub lawful_snoc : (follows : List R → R → Type 0) (rows : List R) (last : R) → IsLawful follows rows → follows rows last → IsLawful follows (rows ++ last ∷ [])
  lawful_snoc follows rows last lawful may place row is =
      ⊎_elim
      (λ t. subst (λ (front : List R). follows front row) (sym t.1) (lawful place row t.0))
      (λ t. subst (λ (front : List R). follows front row) (sym t.1) (subst (λ (r : R). follows rows r) (sym t.0) may))
      (row_of_snoc rows last place row is)

  pub begins_more : (rows front more : List R) → BeginsWith rows front → BeginsWith (rows ++ more) front
  begins_more rows front more begins = (begins.0 ++ more, ap (λ (l : List R). l ++ more) begins.1 ∙ append_assoc front begins.0 more)

  pub begins_itself : (rows : List R) → BeginsWith rows rows
  begins_itself rows = ([], sym (append-nil rows))

  -- a row of another seat isn't among a seat's own
  pub not_own : (seat : R → Option ℕ) (number other : ℕ) (rows : List R) (row : R) → seat row ≡ Some other → number ≢ other → rows_of seat number (rows ++ row ∷ []) ≡ rows_of seat number rows
  not_own seat number other rows row names apart =
      filter-append (λ (r : R). is_seat number (seat r)) rows (row ∷ []) ∙ rw (names, ne_eqb other number (λ e. apart (sym e)), append-nil) refl

  -- a row of the seat is one more of its own
  pub is_own : (seat : R → Option ℕ) (number : ℕ) (rows : List R) (row : R) → seat row ≡ Some number → rows_of seat number (rows ++ row ∷ []) ≡ rows_of seat number rows ++ row ∷ []
  is_own seat number rows row names = filter-append (λ (r : R). is_seat number (seat r)) rows (row ∷ []) ∙ rw (names, eq-eqb number number refl) refl

  -- where each row names a seat below a number, the seat of that number has none
  pub none_own : (seat : R → Option ℕ) (number : ℕ) (rows : List R) → ((place : ℕ) (row : R) → slice_get rows place ≡ Some row → (named : ℕ) × (seat row ≡ Some named) × (named < number)) → rows_of seat number rows ≡ []
  none_own seat number [] below = refl
  none_own seat number (x ∷ xs) below =
      let first = below 0 x refl in
      rw (first.1, ne_eqb first.0 number (λ e. omega arith)) (none_own seat number xs (λ place row is. below (suc place) row is))

module _ {L K R M : Type 0} (law : Ghosts L K R M) where
  pub names_more : (count more : ℕ) (row : R) → count ≤ more → NamesBelow law count row → NamesBelow law more row
  names_more count more row at_most names = (names.0, names.1, omega arith)
