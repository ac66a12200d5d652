-- The steps of who has the turn: committing a row, and handing the turn on.
use Rattle.std.proofs.Common.{◌≡◌, ◌≢◌, ℕ, ◌+◌, ◌%◌, ◌<◌, ◌≤◌, true, false, List, [], ◌∷◌, ◌++◌, length, refl, sym, ap, ◌∙◌, subst, ⊎_elim, arith, append_assoc}
use Rattle.std.proofs.lemmas.Bool.{false≢true}
use Rattle.std.proofs.lemmas.List.{length-set, length_push}
use Rattle.std.specs.Prelude.{slice_set, slice_get, Option, Some}
use mathlib.Core.Option.{some, none, some-injective}
use mathlib.Core.Option as maybe
use lib.ListN.{get_elem?}
use Rattle.atomic_table.specs.Table.{State, Me, Allows, keeps, gives}
use Rattle.atomic_table.proofs.Lists.{set_here}
use Rattle.turn_book.specs.declared.law.Law.{Ghosts}
use Rattle.turn_book.specs.declared.view.Opening.{Opening}
use Rattle.turn_book.specs.declared.view.Past.{Past}
use Rattle.turn_book.specs.declared.view.View.{View}
use Rattle.turn_book.specs.Rested.{MayCommit, MayHandOn}
use Rattle.turn_book.specs.Rows.{BeginsWith, IsLawful}
use Rattle.turn_book.specs.Rule.{Fair, Fits, IsAtRest, IsPast, NamesBelow, follows_in, one_if, words_of}
use Rattle.turn_book.specs.Steps.{committed, handed_on}
use Rattle.turn_book.specs.Views.{out_of_line, with_rows}
use Rattle.turn_book.proofs.KeptLemmas.{all_gone_set, all_kept_set, counted_words, counts_set, lone_set, served_words}
use Rattle.turn_book.proofs.RowLemmas.{begins_itself, begins_more, is_own, lawful_snoc, not_own, row_of_snoc}
use Rattle.turn_book.proofs.ViewLemmas.{apart_set, at_within, each_set, waiting_set}

module _ {L K R M : Type 0} (law : Ghosts L K R M) (opening : Opening L K) where
  -- nobody else has the turn
  other_turn : {A : Type 0} (id : ℕ) (v : View L K R) (s : State (Option L) (View L K R)) (fair : Fair law opening s) → get_elem? s.views id ≡ some v → v.turn ≡ true
      → (j : ℕ) (u : View L K R) → j ≢ id → get_elem? s.views j ≡ some u → u.turn ≡ true → A
  other_turn id v s fair at has j u other there turn =
      let mine = fair.each id v at in
      let theirs = fair.each j u there in
      absurd (other (fair.apart j id u v there at (theirs.waits turn) (mine.waits has) (theirs.served turn ∙ sym (mine.served has))))

  -- a seat that was joined to another has no part in the new row
  past_more : (id : ℕ) (first after : List R) (row : R) (past : Past R) → law.seat row ≡ Some id → past.number ≢ id → IsPast law first after past → IsPast law first (after ++ row ∷ []) past
  past_more id first after row past names other was =
      record {
        showed = was.showed;
        own = was.own ∙ sym (not_own law.seat past.number id after row names other);
        saw = subst (λ (rows : List R). BeginsWith rows past.seen) (append_assoc first after (row ∷ [])) (begins_more (first ++ after) past.seen (row ∷ []) was.saw);
      }

  -- a seat's number is no past one while it isn't spent
  still_here : (id : ℕ) (v : View L K R) (s : State (Option L) (View L K R)) (fair : Fair law opening s) → get_elem? s.views id ≡ some v → v.spent ≡ false
      → (j : ℕ) (u : View L K R) → get_elem? s.views j ≡ some u → (k : ℕ) (past : Past R) → get_elem? u.joined k ≡ some past → past.number ≢ id
  still_here id v s fair at lives j u there k past joined same =
      let gone = (fair.gone j u there k past joined).1 v (subst (λ (n : ℕ). get_elem? s.views n ≡ some v) (sym same) at) in
      false≢true (sym lives ∙ gone)

  fits_other : (id : ℕ) (v : View L K R) (row : R) (s : State (Option L) (View L K R)) (fair : Fair law opening s) → get_elem? s.views id ≡ some v → v.turn ≡ true → v.spent ≡ false → law.seat row ≡ Some id
      → (j : ℕ) (u : View L K R) → j ≢ id → get_elem? s.views j ≡ some u → Fits law opening fair.first (fair.after ++ row ∷ []) fair.next fair.serving j u
  fits_other id v row s fair at has lives names j u other there =
      let fits = fair.each j u there in
      record {
        opened = fits.opened;
        showed = fits.showed;
        numbered = fits.numbered;
        queued = fits.queued;
        waits = fits.waits;
        served = fits.served;
        sees = λ turn. other_turn id v s fair at has j u other there turn;
        lives = fits.lives;
        saw = subst (λ (rows : List R). BeginsWith rows u.seen) (append_assoc fair.first fair.after (row ∷ [])) (begins_more (fair.first ++ fair.after) u.seen (row ∷ []) fits.saw);
        owns = λ alive. fits.owns alive ∙ sym (not_own law.seat j id fair.after row names other);
        past = λ k past joined. past_more id fair.first fair.after row past names (still_here id v s fair at lives j u there k past joined) (fits.past k past joined);
      }

  fits_committed : (id : ℕ) (v : View L K R) (row : R) (s : State (Option L) (View L K R)) (fair : Fair law opening s) → get_elem? s.views id ≡ some v → v.turn ≡ true → v.spent ≡ false → law.seat row ≡ Some id
      → Fits law opening fair.first (fair.after ++ row ∷ []) fair.next fair.serving id (with_rows (row ∷ []) v)
  fits_committed id v row s fair at has lives names =
      let fits = fair.each id v at in
      let now : v.seen ++ row ∷ [] ≡ fair.first ++ (fair.after ++ row ∷ []) = ap (λ (rows : List R). rows ++ row ∷ []) (fits.sees has) ∙ append_assoc fair.first fair.after (row ∷ []) in
      record {
        opened = fits.opened;
        showed = fits.showed;
        numbered = fits.numbered;
        queued = fits.queued;
        waits = fits.waits;
        served = fits.served;
        sees = λ _. now;
        lives = fits.lives;
        saw = subst (λ (rows : List R). BeginsWith rows (v.seen ++ row ∷ [])) now (begins_itself (v.seen ++ row ∷ []));
        owns = λ alive. ap (λ (rows : List R). rows ++ row ∷ []) (fits.owns alive) ∙ sym (is_own law.seat id fair.after row names);
        past = λ k past joined. past_more id fair.first fair.after row past names (still_here id v s fair at lives id v at k past joined) (fits.past k past joined);
      }

  named_more : (id : ℕ) (row : R) (count : ℕ) (after : List R) → id < count → law.seat row ≡ Some id
      → ((place : ℕ) (r : R) → slice_get after place ≡ Some r → NamesBelow law count r) → (place : ℕ) (r : R) → slice_get (after ++ row ∷ []) place ≡ Some r → NamesBelow law count r
  named_more id row count after below names named place r there =
      ⊎_elim (λ t. named place r t.0) (λ t. subst (λ (x : R). NamesBelow law count x) (sym t.0) (id, names, below)) (row_of_snoc after row place r there)

  same_opening : (a b : Opening L K) (v : View L K R) → v.opening ≡ Some a → v.opening ≡ Some b → a ≡ b
  same_opening a b v one two = (let both : Some a ≡ Some b = sym one ∙ two in cc)

  pub commits : (slots id : ℕ) (me : Me (Option L) (View L K R)) (row : R) → MayCommit law me.0 row
      → Allows (Fair law opening) slots id me 2 (λ x. (x + 1) % 18446744073709551616) (λ _. committed (row ∷ []) me)
  commits slots id me row may s fair one at small =
      let v : View L K R = me.0 in
      let w : View L K R = with_rows (row ∷ []) v in
      let fits = fair.each id v at in
      let lives = fits.lives may.turn in
      let names : law.seat row ≡ Some id = may.seat ∙ ap (λ (n : ℕ). Some n) (fits.numbered lives) in
      let the_opening : may.opening ≡ opening = same_opening may.opening opening v may.opened (fits.opened lives) in
      let follows : follows_in law opening (fair.first ++ fair.after) row =
      subst (λ (rows : List R). follows_in law opening rows row) (fits.sees may.turn) (subst (λ (o : Opening L K). follows_in law o v.seen row) the_opening may.follows) in (
        w,
        keeps,
        tt,
        record {
          first = fair.first;
          after = fair.after ++ row ∷ [];
          next = fair.next;
          serving = fair.serving;
          begins = fair.begins;
          lawful = subst (IsLawful (follows_in law opening)) (append_assoc fair.first fair.after (row ∷ [])) (lawful_snoc (follows_in law opening) (fair.first ++ fair.after) row fair.lawful follows);
          words = counted_words s.words fair.next fair.serving (length fair.after) fair.words ∙ ap (words_of fair.next fair.serving) (sym (length_push fair.after row));
          slot = fair.slot;
          few = subst (λ (n : ℕ). (n ≤ opening.seats) × (opening.seats ≤ 7)) (sym (length-set s.views id w)) fair.few;
          tickets = (let total = waiting_set s.views id v w at in let sum = fair.tickets in omega arith);
          each =
              each_set (Fits law opening fair.first (fair.after ++ row ∷ []) fair.next fair.serving) s.views id w
              (λ j u other there. fits_other id v row s fair at may.turn lives names j u other there)
              (fits_committed id v row s fair at may.turn lives names);
          apart =
              apart_set s.views id w fair.apart
              (λ waits j u other there uw same. other (fair.apart j id u v there at uw waits (sym same)));
          home = λ free. absurd (false≢true (sym (free id w (set_here s.views id w (at_within s.views id v at))) ∙ may.turn));
          counts = counts_set s.views id v w at refl refl fair.counts;
          named =
              subst (λ (n : ℕ). (place : ℕ) (r : R) → slice_get (fair.after ++ row ∷ []) place ≡ Some r → NamesBelow law n r) (sym (length-set s.views id w))
              (named_more id row (length s.views) fair.after (at_within s.views id v at) names fair.named);
          gone = all_gone_set s.views id v w at refl refl fair.gone;
          lone = lone_set s.views id v w at refl fair.lone;
          kept = all_kept_set s.views id v w at refl refl fair.kept;
        },
        refl,
      )

  fits_behind : (id : ℕ) (v : View L K R) (s : State (Option L) (View L K R)) (fair : Fair law opening s) → get_elem? s.views id ≡ some v → v.turn ≡ true
      → (j : ℕ) (u : View L K R) → j ≢ id → get_elem? s.views j ≡ some u → Fits law opening fair.first fair.after fair.next (fair.serving + 1) j u
  fits_behind id v s fair at has j u other there =
      let fits = fair.each j u there in
      let mine = fair.each id v at in
      record {
        opened = fits.opened;
        showed = fits.showed;
        numbered = fits.numbered;
        queued = λ waits.
            (let in_it = fits.queued waits in
            let theirs : fair.serving ≢ u.ticket = λ same. other (fair.apart j id u v there at waits (mine.waits has) (sym same ∙ sym (mine.served has))) in
            (omega arith, in_it.1));
        waits = fits.waits;
        served = λ turn. other_turn id v s fair at has j u other there turn;
        sees = fits.sees;
        lives = fits.lives;
        saw = fits.saw;
        owns = fits.owns;
        past = fits.past;
      }

  fits_done : (first after : List R) (next serving place : ℕ) (v : View L K R) → Fits law opening first after next serving place v → Fits law opening first after next (serving + 1) place (out_of_line v)
  fits_done first after next serving place v fits =
      record {
        opened = fits.opened;
        showed = fits.showed;
        numbered = fits.numbered;
        queued = λ waits. absurd (false≢true waits);
        waits = λ turn. absurd (false≢true turn);
        served = λ turn. absurd (false≢true turn);
        sees = λ turn. absurd (false≢true turn);
        lives = λ turn. absurd (false≢true turn);
        saw = fits.saw;
        owns = fits.owns;
        past = fits.past;
      }

  -- the slot at home again
  one_slot : (homes : List (maybe.Option (Option L))) (x : maybe.Option (Option L)) → length homes ≡ 1 → slice_set homes 0 x ≡ x ∷ []
  one_slot [] x one = absurd (omega arith)
  one_slot (h ∷ []) x one = refl
  one_slot (h ∷ k ∷ ks) x one = absurd (omega arith)

  pub hands_on : (slots id : ℕ) (v : View L K R) (x : L) → MayHandOn law v x
      → Allows (Fair law opening) slots id (v, (0, Some x) ∷ []) 1 (λ n. (n + 1) % 18446744073709551616) (λ _. handed_on (v, (0, Some x) ∷ []))
  hands_on slots id v x may s fair one at small =
      let w : View L K R = out_of_line v in
      let fits = fair.each id v at in
      let lives = fits.lives may.turn in
      let the_opening : may.opening ≡ opening = same_opening may.opening opening v may.opened (fits.opened lives) in (
        w,
        gives,
        tt,
        record {
          first = fair.first;
          after = fair.after;
          next = fair.next;
          serving = fair.serving + 1;
          begins = fair.begins;
          lawful = fair.lawful;
          words = served_words s.words fair.next fair.serving (length fair.after) fair.words;
          slot = length-set s.homes 0 (some (Some x)) ∙ fair.slot;
          few = subst (λ (n : ℕ). (n ≤ opening.seats) × (opening.seats ≤ 7)) (sym (length-set s.views id w)) fair.few;
          tickets = (let total = waiting_set s.views id v w at in let sum = fair.tickets in let one : one_if v.waits ≡ 1 = ap one_if (fits.waits may.turn) in omega arith);
          each =
              each_set (Fits law opening fair.first fair.after fair.next (fair.serving + 1)) s.views id w
              (λ j u other there. fits_behind id v s fair at may.turn j u other there)
              (fits_done fair.first fair.after fair.next fair.serving id v fits);
          apart = apart_set s.views id w fair.apart (λ waits j u other there uw same. absurd (false≢true waits));
          home = λ free.
              record {
                state = x;
                there = one_slot s.homes (some (Some x)) fair.slot;
                rests = subst (λ (rows : List R). IsAtRest law opening rows x) (fits.sees may.turn) (subst (λ (o : Opening L K). IsAtRest law o v.seen x) the_opening may.rests);
              };
          counts = counts_set s.views id v w at refl refl fair.counts;
          named = subst (λ (n : ℕ). (place : ℕ) (row : R) → slice_get fair.after place ≡ Some row → NamesBelow law n row) (sym (length-set s.views id w)) fair.named;
          gone = all_gone_set s.views id v w at refl refl fair.gone;
          lone = lone_set s.views id v w at refl fair.lone;
          kept = all_kept_set s.views id v w at refl refl fair.kept;
        },
        refl,
      )

  -- a seat hands on what it has put back
  pub hands_on_at : (slots id : ℕ) (me : Me (Option L) (View L K R)) (v : View L K R) (x : L) → me ≡ (v, (0, Some x) ∷ []) → MayHandOn law v x
      → Allows (Fair law opening) slots id me 1 (λ n. (n + 1) % 18446744073709551616) (λ _. handed_on me)
  hands_on_at slots id me v x is may =
      subst (λ (m : Me (Option L) (View L K R)). Allows (Fair law opening) slots id m 1 (λ n. (n + 1) % 18446744073709551616) (λ _. handed_on m)) (sym is) (hands_on slots id v x may)

  -- the row is what the step adds
  pub commits_as : (slots id : ℕ) (me : Me (Option L) (View L K R)) (rows : List R) (row : R) → rows ≡ row ∷ [] → MayCommit law me.0 row
      → Allows (Fair law opening) slots id me 2 (λ x. (x + 1) % 18446744073709551616) (λ _. committed rows me)
  commits_as slots id me rows row is may =
      subst (λ (l : List R). Allows (Fair law opening) slots id me 2 (λ x. (x + 1) % 18446744073709551616) (λ _. committed l me)) (sym is) (commits slots id me row may)
