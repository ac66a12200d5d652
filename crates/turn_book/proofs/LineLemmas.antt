-- The steps of the line: drawing a ticket, looking at the one that is served, and handing the turn on.
use Rattle.std.proofs.Common.{◌≡◌, ◌≢◌, ℕ, ◌+◌, ◌%◌, ◌≤◌, Bool, true, false, List, [], ◌∷◌, ◌++◌, length, set, refl, sym, ap, ◌∙◌, subst, arith}
use Rattle.std.proofs.lemmas.Bool.{false≢true, true≢false}
use Rattle.std.proofs.lemmas.List.{length-set}
use Rattle.std.specs.Prelude.{slice_index, slice_get, Option, Some}
use mathlib.Core.Option.{some, none, some-injective}
use mathlib.Core.Option as maybe
use mathlib.Core.Logic.{dite}
use native.Mathlib.Decide.{ℕ_discrete}
use lib.ListN.{get_elem?}
use Rattle.atomic_table.specs.Table.{State, Me, Act, Valid, Allows, carried_after, keeps, takes, stepped}
use Rattle.atomic_table.proofs.Lists.{set_here, set_else, set_again, one_turn}
use Rattle.turn_book.specs.declared.law.Law.{Ghosts}
use Rattle.turn_book.specs.declared.view.Opening.{Opening}
use Rattle.turn_book.specs.declared.view.View.{View}
use Rattle.turn_book.specs.Rested.{IsInLine, Rests}
use Rattle.turn_book.specs.Rule.{Fair, Fits, IsFree, NamesBelow, one_if}
use Rattle.turn_book.specs.Steps.{drew, looked}
use Rattle.turn_book.specs.Views.{in_line, with_turn}
use Rattle.turn_book.proofs.KeptLemmas.{all_gone_set, all_kept_set, counts_set, drawn_words, lone_set, seen_words}
use Rattle.turn_book.proofs.RowLemmas.{begins_itself, names_more}
use Rattle.turn_book.specs.Rows.{rows_of}
use Rattle.turn_book.proofs.ViewLemmas.{apart_set, at_within, each_set, waiting_few, waiting_set}

no_turn : {A : Type 0} (turn : Bool) → turn ≡ false → turn ≡ true → A
no_turn turn isnt is = absurd (false≢true (sym isnt ∙ is))

some_same : {A : Type 0} (a b : A) → Some a ≡ Some b → b ≡ a
some_same a b same = cc

module _ {L K R M : Type 0} (law : Ghosts L K R M) (opening : Opening L K) where
  -- a view that gets a ticket fits with it
  fits_drawn : (first after : List R) (next serving place : ℕ) (v : View L K R) → serving ≤ next → Rests v → Fits law opening first after next serving place v
      → Fits law opening first after (next + 1) serving place (in_line next v)
  fits_drawn first after next serving place v line rests fits =
      record {
        opened = fits.opened;
        showed = fits.showed;
        numbered = fits.numbered;
        queued = λ _. (line, omega arith);
        waits = λ _. refl;
        served = λ turn. no_turn v.turn rests.turn turn;
        sees = fits.sees;
        lives = fits.lives;
        saw = fits.saw;
        owns = fits.owns;
        past = fits.past;
      }

  -- another's view fits with a line that is one longer
  fits_longer : (first after : List R) (next serving place : ℕ) (v : View L K R) → Fits law opening first after next serving place v → Fits law opening first after (next + 1) serving place v
  fits_longer first after next serving place v fits =
      record {
        opened = fits.opened;
        showed = fits.showed;
        numbered = fits.numbered;
        queued = λ waits. let in_it = fits.queued waits in (in_it.0, omega arith);
        waits = fits.waits;
        served = fits.served;
        sees = fits.sees;
        lives = fits.lives;
        saw = fits.saw;
        owns = fits.owns;
        past = fits.past;
      }

  -- nobody has the turn where nobody had it and the seat that changes doesn't get it
  pub free_before : (views : List (View L K R)) (at : ℕ) (v w : View L K R) → get_elem? views at ≡ some v → v.turn ≡ false → IsFree (set views at w) → IsFree views
  free_before views at v w is isnt free place u there =
      dite (ℕ_discrete place at)
      (λ (e : place ≡ at). ap (λ (x : View L K R). x.turn) (some-injective u v (sym there ∙ subst (λ (n : ℕ). get_elem? views n ≡ some v) (sym e) is)) ∙ isnt)
      (λ (e : place ≢ at). free place u (set_else views at place w e ∙ there))

  pub draws : (slots id : ℕ) (me : Me (Option L) (View L K R)) → Rests me.0 → Allows (Fair law opening) slots id me 0 (λ x. (x + 1) % 18446744073709551616) (drew me)
  draws slots id me rests s fair one at small =
      let v : View L K R = me.0 in
      let line : fair.serving ≤ fair.next = let t = fair.tickets in omega arith in (
        in_line fair.next v,
        keeps,
        tt,
        record {
          first = fair.first;
          after = fair.after;
          next = fair.next + 1;
          serving = fair.serving;
          begins = fair.begins;
          lawful = fair.lawful;
          words = drawn_words s.words fair.next fair.serving (length fair.after) fair.words;
          slot = fair.slot;
          few = subst (λ (n : ℕ). (n ≤ opening.seats) × (opening.seats ≤ 7)) (sym (length-set s.views id (in_line fair.next v))) fair.few;
          tickets =
              (let total = waiting_set s.views id v (in_line fair.next v) at in let none : one_if v.waits ≡ 0 = ap one_if rests.waits in let sum = fair.tickets in omega arith);
          each =
              each_set (Fits law opening fair.first fair.after (fair.next + 1) fair.serving) s.views id (in_line fair.next v)
              (λ j u _ there. fits_longer fair.first fair.after fair.next fair.serving j u (fair.each j u there))
              (fits_drawn fair.first fair.after fair.next fair.serving id v line rests (fair.each id v at));
          apart =
              apart_set s.views id (in_line fair.next v) fair.apart
              (λ _ j u _ there waits same. let below = (fair.each j u there).queued waits in omega arith);
          home = λ free. fair.home (free_before s.views id v (in_line fair.next v) at rests.turn free);
          counts = counts_set s.views id v (in_line fair.next v) at refl refl fair.counts;
          named = subst (λ (n : ℕ). (place : ℕ) (row : R) → slice_get fair.after place ≡ Some row → NamesBelow law n row) (sym (length-set s.views id (in_line fair.next v))) fair.named;
          gone = all_gone_set s.views id v (in_line fair.next v) at refl refl fair.gone;
          lone = lone_set s.views id v (in_line fair.next v) at refl fair.lone;
          kept = all_kept_set s.views id v (in_line fair.next v) at refl refl fair.kept;
        },
        (fair.next, ap (λ (l : List ℕ). slice_index l 0) fair.words, refl),
      )

  -- who has the ticket that is served finds the number in the word, and nobody else does
  mine : (slots id : ℕ) (v : View L K R) (s : State (Option L) (View L K R)) (fair : Fair law opening s) → get_elem? s.views id ≡ some v → v.waits ≡ true
      → slice_index s.words 1 ≡ v.ticket % 18446744073709551616 → fair.serving ≡ v.ticket
  mine slots id v s fair at waits same =
      let queue = (fair.each id v at).queued waits in
      let some_wait = waiting_few s.views in
      let sum = fair.tickets in
      let few = fair.few in
      let word : slice_index s.words 1 ≡ fair.serving % 18446744073709551616 = ap (λ (l : List ℕ). slice_index l 1) fair.words in
      one_turn fair.serving v.ticket 18446744073709551616 queue.0 (omega arith) (sym word ∙ same)

  -- then nobody has the turn
  is_free : (id : ℕ) (v : View L K R) (s : State (Option L) (View L K R)) (fair : Fair law opening s) → get_elem? s.views id ≡ some v → v.waits ≡ true → v.turn ≡ false
      → fair.serving ≡ v.ticket → (place : ℕ) (u : View L K R) → get_elem? s.views place ≡ some u → (b : Bool) → u.turn ≡ b → b ≡ false
  is_free id v s fair at waits isnt served place u there false turn = refl
  is_free id v s fair at waits isnt served place u there true turn =
      let fits = fair.each place u there in
      let one : place ≡ id = fair.apart place id u v there at (fits.waits turn) waits (fits.served turn ∙ served) in
      let same : u ≡ v = some-injective u v (sym there ∙ subst (λ (n : ℕ). get_elem? s.views n ≡ some v) (sym one) at) in
      absurd (false≢true (sym isnt ∙ ap (λ (x : View L K R). x.turn) (sym same) ∙ turn))

  fits_served : (first after : List R) (next serving place : ℕ) (v : View L K R) → v.waits ≡ true → v.spent ≡ false → serving ≡ v.ticket
      → Fits law opening first after next serving place v → Fits law opening first after next serving place (with_turn first after v)
  fits_served first after next serving place v waits lives served fits =
      record {
        opened = fits.opened;
        showed = λ rows is. some_same first rows is;
        numbered = fits.numbered;
        queued = fits.queued;
        waits = λ _. waits;
        served = λ _. sym served;
        sees = λ _. refl;
        lives = λ _. lives;
        saw = begins_itself (first ++ after);
        owns = fits.owns;
        past = fits.past;
      }

  serves : (id : ℕ) (v : View L K R) (s : State (Option L) (View L K R)) (fair : Fair law opening s) → get_elem? s.views id ≡ some v → v.waits ≡ true → v.turn ≡ false → v.spent ≡ false
      → fair.serving ≡ v.ticket → (x : L) → s.homes ≡ some (Some x) ∷ []
      → Fair law opening (stepped s 1 (slice_index s.words 1) id [] (with_turn fair.first fair.after v) (takes 0 (Some x)))
  serves id v s fair at waits isnt lives served x there =
      let w : View L K R = with_turn fair.first fair.after v in
      record {
        first = fair.first;
        after = fair.after;
        next = fair.next;
        serving = fair.serving;
        begins = fair.begins;
        lawful = fair.lawful;
        words = seen_words s.words fair.next fair.serving (length fair.after) fair.words ∙ fair.words;
        slot = length-set s.homes 0 none ∙ fair.slot;
        few = subst (λ (n : ℕ). (n ≤ opening.seats) × (opening.seats ≤ 7)) (sym (length-set s.views id w)) fair.few;
        tickets = (let total = waiting_set s.views id v w at in let sum = fair.tickets in omega arith);
        each =
            each_set (Fits law opening fair.first fair.after fair.next fair.serving) s.views id w
            (λ j u _ there. fair.each j u there)
            (fits_served fair.first fair.after fair.next fair.serving id v waits lives served (fair.each id v at));
        apart =
            apart_set s.views id w fair.apart
            (λ _ j u other there uw same. other (fair.apart j id u v there at uw waits (sym same)));
        home = λ free. absurd (true≢false (free id w (set_here s.views id w (at_within s.views id v at))));
        counts = counts_set s.views id v w at refl refl fair.counts;
        named = subst (λ (n : ℕ). (place : ℕ) (row : R) → slice_get fair.after place ≡ Some row → NamesBelow law n row) (sym (length-set s.views id w)) fair.named;
        gone = all_gone_set s.views id v w at refl refl fair.gone;
        lone = lone_set s.views id v w at refl fair.lone;
        kept = all_kept_set s.views id v w at refl refl fair.kept;
      }

  -- the seat is served
  served_step : (id : ℕ) (v : View L K R) (s : State (Option L) (View L K R)) (fair : Fair law opening s) → get_elem? s.views id ≡ some v → v.waits ≡ true → v.turn ≡ false → v.spent ≡ false
      → slice_index s.words 1 ≡ v.ticket % 18446744073709551616
      → (w : View L K R) × (a : Act (Option L)) × Valid s.homes [] a × Fair law opening (stepped s 1 (slice_index s.words 1) id [] w a) × looked law (v, []) (slice_index s.words 1) (w, carried_after [] a)
  served_step id v s fair at waits isnt lives same =
      let served = mine 1 id v s fair at waits same in
      let home = fair.home (λ place u there. is_free id v s fair at waits isnt served place u there u.turn refl) in
      let fits = fair.each id v at in (
        with_turn fair.first fair.after v,
        takes 0 (Some home.state),
        ap (λ (l : List (maybe.Option (Option L))). get_elem? l 0) home.there,
        serves id v s fair at waits isnt lives served home.state home.there,
        (
          (λ _. record {
            opening = opening;
            first = fair.first;
            after = fair.after;
            state = home.state;
            opened = fits.opened lives;
            showed = fits.showed;
            history =
                record {
                  begins = fair.begins;
                  saw = fits.saw;
                  lawful = fair.lawful;
                  own = fits.owns lives ∙ ap (λ (n : ℕ). rows_of law.seat n fair.after) (sym (fits.numbered lives));
                  named = λ place row is. names_more law (length s.views) opening.seats row fair.few.0 (fair.named place row is);
                };
            rests = home.rests;
            is = refl;
          }),
          (λ other. absurd (other same)),
        ),
      )

  -- it isn't yet
  waits_on : (id : ℕ) (v : View L K R) (s : State (Option L) (View L K R)) → Fair law opening s → get_elem? s.views id ≡ some v
      → slice_index s.words 1 ≢ v.ticket % 18446744073709551616
      → (w : View L K R) × (a : Act (Option L)) × Valid s.homes [] a × Fair law opening (stepped s 1 (slice_index s.words 1) id [] w a) × looked law (v, []) (slice_index s.words 1) (w, carried_after [] a)
  waits_on id v s fair at other = (
    v,
    keeps,
    tt,
    rw (seen_words s.words fair.next fair.serving (length fair.after) fair.words, set_again s.views id v at) fair,
    ((λ same. absurd (other same)), (λ _. refl)),
  )

  pub looks : (slots id : ℕ) (v : View L K R) → v.waits ≡ true → v.turn ≡ false → v.spent ≡ false → Allows (Fair law opening) slots id (v, []) 1 (λ x. x) (looked law (v, []))
  looks slots id v waits isnt lives s fair one at small =
      dite (ℕ_discrete (slice_index s.words 1) (v.ticket % 18446744073709551616))
      (λ (same : slice_index s.words 1 ≡ v.ticket % 18446744073709551616). served_step id v s fair at waits isnt lives same)
      (λ (other : slice_index s.words 1 ≢ v.ticket % 18446744073709551616). waits_on id v s fair at other)

  pub looks_at : (slots id : ℕ) (me : Me (Option L) (View L K R)) → IsInLine me → Allows (Fair law opening) slots id me 1 (λ x. x) (looked law me)
  looks_at slots id me queued =
      subst (λ (held : List (ℕ × Option L)). Allows (Fair law opening) slots id (me.0, held) 1 (λ x. x) (looked law (me.0, held))) (sym queued.slot)
      (looks slots id me.0 queued.waits queued.turn queued.lives)
