-- How a book takes its seats back, and how it ends.
use Rattle.std.proofs.Common.{◌≡◌, ◌≢◌, ◌⊎◌, ℕ, zero, suc, ◌<◌, ◌≤◌, Bool, true, false, List, [], ◌∷◌, ◌++◌, length, set, refl, sym, ap, ◌∙◌, subst, inl, inr, ⊎_elim, arith}
use Rattle.std.proofs.lemmas.Bool.{false≢true, true≢false}
use Rattle.std.proofs.lemmas.List.{length-set}
use Rattle.std.proofs.lemmas.Option.{none-some}
use Rattle.std.specs.Prelude.{slice_get, Option, Some}
use mathlib.Core.Option.{some, none, some-injective, some-ne-none}
use mathlib.Core.Option as maybe
use mathlib.Core.Logic.{dite}
use native.Mathlib.Decide.{ℕ_discrete}
use lib.ListN.{get_elem?}
use Rattle.atomic_table.specs.Table.{Me, State, Final, Joins, Seen}
use Rattle.atomic_table.proofs.Lists.{at_set, set_else, set_here}
use Rattle.turn_book.specs.declared.law.Law.{Ghosts}
use Rattle.turn_book.specs.declared.view.Opening.{Opening}
use Rattle.turn_book.specs.declared.view.Past.{Past}
use Rattle.turn_book.specs.declared.view.View.{View}
use Rattle.turn_book.specs.Rested.{Rests}
use Rattle.turn_book.specs.Rows.{IsLawful, rows_of}
use Rattle.turn_book.specs.Rule.{Fair, Fits, IsAtRest, IsGone, IsKept, IsPast, NamesBelow, follows_in, one_if}
use Rattle.turn_book.specs.Views.{past_of, spent_view, with_past, with_pasts}
use Rattle.turn_book.proofs.KeptLemmas.{counts_set, gone_set}
use Rattle.turn_book.proofs.LineLemmas.{free_before}
use Rattle.turn_book.proofs.RowLemmas.{names_more}
use Rattle.turn_book.proofs.ViewLemmas.{apart_set, at_within, each_set, waiting_set}

module _ {L K R : Type 0} where
  -- each seat but the first was joined to it
  abbrev pub HasAll : View L K R → Type 0
  HasAll v = (number : ℕ) → number < v.made → number ≢ 0 → (place : ℕ) × (past : Past R) × (get_elem? v.joined place ≡ some past) × (past.number ≡ number)

module _ {L K R M : Type 0} (law : Ghosts L K R M) (opening : Opening L K) where
  -- what is left of a seat fits with anything
  fits_spent : (first after : List R) (next serving place : ℕ) → Fits law opening first after next serving place spent_view
  fits_spent first after next serving place =
      record {
        opened = λ lives. absurd (true≢false lives);
        showed = λ rows told. absurd (none-some rows told);
        numbered = λ lives. absurd (true≢false lives);
        queued = λ waits. absurd (false≢true waits);
        waits = λ turn. absurd (false≢true turn);
        served = λ turn. absurd (false≢true turn);
        sees = λ turn. absurd (false≢true turn);
        lives = λ turn. absurd (false≢true turn);
        saw = (first ++ after, refl);
        owns = λ lives. absurd (true≢false lives);
        past = λ k past joined. absurd (some-ne-none past (sym joined));
      }

  -- what a seat leaves
  is_past : (first after : List R) (next serving place : ℕ) (w : View L K R) → Rests w → Fits law opening first after next serving place w → IsPast law first after (past_of w)
  is_past first after next serving place w rests fits =
      record {
        showed = fits.showed;
        own = fits.owns rests.lives ∙ ap (λ (n : ℕ). rows_of law.seat n after) (sym (fits.numbered rests.lives));
        saw = fits.saw;
      }

  past_or : (first after : List R) (v w : View L K R) → IsPast law first after (past_of w) → ((k : ℕ) (past : Past R) → get_elem? v.joined k ≡ some past → IsPast law first after past)
      → (k : ℕ) (past : Past R) → get_elem? (past_of w ∷ v.joined) k ≡ some past → IsPast law first after past
  past_or first after v w new old zero past is = subst (λ (x : Past R). IsPast law first after x) (some-injective (past_of w) past is) new
  past_or first after v w new old (suc k) past is = old k past is

  fits_joined : (first after : List R) (next serving place : ℕ) (v w : View L K R) → IsPast law first after (past_of w) → Fits law opening first after next serving place v
      → Fits law opening first after next serving place (with_past v w)
  fits_joined first after next serving place v w was fits =
      record {
        opened = fits.opened;
        showed = fits.showed;
        numbered = fits.numbered;
        queued = fits.queued;
        waits = fits.waits;
        served = fits.served;
        sees = fits.sees;
        lives = fits.lives;
        saw = fits.saw;
        owns = fits.owns;
        past = past_or first after v w was fits.past;
      }

  -- once another seat is spent, what was gone is gone
  gone_spent : (views : List (View L K R)) (other : ℕ) (past : Past R) → IsGone views past → IsGone (set views other spent_view) past
  gone_spent views other past gone = (
    subst (λ (n : ℕ). past.number < n) (sym (length-set views other spent_view)) gone.0,
    (λ u there. ⊎_elim
        (λ (t : (past.number ≡ other) × (spent_view ≡ u)). sym (ap (λ (x : View L K R). x.spent) t.1))
        (λ (t : (past.number ≢ other) × (get_elem? views past.number ≡ some u)). gone.1 u t.1)
        (at_set views other past.number spent_view u there)),
  )

  -- the seat that was taken in is gone
  gone_now : (views : List (View L K R)) (other : ℕ) (w : View L K R) → get_elem? views other ≡ some w → w.number ≡ other → IsGone (set views other spent_view) (past_of w)
  gone_now views other w there number = (
    (let within = at_within views other w there in let same = length-set views other (spent_view {L = L} {K = K} {R = R}) in omega arith),
    (λ u is. ⊎_elim
        (λ (t : (w.number ≡ other) × (spent_view ≡ u)). sym (ap (λ (x : View L K R). x.spent) t.1))
        (λ (t : (w.number ≢ other) × (get_elem? views w.number ≡ some u)). absurd (t.0 number))
        (at_set views other w.number spent_view u is)),
  )

  -- what is joined is gone after a seat was taken in
  gone_joined : (views : List (View L K R)) (id other : ℕ) (v w : View L K R) → get_elem? views id ≡ some v → get_elem? (set views id (with_past v w)) other ≡ some w → w.number ≡ other
      → ((place : ℕ) (u : View L K R) → get_elem? views place ≡ some u → (k : ℕ) (past : Past R) → get_elem? u.joined k ≡ some past → IsGone views past)
      → (place : ℕ) (u : View L K R) → ((place ≡ id) × (with_past v w ≡ u)) ⊎ ((place ≢ id) × (get_elem? views place ≡ some u)) → (k : ℕ) (past : Past R) → get_elem? u.joined k ≡ some past
      → IsGone (set (set views id (with_past v w)) other spent_view) past
  gone_joined views id other v w at there number gone place u which k past joined =
      ⊎_elim
      (λ (t : (place ≡ id) × (with_past v w ≡ u)). first_or k (subst (λ (x : View L K R). get_elem? x.joined k ≡ some past) (sym t.1) joined))
      (λ (t : (place ≢ id) × (get_elem? views place ≡ some u)). later (gone place u t.1 k past joined))
      which
    where
      later : IsGone views past → IsGone (set (set views id (with_past v w)) other spent_view) past
      later was = gone_spent (set views id (with_past v w)) other past (gone_set views id v (with_past v w) at refl past was)

      first_or : (i : ℕ) → get_elem? (past_of w ∷ v.joined) i ≡ some past → IsGone (set (set views id (with_past v w)) other spent_view) past
      first_or zero is = subst (λ (x : Past R). IsGone (set (set views id (with_past v w)) other spent_view) x) (some-injective (past_of w) past is) (gone_now (set views id (with_past v w)) other w there number)
      first_or (suc i) is = later (gone id v at i past is)

  -- each number is kept when a seat is taken in by the first
  kept_joined : (views : List (View L K R)) (id other : ℕ) (v w : View L K R) → get_elem? views id ≡ some v → get_elem? (set views id (with_past v w)) other ≡ some w → id ≡ 0 → other ≢ 0
      → w.number ≡ other → v.spent ≡ false → (number : ℕ) → IsKept views number → IsKept (set (set views id (with_past v w)) other spent_view) number
  kept_joined views id other v w at there zeroth away is lives number kept =
      ⊎_elim
      (λ (t : (u : View L K R) × (get_elem? views number ≡ some u) × (u.spent ≡ false)).
      dite (ℕ_discrete number other)
      (λ (e : number ≡ other). inr (both, 0, past_of w, first, lives, refl, is ∙ sym e))
      (λ (e : number ≢ other). dite (ℕ_discrete number id)
      (λ (z : number ≡ id). inl (both, subst (λ (n : ℕ). get_elem? new n ≡ some both) (sym (z ∙ zeroth)) first, lives))
      (λ (z : number ≢ id). inl (t.0, set_else mid other number spent_view e ∙ set_else views id number both z ∙ t.1, t.2))))
      (λ (t : (u : View L K R) × (k : ℕ) × (past : Past R) × (get_elem? views 0 ≡ some u) × (u.spent ≡ false) × (get_elem? u.joined k ≡ some past) × (past.number ≡ number)).
      let same : t.0 ≡ v = some-injective t.0 v (sym t.3 ∙ subst (λ (n : ℕ). get_elem? views n ≡ some v) zeroth at) in
      inr (both, suc t.1, t.2, first, lives, subst (λ (x : View L K R). get_elem? x.joined t.1 ≡ some t.2) same t.5, t.6))
      kept
    where
      both : View L K R
      both = with_past v w

      mid : List (View L K R)
      mid = set views id both

      new : List (View L K R)
      new = set mid other spent_view

      first : get_elem? new 0 ≡ some both
      first = set_else mid other 0 spent_view (λ e. away (sym e)) ∙ subst (λ (n : ℕ). get_elem? mid n ≡ some both) zeroth (set_here views id both (at_within views id v at))

  pub joins : (id : ℕ) (v : View L K R) (other : ℕ) (w : View L K R) → Rests v → v.number ≡ 0 → Rests w → Joins (Fair law opening) id v other w (with_past v w) spent_view
  joins id v other w rests numbered leaves s fair at apart there =
      let both : View L K R = with_past v w in
      let mid : List (View L K R) = set s.views id both in
      let first = fair.first in
      let after = fair.after in
      let in_place : get_elem? s.views other ≡ some w =
      ⊎_elim (λ (t : (other ≡ id) × (both ≡ w)). absurd (apart t.0)) (λ (t : (other ≢ id) × (get_elem? s.views other ≡ some w)). t.1) (at_set s.views id other both w there) in
      let theirs = fair.each other w in_place in
      let zeroth : id ≡ 0 = sym ((fair.each id v at).numbered rests.lives) ∙ numbered in
      let was = is_past first after fair.next fair.serving other w leaves theirs in
      let same : length mid ≡ length s.views = length-set s.views id both in
      let long : length (set mid other (spent_view {L = L} {K = K} {R = R})) ≡ length s.views = length-set mid other spent_view ∙ same in
      let lines : (i j : ℕ) (a b : View L K R) → get_elem? mid i ≡ some a → get_elem? mid j ≡ some b → a.waits ≡ true → b.waits ≡ true → a.ticket ≡ b.ticket → i ≡ j =
      apart_set s.views id both fair.apart (λ waits j u away is uw equal. away (fair.apart j id u v is at uw waits (sym equal))) in
      record {
        first = first;
        after = after;
        next = fair.next;
        serving = fair.serving;
        begins = fair.begins;
        lawful = fair.lawful;
        words = fair.words;
        slot = fair.slot;
        few = subst (λ (n : ℕ). (n ≤ opening.seats) × (opening.seats ≤ 7)) (sym long) fair.few;
        tickets =
            (let one = waiting_set s.views id v both at in let two = waiting_set mid other w spent_view there in
            let none : one_if w.waits ≡ 0 = ap one_if leaves.waits in let sum = fair.tickets in omega arith);
        each =
            each_set (Fits law opening first after fair.next fair.serving) mid other spent_view
            (λ j u _ is. each_set (Fits law opening first after fair.next fair.serving) s.views id both
            (λ i x _ ix. fair.each i x ix)
            (fits_joined first after fair.next fair.serving id v w was (fair.each id v at))
            j u is)
            (fits_spent first after fair.next fair.serving other);
        apart = apart_set mid other spent_view lines (λ waits. absurd (false≢true waits));
        home = λ free. fair.home (free_before law opening s.views id v both at rests.turn (free_before law opening mid other w spent_view there leaves.turn free));
        counts = λ u is lives.
            ⊎_elim
            (λ (t : (0 ≡ other) × (spent_view ≡ u)). absurd (true≢false (ap (λ (x : View L K R). x.spent) t.1 ∙ lives)))
            (λ (t : (0 ≢ other) × (get_elem? mid 0 ≡ some u)). counts_set s.views id v both at refl refl fair.counts u t.1 lives ∙ same ∙ sym long)
            (at_set mid other 0 spent_view u is);
        named = subst (λ (n : ℕ). (place : ℕ) (row : R) → slice_get after place ≡ Some row → NamesBelow law n row) (sym long) fair.named;
        gone = λ place u is k past joined.
            ⊎_elim
            (λ (t : (place ≡ other) × (spent_view ≡ u)). absurd (some-ne-none past (sym (subst (λ (x : View L K R). get_elem? x.joined k ≡ some past) (sym t.1) joined))))
            (λ (t : (place ≢ other) × (get_elem? mid place ≡ some u)).
            gone_joined s.views id other v w at there (theirs.numbered leaves.lives) fair.gone place u (at_set s.views id place both u t.1) k past joined)
            (at_set mid other place spent_view u is);
        lone = λ place u is away.
            ⊎_elim
            (λ (t : (place ≡ other) × (spent_view ≡ u)). sym (ap (λ (x : View L K R). x.joined) t.1))
            (λ (t : (place ≢ other) × (get_elem? mid place ≡ some u)).
            ⊎_elim
            (λ (a : (place ≡ id) × (both ≡ u)). absurd (away (a.0 ∙ zeroth)))
            (λ (a : (place ≢ id) × (get_elem? s.views place ≡ some u)). fair.lone place u a.1 away)
            (at_set s.views id place both u t.1))
            (at_set mid other place spent_view u is);
        kept = λ number below.
            kept_joined s.views id other v w at there zeroth (λ same. apart (same ∙ sym zeroth)) (theirs.numbered leaves.lives) rests.lives number (fair.kept number (subst (λ (n : ℕ). number < n) long below));
      }

  -- what stands at the end
  pub record IsEnded (v : View L K R) (slots : List (Option L)) : Type 0 where
    pub state : L
    pub first : List R
    pub after : List R
    pub there : slots ≡ Some state ∷ []
    pub begins : law.has_rows opening.key.value opening.state.value first
    pub lawful : IsLawful (follows_in law opening) (first ++ after)
    pub rests : IsAtRest law opening (first ++ after) state
    pub named : (place : ℕ) (row : R) → slice_get after place ≡ Some row → NamesBelow law opening.seats row
    pub own : IsPast law first after (past_of v)
    pub past : (place : ℕ) (past : Past R) → get_elem? v.joined place ≡ some past → IsPast law first after past

  -- then nobody has the turn
  all_free : (id : ℕ) (v : View L K R) (s : State (Option L) (View L K R)) (fair : Fair law opening s) → get_elem? s.views id ≡ some v → Rests v → v.number ≡ 0 → HasAll v
      → (place : ℕ) (u : View L K R) → get_elem? s.views place ≡ some u → (b : Bool) → u.turn ≡ b → b ≡ false
  all_free id v s fair at rests first all place u there false turn = refl
  all_free id v s fair at rests first all place u there true turn =
      let zeroth : id ≡ 0 = sym ((fair.each id v at).numbered rests.lives) ∙ first in
      let made : v.made ≡ length s.views = fair.counts v (subst (λ (n : ℕ). get_elem? s.views n ≡ some v) zeroth at) rests.lives in
      let within = at_within s.views place u there in
      dite (ℕ_discrete place id)
      (λ (e : place ≡ id).
      let same : v ≡ u = some-injective v u (sym at ∙ subst (λ (n : ℕ). get_elem? s.views n ≡ some u) e there) in
      absurd (false≢true (sym rests.turn ∙ ap (λ (x : View L K R). x.turn) same ∙ turn)))
      (λ (e : place ≢ id).
      let joined = all place (omega arith) (λ zero. e (zero ∙ sym zeroth)) in
      let gone = fair.gone id v at joined.0 joined.1 joined.2 in
      let spent = gone.1 u (subst (λ (n : ℕ). get_elem? s.views n ≡ some u) (sym joined.3) there) in
      absurd (false≢true (sym ((fair.each place u there).lives turn) ∙ spent)))

  only_slot : (slots : List (Option L)) (x : Option L) → 1 ≡ length slots → get_elem? slots 0 ≡ some x → slots ≡ x ∷ []
  only_slot [] x one is = absurd (omega arith)
  only_slot (y ∷ []) x one is = ap (λ (z : Option L). z ∷ []) (some-injective y x is)
  only_slot (y ∷ z ∷ zs) x one is = absurd (omega arith)

  pub ends : (id : ℕ) (v : View L K R) (words : List ℕ) (slots : List (Option L)) → Rests v → v.number ≡ 0 → HasAll v → Final (Seen (Fair law opening) id v) words slots → IsEnded v slots
  ends id v words slots rests first all final =
      let s = final.0 in
      let fair = final.1.0 in
      let at = final.1.1 in
      let home = fair.home (λ place u there. all_free id v s fair at rests first all place u there u.turn refl) in
      record {
        state = home.state;
        first = fair.first;
        after = fair.after;
        there =
            only_slot slots (Some home.state) (ap length (sym home.there) ∙ final.3)
            (final.4 0 (Some home.state) (ap (λ (l : List (maybe.Option (Option L))). get_elem? l 0) home.there));
        begins = fair.begins;
        lawful = fair.lawful;
        rests = home.rests;
        named = λ place row is. names_more law (length s.views) opening.seats row fair.few.0 (fair.named place row is);
        own = is_past fair.first fair.after fair.next fair.serving id v rests (fair.each id v at);
        past = (fair.each id v at).past;
      }

  -- a seat that is taken in by the first
  pub takes_in : (id : ℕ) (me old : Me (Option L) (View L K R)) (pasts : List (Past R)) (other : ℕ) (seat w : View L K R) → me ≡ (with_pasts pasts old.0, old.1) → Rests old.0 → old.0.number ≡ 0 → seat ≡ w → Rests seat
      → Joins (Fair law opening) id me.0 other w (with_past me.0 w) spent_view
  takes_in id me old pasts other seat w is asked numbered same leaves =
      joins id me.0 other w
      (subst (λ (m : Me (Option L) (View L K R)). Rests m.0) (sym is) (record { lives = asked.lives; waits = asked.waits; turn = asked.turn }))
      (ap (λ (m : Me (Option L) (View L K R)). m.0.number) is ∙ numbered)
      (subst (λ (v : View L K R). Rests v) same leaves)
