-- The seats of a book: how it begins, how it makes seats and takes them back, and how it ends.
use Rattle.std.proofs.Common.{◌≡◌, ◌≢◌, ℕ, zero, suc, ◌+◌, ◌<◌, ◌≤◌, false, List, [], ◌∷◌, ◌++◌, length, set, refl, sym, ap, ◌∙◌, subst, inl, inr, ⊎_elim, arith}
use Rattle.std.proofs.lemmas.Bool.{false≢true}
use Rattle.std.proofs.lemmas.List.{append-nil, length-set, length_push}
use Rattle.std.proofs.lemmas.Option.{none-some}
use Rattle.std.specs.Prelude.{slice_get, Some}
use mathlib.Core.Option.{some, some-injective, some-ne-none}
use mathlib.Core.Logic.{dite}
use native.Mathlib.Decide.{ℕ_discrete}
use lib.ListN.{get_elem?}
use Rattle.atomic_table.specs.Table.{Splits, opening}
use Rattle.atomic_table.proofs.Lists.{at_last, at_longer, at_set}
use Rattle.turn_book.specs.declared.law.Law.{Ghosts}
use Rattle.turn_book.specs.declared.view.Opening.{Opening}
use Rattle.turn_book.specs.declared.view.Past.{Past}
use Rattle.turn_book.specs.declared.view.View.{View}
use Rattle.turn_book.specs.Rested.{Rests}
use Rattle.turn_book.specs.Rows.{IsLawful}
use Rattle.turn_book.specs.Rule.{Fair, Fits, IsAtRest, IsGone, IsKept, NamesBelow, follows_in}
use Rattle.turn_book.specs.Views.{first_view, newcomer, with_seat}
use Rattle.turn_book.proofs.KeptLemmas.{all_gone_set, all_kept_set, lone_set}
use Rattle.turn_book.proofs.LineLemmas.{free_before}
use Rattle.turn_book.proofs.RowLemmas.{names_more, none_own}
use Rattle.turn_book.proofs.ViewLemmas.{AreApart, apart_set, at_end, at_within, each_set, waiting_end, waiting_set}

module _ {L K R M : Type 0} (law : Ghosts L K R M) (opening' : Opening L K) where
  -- what a book owes when it is made
  pub record MayBegin (state : L) (first : List R) : Type 0 where
    pub seats : (1 ≤ opening'.seats) × (opening'.seats ≤ 7)
    pub rows : law.has_rows opening'.key.value opening'.state.value first
    pub lawful : IsLawful (follows_in law opening') first
    pub rests : IsAtRest law opening' first state

  -- the first view, alone
  first_fits : (first : List R) (place : ℕ) (v : View L K R) → get_elem? (first_view {R = R} opening' ∷ []) place ≡ some v → (place ≡ 0) × (first_view opening' ≡ v)
  first_fits first zero v is = (refl, some-injective (first_view opening') v is)
  first_fits first (suc place) v is = absurd (some-ne-none v (sym is))

  pub begins : (state : L) (first : List R) → MayBegin state first → Fair law opening' (opening (0 ∷ 0 ∷ 0 ∷ []) (Some state ∷ []) (first_view {R = R} opening'))
  begins state first may =
      let v : View L K R = first_view opening' in
      record {
        first = first;
        after = [];
        next = 0;
        serving = 0;
        begins = may.rows;
        lawful = subst (IsLawful (follows_in law opening')) (sym (append-nil first)) may.lawful;
        words = refl;
        slot = refl;
        few = (may.seats.0, may.seats.1);
        tickets = refl;
        each = λ place u is.
            (let only = first_fits first place u is in
            subst (λ (x : View L K R). Fits law opening' first [] 0 0 place x) only.1
            (record {
              opened = λ _. refl;
              showed = λ rows told. absurd (none-some rows told);
              numbered = λ _. sym only.0;
              queued = λ waits. absurd (false≢true waits);
              waits = λ turn. absurd (false≢true turn);
              served = λ turn. absurd (false≢true turn);
              sees = λ turn. absurd (false≢true turn);
              lives = λ turn. absurd (false≢true turn);
              saw = (first ++ [], refl);
              owns = λ _. refl;
              past = λ k past joined. absurd (some-ne-none past (sym joined));
            }));
        apart = λ i j u w iu jw. λ _ _ _. (first_fits first i u iu).0 ∙ sym (first_fits first j w jw).0;
        home = λ _. record { state = state; there = refl; rests = subst (λ (rows : List R). IsAtRest law opening' rows state) (sym (append-nil first)) may.rests };
        counts = λ u is _. sym (ap (λ (x : View L K R). x.made) (some-injective v u is));
        named = λ place row is. absurd (none-some row is);
        gone = λ place u is k past joined. absurd (some-ne-none past (sym (subst (λ (x : View L K R). get_elem? x.joined k ≡ some past) (sym (first_fits first place u is).1) joined)));
        lone = λ place u is other. absurd (other (first_fits first place u is).0);
        kept = λ number below.
            (let only : 0 ≡ number = omega arith in inl (v, subst (λ (n : ℕ). get_elem? (v ∷ []) n ≡ some v) only refl, refl));
      }

  -- a seat that was made last fits with the others
  fits_new : (first after : List R) (next serving : ℕ) (v : View L K R) (count : ℕ) → v.made ≡ count → v.opening ≡ Some opening'
      → ((place : ℕ) (row : R) → slice_get after place ≡ Some row → NamesBelow law count row) → Fits law opening' first after next serving count (newcomer v)
  fits_new first after next serving v count made opened named =
      record {
        opened = λ _. opened;
        showed = λ rows told. absurd (none-some rows told);
        numbered = λ _. made;
        queued = λ waits. absurd (false≢true waits);
        waits = λ turn. absurd (false≢true turn);
        served = λ turn. absurd (false≢true turn);
        sees = λ turn. absurd (false≢true turn);
        lives = λ turn. absurd (false≢true turn);
        saw = (first ++ after, refl);
        owns = λ _. sym (none_own law.seat count after named);
        past = λ k past joined. absurd (some-ne-none past (sym joined));
      }

  apart_end : (views : List (View L K R)) (w : View L K R) → AreApart views → w.waits ≡ false → AreApart (views ++ w ∷ [])
  apart_end views w apart isnt i j u x ui xj uw xw same =
      ⊎_elim
      (λ (a : get_elem? views i ≡ some u). ⊎_elim
      (λ (b : get_elem? views j ≡ some x). apart i j u x a b uw xw same)
      (λ (b : (j ≡ length views) × (w ≡ x)). absurd (false≢true (sym isnt ∙ ap (λ (y : View L K R). y.waits) b.1 ∙ xw)))
      (at_end views w j x xj))
      (λ (a : (i ≡ length views) × (w ≡ u)). absurd (false≢true (sym isnt ∙ ap (λ (y : View L K R). y.waits) a.1 ∙ uw)))
      (at_end views w i u ui)

  gone_end : (views : List (View L K R)) (w : View L K R) (past : Past R) → IsGone views past → IsGone (views ++ w ∷ []) past
  gone_end views w past gone = (
    (let more = length_push views w in let below = gone.0 in omega arith),
    (λ u there. ⊎_elim
        (λ (t : get_elem? views past.number ≡ some u). gone.1 u t)
        (λ (t : (past.number ≡ length views) × (w ≡ u)). let below = gone.0 in let same = t.0 in absurd (omega arith))
        (at_end views w past.number u there)),
  )

  kept_end : (views : List (View L K R)) (w : View L K R) (number : ℕ) → IsKept views number → IsKept (views ++ w ∷ []) number
  kept_end views w number kept =
      ⊎_elim
      (λ (t : (u : View L K R) × (get_elem? views number ≡ some u) × (u.spent ≡ false)). inl (t.0, at_longer views (w ∷ []) number t.0 t.1, t.2))
      (λ (t : (u : View L K R) × (k : ℕ) × (past : Past R) × (get_elem? views 0 ≡ some u) × (u.spent ≡ false) × (get_elem? u.joined k ≡ some past) × (past.number ≡ number)).
      inr (t.0, t.1, t.2, at_longer views (w ∷ []) 0 t.0 t.3, t.4, t.5, t.6))
      kept

  counts_end : (views : List (View L K R)) (id : ℕ) (v : View L K R) → get_elem? views id ≡ some v → id ≡ 0 → v.made ≡ length views
      → (u : View L K R) → get_elem? (set views id (with_seat v) ++ newcomer v ∷ []) 0 ≡ some u → u.made ≡ length (set views id (with_seat v) ++ newcomer v ∷ [])
  counts_end views id v at first made u there =
      let long : length (set views id (with_seat v) ++ newcomer v ∷ []) ≡ length views + 1 = length_push (set views id (with_seat v)) (newcomer v) ∙ ap (λ (n : ℕ). n + 1) (length-set views id (with_seat v)) in
      ⊎_elim
      (λ (t : get_elem? (set views id (with_seat v)) 0 ≡ some u). ⊎_elim
      (λ (b : (0 ≡ id) × (with_seat v ≡ u)). sym (ap (λ (x : View L K R). x.made) b.1) ∙ ap (λ (n : ℕ). n + 1) made ∙ sym long)
      (λ (b : (0 ≢ id) × (get_elem? views 0 ≡ some u)). absurd (b.0 (sym first)))
      (at_set views id 0 (with_seat v) u t))
      (λ (t : (0 ≡ length (set views id (with_seat v))) × (newcomer v ≡ u)).
      let within = at_within views id v at in let none = t.0 in let same = length-set views id (with_seat v) in absurd (omega arith))
      (at_end (set views id (with_seat v)) (newcomer v) 0 u there)

  pub splits : (id : ℕ) (v : View L K R) → Rests v → v.number ≡ 0 → v.opening ≡ Some opening' → v.made < opening'.seats → Splits (Fair law opening') id v (with_seat v) (newcomer v)
  splits id v rests first opened room s fair at =
      let fits = fair.each id v at in
      let left : View L K R = with_seat v in
      let new : View L K R = newcomer v in
      let zeroth : id ≡ 0 = sym (fits.numbered rests.lives) ∙ first in
      let made : v.made ≡ length s.views = fair.counts v (subst (λ (n : ℕ). get_elem? s.views n ≡ some v) zeroth at) rests.lives in
      let same : length (set s.views id left) ≡ length s.views = length-set s.views id left in
      let long : length (set s.views id left ++ new ∷ []) ≡ length s.views + 1 = length_push (set s.views id left) new ∙ ap (λ (n : ℕ). n + 1) same in
      record {
        first = fair.first;
        after = fair.after;
        next = fair.next;
        serving = fair.serving;
        begins = fair.begins;
        lawful = fair.lawful;
        words = fair.words;
        slot = fair.slot;
        few = (let few = fair.few in (omega arith, few.1));
        tickets =
            (let total = waiting_set s.views id v left at in let more = waiting_end (set s.views id left) new in let sum = fair.tickets in omega arith);
        each = λ place u there.
            ⊎_elim
            (λ (t : get_elem? (set s.views id left) place ≡ some u).
            each_set (Fits law opening' fair.first fair.after fair.next fair.serving) s.views id left
            (λ j x _ is. fair.each j x is)
            (record {
              opened = fits.opened;
              showed = fits.showed;
              numbered = fits.numbered;
              queued = fits.queued;
              waits = fits.waits;
              served = fits.served;
              sees = fits.sees;
              lives = fits.lives;
              saw = fits.saw;
              owns = fits.owns;
              past = fits.past;
            })
            place u t)
            (λ (t : (place ≡ length (set s.views id left)) × (new ≡ u)).
            subst (λ (n : ℕ). Fits law opening' fair.first fair.after fair.next fair.serving n u) (sym (t.0 ∙ same))
            (subst (λ (x : View L K R). Fits law opening' fair.first fair.after fair.next fair.serving (length s.views) x) t.1
            (fits_new fair.first fair.after fair.next fair.serving v (length s.views) made opened fair.named)))
            (at_end (set s.views id left) new place u there);
        apart =
            apart_end (set s.views id left) new
            (apart_set s.views id left fair.apart (λ waits j u other there uw equal. other (fair.apart j id u v there at uw waits (sym equal))))
            refl;
        home = λ free. fair.home (free_before law opening' s.views id v left at rests.turn (λ place u there. free place u (at_longer (set s.views id left) (new ∷ []) place u there)));
        counts = λ u there _. counts_end s.views id v at zeroth made u there;
        named = λ place row is. names_more law (length s.views) (length (set s.views id left ++ new ∷ [])) row (omega arith) (fair.named place row is);
        gone = λ place u there k past joined.
            ⊎_elim
            (λ (t : get_elem? (set s.views id left) place ≡ some u). gone_end (set s.views id left) new past (all_gone_set s.views id v left at refl refl fair.gone place u t k past joined))
            (λ (t : (place ≡ length (set s.views id left)) × (new ≡ u)). absurd (some-ne-none past (sym (subst (λ (x : View L K R). get_elem? x.joined k ≡ some past) (sym t.1) joined))))
            (at_end (set s.views id left) new place u there);
        lone = λ place u there other.
            ⊎_elim
            (λ (t : get_elem? (set s.views id left) place ≡ some u). lone_set s.views id v left at refl fair.lone place u t other)
            (λ (t : (place ≡ length (set s.views id left)) × (new ≡ u)). sym (ap (λ (x : View L K R). x.joined) t.1))
            (at_end (set s.views id left) new place u there);
        kept = λ number below.
            dite (ℕ_discrete number (length (set s.views id left)))
            (λ (e : number ≡ length (set s.views id left)). inl (new, at_last (set s.views id left) new number (sym e), refl))
            (λ (e : number ≢ length (set s.views id left)).
            kept_end (set s.views id left) new number (all_kept_set s.views id v left at refl refl fair.kept number (omega arith)));
      }
