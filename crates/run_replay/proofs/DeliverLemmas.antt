-- Letters join the mails of a replay.
use Rattle.std.proofs.Common.{◌≡◌, ◌≢◌, ◌⊎◌, ℕ, ◌+◌, ◌-◌, ◌<◌, ◌≤◌, Bool, true, false, eqb, not, ◌&&◌, if◌then◌else◌, List, [], ◌∷◌, ◌++◌, length, Some, eq-eqb, refl, sym, ap, ◌∙◌, subst, inl, inr, arith, append_assoc, append-nil as append_nil}
use Rattle.std.specs.List.{filter, range_with_len, slice_get}
use Rattle.std.proofs.Math.ListN.{set}
use Rattle.std.proofs.lemmas.List.{length-set, length-map}
use Rattle.std.proofs.lemmas.Bool.{cases_Bool, ne_eqb, cases_eq}
use Rattle.cron_io.proofs.ListLemmas.{range_more}
use Rattle.due_set.specs.Table.{Table}
use Rattle.history.specs.Book.{Row}
use Rattle.script_semantics.specs.Situation.{Situation, delivered, is_cut, reaches}
use Rattle.world_law.specs.Book.{posted_as}
use Rattle.world_law.specs.declared.letter.LetterRow.{LetterRow}
use Rattle.run_replay.proofs.SettingLemmas.{found_letter, posted_are, replay_set, seat_runs, set_cases}
use Rattle.run_replay.specs.Delivered.{mail_arrival, letter_arrived}
use Rattle.run_replay.specs.Quiet.{runs_by_seat}
use Rattle.run_replay.specs.Replay.{IsInSituation, IsReplayAt, IsSettingOf, armed_of}
use Rattle.run_replay.specs.Settings.{ChangesReplay}
use Rattle.run_replay.specs.declared.replay.Replay.{Replay}
use Rattle.run_replay.specs.declared.replay.Seat.{Seat}
use Rattle.run_replay.specs.declared.replay.Setting.{Setting}

-- whether a letter reaches a replica
abbrev arrival_by : (number to who : ℕ) → (runs cut : Bool) → List ℕ
arrival_by number to who runs cut = if eqb to who && (runs && not cut) then number ∷ [] else []

and_false : (b : Bool) → (b && false) ≡ false
and_false true = refl
and_false false = refl

by_cut : (number to who : ℕ) (runs cut : Bool) → cut ≡ true → arrival_by number to who runs cut ≡ []
by_cut number to who runs cut is = rw (is, and_false runs, and_false (eqb to who)) refl

by_stopped : (number to who : ℕ) (runs cut : Bool) → runs ≡ false → arrival_by number to who runs cut ≡ []
by_stopped number to who runs cut is = rw (is, and_false (eqb to who)) refl

by_other : (number to who : ℕ) (runs cut : Bool) → to ≢ who → arrival_by number to who runs cut ≡ []
by_other number to who runs cut differs = rw (ne_eqb to who differs) refl

by_reaching : (number to who : ℕ) (runs cut : Bool) → to ≡ who → runs ≡ true → cut ≡ false → arrival_by number to who runs cut ≡ number ∷ []
by_reaching number to who runs cut same running whole = rw (same, eq-eqb who who refl, running, whole) refl

-- ---- mails alone

setting_mail : (situation : Situation) (mails : ℕ → List ℕ) (who : ℕ) (old new : Setting) → IsSettingOf situation who old → new ≡ record old { mail = new.mail } → new.mail.items ≡ mails who
    → IsSettingOf (record situation { mails = mails }) who new
setting_mail situation mails who old new is same mail = record {
  mail = mail;
  skew = ap (λ (x : Setting). x.skew) same ∙ is.skew;
  fate = ap (λ (x : Setting). x.fate) same ∙ is.fate;
  waits = ap (λ (x : Setting). x.waits) same ∙ is.waits;
  arm = ap (λ (x : Setting). armed_of x.arm) same ∙ is.arm;
  area = ap (λ (x : Setting). x.second_area) same ∙ is.area;
}

mails_set : (table : Table) (rows : List Row) (old new : Replay) (situation : Situation) (mails : ℕ → List ℕ) → IsReplayAt table rows old situation → new.book ≡ old.book → new.seats ≡ old.seats → new.latest ≡ old.latest
    → new.cuts ≡ old.cuts → length new.settings.items ≡ length old.settings.items
    → ((who : ℕ) (next : Setting) → slice_get new.settings.items who ≡ Some next → IsSettingOf (record situation { mails = mails }) who next) → IsReplayAt table rows new (record situation { mails = mails })
mails_set table rows old new situation mails is book seats latest cuts count each =
    replay_set table rows old new situation (record situation { mails = mails }) is book seats latest count refl refl (λ from to. ap (λ cuts. is_cut from to cuts.items) cuts ∙ is.cuts from to) each

-- a situation with the same mails, each by each
same_mails : (table : Table) (rows : List Row) (replay : Replay) (situation : Situation) (mails : ℕ → List ℕ) → ((who : ℕ) → situation.mails who ≡ mails who)
    → IsReplayAt table rows replay situation → IsReplayAt table rows replay (record situation { mails = mails })
same_mails table rows replay situation mails same is =
    mails_set table rows replay replay situation mails is refl refl refl refl refl
    (λ who setting found. let was = is.seated.settings who setting found in setting_mail situation mails who setting setting was refl (was.mail ∙ same who))

-- ---- one letter

arrival_is : (table : Table) (rows : List Row) (replay : Replay) (situation : Situation) (number : ℕ) (letter : LetterRow) (who : ℕ) → IsReplayAt table rows replay situation
    → slice_get replay.book.letters number ≡ Some letter
    → mail_arrival situation number who ≡ arrival_by number letter.to who (situation.standing.runs who) (is_cut letter.from letter.to replay.cuts.items)
arrival_is table rows replay situation number letter who is there =
    ap (λ found. if reaches situation who found then number ∷ [] else []) (found_letter table rows replay situation number (Some letter) is there)
    ∙ ap (λ cut. arrival_by number letter.to who (situation.standing.runs who) cut) (sym (is.cuts letter.from letter.to))

-- the letter reaches nobody
unmoved : (table : Table) (rows : List Row) (replay : Replay) (situation : Situation) (number : ℕ) → IsReplayAt table rows replay situation → ((who : ℕ) → mail_arrival situation number who ≡ [])
    → IsReplayAt table rows replay (letter_arrived number situation)
unmoved table rows replay situation number is none =
    same_mails table rows replay situation (λ who. situation.mails who ++ mail_arrival situation number who)
    (λ who. sym (append_nil (situation.mails who)) ∙ ap (λ more. situation.mails who ++ more) (sym (none who))) is

-- it is lost
pub lost : (replay : Replay) (number : ℕ) (letter : LetterRow) → slice_get replay.book.letters number ≡ Some letter → is_cut letter.from letter.to replay.cuts.items ≡ true → ChangesReplay (letter_arrived number) replay replay
lost replay number letter there cut = λ table rows situation is.
    unmoved table rows replay situation number is
    (λ who. arrival_is table rows replay situation number letter who is there
    ∙ by_cut number letter.to who (situation.standing.runs who) (is_cut letter.from letter.to replay.cuts.items) cut)

-- its addressee is stopped
pub unheard : (replay : Replay) (number : ℕ) (letter : LetterRow) (seat : Seat) → slice_get replay.book.letters number ≡ Some letter → slice_get replay.seats.items letter.to ≡ Some seat → runs_by_seat seat ≡ false
    → ChangesReplay (letter_arrived number) replay replay
unheard replay number letter seat there mine stopped = λ table rows situation is.
    let cut = is_cut letter.from letter.to replay.cuts.items in
    unmoved table rows replay situation number is
    (λ who. arrival_is table rows replay situation number letter who is there
    ∙ elim (cases_eq letter.to who) [
      | inl here ↦ by_stopped number letter.to who (situation.standing.runs who) cut
          (ap situation.standing.runs (sym here) ∙ seat_runs table rows replay situation letter.to seat is mine ∙ stopped)
      | inr other ↦ by_other number letter.to who (situation.standing.runs who) cut other
    ])

-- it joins the mail of its addressee
pub moved : (old new : Replay) (number : ℕ) (letter : LetterRow) (seat : Seat) (setting next : Setting) → slice_get old.book.letters number ≡ Some letter → is_cut letter.from letter.to old.cuts.items ≡ false
    → slice_get old.seats.items letter.to ≡ Some seat → runs_by_seat seat ≡ true → slice_get old.settings.items letter.to ≡ Some setting → new.book ≡ old.book → new.seats ≡ old.seats → new.latest ≡ old.latest
    → new.cuts ≡ old.cuts → new.settings.items ≡ set old.settings.items letter.to next → next ≡ record setting { mail = next.mail } → next.mail.items ≡ setting.mail.items ++ number ∷ [] → ChangesReplay (letter_arrived number) old new
moved old new number letter seat setting next there whole mine runs here book seats latest cuts settings same mail = λ table rows situation is.
    let mails : ℕ → List ℕ = λ who. situation.mails who ++ mail_arrival situation number who in
    let cut = is_cut letter.from letter.to old.cuts.items in
    mails_set table rows old new situation mails is book seats latest cuts (ap length settings ∙ length-set old.settings.items letter.to next)
    (λ who x found. elim (set_cases old.settings.items letter.to next who x (subst (λ l. slice_get l who ≡ Some x) settings found)) [
      | inl this ↦
          let was = is.seated.settings letter.to setting here in
          let arrives : mail_arrival situation number letter.to ≡ number ∷ [] =
          arrival_is table rows old situation number letter letter.to is there
          ∙ by_reaching number letter.to letter.to (situation.standing.runs letter.to) cut refl (seat_runs table rows old situation letter.to seat is mine ∙ runs) whole in
          subst (λ k. IsSettingOf (record situation { mails = mails }) k x) (sym this.0)
          (subst (λ (y : Setting). IsSettingOf (record situation { mails = mails }) letter.to y) (sym this.1)
          (setting_mail situation mails letter.to setting next was same
          (mail ∙ ap (λ front. front ++ number ∷ []) was.mail ∙ ap (λ more. situation.mails letter.to ++ more) (sym arrives))))
      | inr other ↦
          let was = is.seated.settings who x other.1 in
          let none : mail_arrival situation number who ≡ [] =
          arrival_is table rows old situation number letter who is there ∙ by_other number letter.to who (situation.standing.runs who) cut (λ same. other.0 (sym same)) in
          setting_mail situation mails who x x was refl
          (was.mail ∙ sym (append_nil (situation.mails who)) ∙ ap (λ more. situation.mails who ++ more) (sym none))
    ])

-- ---- all letters from a number on

-- the letters from a number on have joined the mails, up to another
abbrev delivered_to : (first number : ℕ) → Situation → Situation
delivered_to first number situation =
    record situation { mails = λ who. situation.mails who ++ filter (λ k. reaches situation who (slice_get situation.standing.posted k)) (range_with_len first (number - first)) }

filter_next : (test : ℕ → Bool) (xs : List ℕ) (x : ℕ) → filter test (xs ++ x ∷ []) ≡ filter test xs ++ (if test x then x ∷ [] else [])
filter_next test [] x = elim (cases_Bool (test x)) [ inl is ↦ rw is refl | inr isnt ↦ rw isnt refl ]
filter_next test (y ∷ xs) x = elim (cases_Bool (test y)) [ inl is ↦ rw is (ap (λ more. y ∷ more) (filter_next test xs x)) | inr isnt ↦ rw isnt (filter_next test xs x) ]

-- the letters so far have joined the mails
pub record HasDelivered (first number : ℕ) (old new : Replay) : Type 0 where
  pub changes : first ≤ number → ChangesReplay (delivered_to first number) old new
  pub book : new.book ≡ old.book
  pub reach : (number ≡ first) ⊎ (number ≤ length old.book.letters)

pub delivered_none : (first : ℕ) (replay : Replay) → HasDelivered first first replay replay
delivered_none first replay = record {
  changes = λ up table rows situation is.
      same_mails table rows replay situation _ (λ who. let e : first - first ≡ 0 = omega arith in rw e (sym (append_nil (situation.mails who)))) is;
  book = refl;
  reach = inl refl;
}

pub delivered_next : (first number : ℕ) (old now new : Replay) → first ≤ number → number < length old.book.letters → HasDelivered first number old now → ChangesReplay (letter_arrived number) now new
    → new.book ≡ now.book → HasDelivered first (number + 1) old new
delivered_next first number old now new up below delivered arrives book = record {
  changes = λ up_too table rows situation is.
      same_mails table rows new (letter_arrived number (delivered_to first number situation)) _
      (λ who.
      append_assoc (situation.mails who) (filter (reached situation who) (range_with_len first (number - first))) (mail_arrival situation number who)
      ∙ ap (λ more. situation.mails who ++ more)
      (sym (filter_next (reached situation who) (range_with_len first (number - first)) number)
      ∙ ap (filter (reached situation who)) (sym (let e : number + 1 - first ≡ (number - first) + 1 = omega arith in
      let f : first + (number - first) ≡ number = omega arith in
      ap (range_with_len first) e ∙ range_more first (number - first) (first + (number - first)) refl ∙ ap (λ n. range_with_len first (number - first) ++ n ∷ []) f))))
      (arrives table rows (delivered_to first number situation) (delivered.changes up table rows situation is));
  book = book ∙ delivered.book;
  reach = inr (omega arith);
}
  where
    reached : Situation → ℕ → ℕ → Bool
    reached situation who k = reaches situation who (slice_get situation.standing.posted k)

ends : (first number total : ℕ) → (number ≡ first) ⊎ (number ≤ total) → total ≤ number → number - first ≡ total - first
ends first number total (inl none) past = omega arith
ends first number total (inr some) past = omega arith

pub delivered_all : (first number : ℕ) (old new : Replay) → length old.book.letters ≤ number → HasDelivered first number old new → first ≤ number → ChangesReplay (delivered first) old new
delivered_all first number old new past delivered up = λ table rows situation is.
    same_mails table rows new (delivered_to first number situation) _
    (λ who. ap (λ (n : ℕ). situation.mails who ++ filter (λ k. reaches situation who (slice_get situation.standing.posted k)) (range_with_len first n))
    (ends first number (length old.book.letters) delivered.reach past
    ∙ ap (λ (n : ℕ). n - first) (sym (ap length (posted_are table rows old situation is) ∙ length-map old.book.letters posted_as))))
    (delivered.changes up table rows situation is)

pub still_ready : (first number : ℕ) (table : Table) (old now : Replay) → first ≤ number → HasDelivered first number old now → IsInSituation table old → IsInSituation table now
still_ready first number table old now up delivered ready =
    record { rows = ready.rows; situation = delivered_to first number ready.situation; is = delivered.changes up table ready.rows ready.situation ready.is }
