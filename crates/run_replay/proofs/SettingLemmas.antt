-- What a script sets in a replay.
use Rattle.std.proofs.Common.{◌≡◌, ◌≢◌, ◌⊎◌, ℕ, zero, suc, ◌+◌, ◌<◌, ◌≤◌, ◌&&◌, ◌==◌, ◌%◌, eqb, true, false, if◌then◌else◌, is_some, List, [], ◌∷◌, ◌++◌, length, map, drop, take, ℤ, ◌≤ℤ◌, Option, None, Some, refl, sym, ap, ◌∙◌, subst, inl, inr, arith}
use Rattle.std.specs.List.{slice_get}
use Rattle.std.specs.Option.{option_map}
use Rattle.std.specs.Vec.{with_items}
use Rattle.std.proofs.Math.ListN.{set}
use Rattle.std.proofs.lemmas.Bool.{cases_Bool}
use Rattle.std.proofs.lemmas.List.{length-set}
use Rattle.std.proofs.lemmas.Option.{slice_get-map, slice_get_within}
use Rattle.cluster_sched.specs.declared.fate.Fate.{Fate}
use Rattle.due_set.proofs.SoundLemmas.{at_place as found_at}
use Rattle.due_set.specs.Table.{Table}
use Rattle.history.proofs.Posted.{posted_to}
use Rattle.history.proofs.Standings.{fact_here, fact_there}
use Rattle.history.specs.Book.{PostedLetter, Row, Standing, with_fact}
use Rattle.step_spec.proofs.Lists.{found_in}
use Rattle.replica_core.specs.Replica.{ReplicaState}
use Rattle.script_semantics.specs.Arms.{armed_by}
use Rattle.script_semantics.specs.Commands.{set_by, with_letter, with_mail}
use Rattle.script_semantics.specs.Settling.{cleared}
use Rattle.script_semantics.specs.Situation.{Situation, is_cut}
use Rattle.script_text.specs.declared.command.Command.TheVariants as command
use Rattle.world_law.specs.Book.{posted_as, standing_behind}
use Rattle.world_law.specs.declared.letter.LetterRow.{LetterRow}
use Rattle.run_replay.specs.Quiet.{runs_by_seat}
use Rattle.run_replay.proofs.QuietLemmas.{running_at, stopped_at}
use Rattle.run_replay.specs.Replay.{IsReplayAt, IsSettingOf, armed_of}
use Rattle.run_replay.specs.Settings.{AreReset, ChangesReplay, IsReset}
use Rattle.run_replay.specs.declared.replay.Replay.{Replay}
use Rattle.run_replay.specs.declared.replay.Seat.{Seat}
use Rattle.run_replay.specs.declared.replay.Setting.{Setting}

-- ---- lists

pub set_cases : {X : Type 0} (xs : List X) (i : ℕ) (y : X) (k : ℕ) (x : X) → slice_get (set xs i y) k ≡ Some x → ((k ≡ i) × (x ≡ y)) ⊎ ((k ≢ i) × (slice_get xs k ≡ Some x))
set_cases [] i y k x is = absurd cc
set_cases (z ∷ xs) zero y zero x is = inl (refl, cc)
set_cases (z ∷ xs) zero y (suc k) x is = inr (λ same. omega arith, is)
set_cases (z ∷ xs) (suc i) y zero x is = inr (λ same. omega arith, is)
set_cases (z ∷ xs) (suc i) y (suc k) x is = elim (set_cases xs i y k x is) [
  | inl here ↦ inl (ap suc here.0, here.1)
  | inr there ↦ inr (λ same. there.0 (omega arith), there.1)
]

pub get_set_there : {X : Type 0} (xs : List X) (i : ℕ) (y : X) (k : ℕ) → k ≢ i → slice_get (set xs i y) k ≡ slice_get xs k
get_set_there [] i y k differs = refl
get_set_there (z ∷ xs) zero y zero differs = absurd (differs refl)
get_set_there (z ∷ xs) zero y (suc k) differs = refl
get_set_there (z ∷ xs) (suc i) y zero differs = refl
get_set_there (z ∷ xs) (suc i) y (suc k) differs = get_set_there xs i y k (λ same. differs (ap suc same))

pub some_same : {X : Type 0} (found : Option X) (one other : X) → found ≡ Some one → found ≡ Some other → one ≡ other
some_same found one other a b = cc

-- a list in front of others
take_front : {X : Type 0} (n : ℕ) (xs ys : List X) → n ≡ length xs → take n (xs ++ ys) ≡ xs
take_front zero [] [] is = refl
take_front zero [] (y ∷ ys) is = refl
take_front (suc n) [] ys is = absurd (omega arith)
take_front zero (x ∷ xs) ys is = absurd (omega arith)
take_front (suc n) (x ∷ xs) ys is = ap (λ xs. x ∷ xs) (take_front n xs ys (omega arith))

-- ---- cuts

-- one pair more from whom to whom letters are lost
cut_last : (from to : ℕ) (pairs : List (ℕ × ℕ)) (pair : ℕ × ℕ) → is_cut from to (pairs ++ pair ∷ []) ≡ (if eqb pair.0 from && eqb pair.1 to then true else is_cut from to pairs)
cut_last from to [] pair = refl
cut_last from to (first ∷ pairs) pair = elim (cases_Bool (eqb first.0 from && eqb first.1 to)) [
  | inl is ↦ rw is (elim (cases_Bool (eqb pair.0 from && eqb pair.1 to)) [ inl too ↦ rw too refl | inr isnt ↦ rw isnt refl ])
  | inr isnt ↦ rw isnt (cut_last from to pairs pair)
]

pub cut_pushed : (from to : ℕ) (pairs others : List (ℕ × ℕ)) (pair : ℕ × ℕ) → is_cut from to pairs ≡ is_cut from to others → is_cut from to (pairs ++ pair ∷ []) ≡ is_cut from to (pair ∷ others)
cut_pushed from to pairs others pair same = cut_last from to pairs pair ∙ ap (λ rest. if eqb pair.0 from && eqb pair.1 to then true else rest) same

-- ---- a replay

-- what is set for the replica is as it was
pub record IsSameFor (one other : Situation) (who : ℕ) : Type 0 where
  pub mails : other.mails who ≡ one.mails who
  pub skews : other.skews who ≡ one.skews who
  pub fates : other.fates who ≡ one.fates who
  pub arms : other.arms who ≡ one.arms who

setting_as : (one other : Situation) (who : ℕ) (setting : Setting) → IsSameFor one other who → other.standing ≡ one.standing → other.bases ≡ one.bases → IsSettingOf one who setting → IsSettingOf other who setting
setting_as one other who setting same standing bases is = record {
  mail = is.mail ∙ sym same.mails;
  skew = is.skew ∙ sym same.skews;
  fate = is.fate ∙ sym same.fates;
  waits = is.waits ∙ ap (λ (s : Standing). s.waits who) (sym standing);
  arm = is.arm ∙ sym same.arms;
  area = is.area ∙ ap (λ (count : ℕ → ℕ). count who % 2 == 1) (sym bases);
}

pub replay_set : (table : Table) (rows : List Row) (old new : Replay) (situation other : Situation) → IsReplayAt table rows old situation → new.book ≡ old.book → new.seats ≡ old.seats → new.latest ≡ old.latest
    → length new.settings.items ≡ length old.settings.items → other.standing ≡ situation.standing → other.latest ≡ situation.latest
    → ((from to : ℕ) → is_cut from to new.cuts.items ≡ is_cut from to other.cuts)
    → ((who : ℕ) (next : Setting) → slice_get new.settings.items who ≡ Some next → IsSettingOf other who next) → IsReplayAt table rows new other
replay_set table rows old new situation other is book seats latest count standing last cuts each = record {
  sound = is.sound;
  behind = rw book is.behind;
  rest = rw book is.rest;
  some = rw book is.some;
  few = rw book is.few;
  standing = rw book (standing ∙ is.standing);
  seated = record {
    count = rw (book, seats) is.seated.count;
    seats = rw (book, seats) is.seated.seats;
    set = rw book (count ∙ is.seated.set);
    settings = each;
  };
  cuts = cuts;
  latest = ap (λ minute. minute.0) latest ∙ is.latest ∙ sym last;
  since = subst (λ latest. table.window.from.0 ≤ℤ latest) (sym last) is.since;
}

-- cuts alone
pub cuts_set : (old new : Replay) (change : List (ℕ × ℕ) → List (ℕ × ℕ)) → new.book ≡ old.book → new.seats ≡ old.seats → new.latest ≡ old.latest → new.settings ≡ old.settings
    → ((pairs : List (ℕ × ℕ)) → ((from to : ℕ) → is_cut from to old.cuts.items ≡ is_cut from to pairs) → (from to : ℕ) → is_cut from to new.cuts.items ≡ is_cut from to (change pairs))
    → ChangesReplay (λ situation. record situation { cuts = change situation.cuts }) old new
cuts_set old new change book seats latest settings cuts = λ table rows situation is.
    replay_set table rows old new situation (record situation { cuts = change situation.cuts }) is book seats latest (ap (λ settings. length settings.items) settings) refl refl (cuts situation.cuts is.cuts)
    (λ who next found.
    let there : slice_get old.settings.items who ≡ Some next = ap (λ settings. slice_get settings.items who) (sym settings) ∙ found in
    setting_as situation (record situation { cuts = change situation.cuts }) who next (record { mails = refl; skews = refl; fates = refl; arms = refl }) refl refl (is.seated.settings who next there))

-- a change sets something for one replica alone
pub record SetsFor (who : ℕ) (one other : Situation) : Type 0 where
  pub standing : other.standing ≡ one.standing
  pub latest : other.latest ≡ one.latest
  pub cuts : other.cuts ≡ one.cuts
  pub bases : other.bases ≡ one.bases
  pub others : (k : ℕ) → k ≢ who → IsSameFor one other k

pub one_set : (old new : Replay) (who : ℕ) (setting next : Setting) (change : Situation → Situation) → new.book ≡ old.book → new.seats ≡ old.seats → new.latest ≡ old.latest → new.cuts ≡ old.cuts
    → slice_get old.settings.items who ≡ Some setting → new.settings.items ≡ set old.settings.items who next → ((situation : Situation) → SetsFor who situation (change situation))
    → ((table : Table) (rows : List Row) (situation : Situation) → IsReplayAt table rows old situation → IsSettingOf situation who setting → IsSettingOf (change situation) who next)
    → ChangesReplay change old new
one_set old new who setting next change book seats latest cuts there settings sets mine = λ table rows situation is.
    let here = sets situation in
    replay_set table rows old new situation (change situation) is book seats latest (ap length settings ∙ length-set old.settings.items who next) here.standing here.latest
    (λ from to. ap (λ cuts. is_cut from to cuts.items) cuts ∙ is.cuts from to ∙ ap (is_cut from to) (sym here.cuts))
    (λ k x found. elim (set_cases old.settings.items who next k x (subst (λ settings. slice_get settings k ≡ Some x) settings found)) [
      | inl this ↦ subst (λ k. IsSettingOf (change situation) k x) (sym this.0)
          (subst (λ (x : Setting). IsSettingOf (change situation) who x) (sym this.1) (mine table rows situation is (is.seated.settings who setting there)))
      | inr other ↦ setting_as situation (change situation) k x (here.others k other.0) here.standing here.bases (is.seated.settings k x other.1)
    ])

pub skew_set : (old new : Replay) (who : ℕ) (minutes : ℤ) (setting next : Setting) → new.book ≡ old.book → new.seats ≡ old.seats → new.latest ≡ old.latest → new.cuts ≡ old.cuts
    → slice_get old.settings.items who ≡ Some setting → new.settings.items ≡ set old.settings.items who next → next ≡ record setting { skew = minutes }
    → ChangesReplay (λ situation. record situation { skews = with_fact who minutes situation.skews }) old new
skew_set old new who minutes setting next book seats latest cuts there settings is =
    one_set old new who setting next (λ situation. record situation { skews = with_fact who minutes situation.skews }) book seats latest cuts there settings
    (λ s. record { standing = refl; latest = refl; cuts = refl; bases = refl; others = λ k differs. record { mails = refl; skews = fact_there who minutes s.skews k differs; fates = refl; arms = refl } })
    (λ table rows s at was. rw is (record { mail = was.mail; skew = sym (fact_here who minutes s.skews); fate = was.fate; waits = was.waits; arm = was.arm; area = was.area }))

pub fate_set : (old new : Replay) (who : ℕ) (becomes : Fate) (setting next : Setting) → new.book ≡ old.book → new.seats ≡ old.seats → new.latest ≡ old.latest → new.cuts ≡ old.cuts
    → slice_get old.settings.items who ≡ Some setting → new.settings.items ≡ set old.settings.items who next → next ≡ record setting { fate = becomes }
    → ChangesReplay (λ situation. record situation { fates = with_fact who becomes situation.fates }) old new
fate_set old new who becomes setting next book seats latest cuts there settings is =
    one_set old new who setting next (λ situation. record situation { fates = with_fact who becomes situation.fates }) book seats latest cuts there settings
    (λ s. record { standing = refl; latest = refl; cuts = refl; bases = refl; others = λ k differs. record { mails = refl; skews = refl; fates = fact_there who becomes s.fates k differs; arms = refl } })
    (λ table rows s at was. rw is (record { mail = was.mail; skew = was.skew; fate = sym (fact_here who becomes s.fates); waits = was.waits; arm = was.arm; area = was.area }))

-- ---- mails

pub posted_are : (table : Table) (rows : List Row) (replay : Replay) (situation : Situation) → IsReplayAt table rows replay situation → situation.standing.posted ≡ map posted_as replay.book.letters
posted_are table rows replay situation is = ap (λ (s : Standing). s.posted) is.standing ∙ sym is.behind.letters

-- another mail of one replica
pub mail_put : (old new : Replay) (who : ℕ) (change : List PostedLetter → List ℕ → List ℕ) (setting next : Setting) → new.book ≡ old.book → new.seats ≡ old.seats → new.latest ≡ old.latest → new.cuts ≡ old.cuts
    → slice_get old.settings.items who ≡ Some setting → new.settings.items ≡ set old.settings.items who next → next ≡ record setting { mail = next.mail }
    → next.mail.items ≡ change (map posted_as old.book.letters) setting.mail.items
    → ChangesReplay (λ situation. with_mail who (change situation.standing.posted (situation.mails who)) situation) old new
mail_put old new who change setting next book seats latest cuts there settings is mail =
    one_set old new who setting next (λ situation. with_mail who (change situation.standing.posted (situation.mails who)) situation) book seats latest cuts there settings
    (λ s. record { standing = refl; latest = refl; cuts = refl; bases = refl; others = λ k differs. record { mails = fact_there who (change s.standing.posted (s.mails who)) s.mails k differs; skews = refl; fates = refl; arms = refl } })
    (λ table rows s at was. record {
      mail =
          mail ∙ ap (change (map posted_as old.book.letters)) was.mail ∙ ap (λ posted. change posted (s.mails who)) (sym (posted_are table rows old s at))
          ∙ sym (fact_here who (change s.standing.posted (s.mails who)) s.mails);
      skew = ap (λ (x : Setting). x.skew) is ∙ was.skew;
      fate = ap (λ (x : Setting). x.fate) is ∙ was.fate;
      waits = ap (λ (x : Setting). x.waits) is ∙ was.waits;
      arm = ap (λ (x : Setting). armed_of x.arm) is ∙ was.arm;
      area = ap (λ (x : Setting). x.second_area) is ∙ was.area;
    })

-- ---- who runs

runs_by : (table : Table) (rows : List Row) (replay : Replay) (situation : Situation) (who : ℕ) (seat : Seat) (replica : Option ReplicaState) → IsReplayAt table rows replay situation
    → slice_get replay.seats.items who ≡ Some seat → seat.replica ≡ replica → situation.standing.runs who ≡ is_some replica
runs_by table rows replay situation who seat (Some replica) is there runs =
    let at = running_at table rows replay situation is who seat replica there runs in
    ap (λ (s : Standing). s.runs who) is.standing ∙ ap (λ me. (standing_behind table rows replay.book).runs me) (sym at.me) ∙ at.stands.runs
runs_by table rows replay situation who seat None is there none =
    ap (λ (s : Standing). s.runs who) is.standing ∙ (stopped_at table rows replay situation is who seat there none).stopped

pub seat_runs : (table : Table) (rows : List Row) (replay : Replay) (situation : Situation) (who : ℕ) (seat : Seat) → IsReplayAt table rows replay situation
    → slice_get replay.seats.items who ≡ Some seat → situation.standing.runs who ≡ runs_by_seat seat
seat_runs table rows replay situation who seat is there = runs_by table rows replay situation who seat seat.replica is there refl

-- ---- a letter again

pub found_letter : (table : Table) (rows : List Row) (replay : Replay) (situation : Situation) (number : ℕ) (letter : Option LetterRow) → IsReplayAt table rows replay situation
    → slice_get replay.book.letters number ≡ letter → slice_get situation.standing.posted number ≡ option_map posted_as letter
found_letter table rows replay situation number letter is there =
    ap (λ posted. slice_get posted number) (posted_are table rows replay situation is) ∙ slice_get-map posted_as replay.book.letters number ∙ ap (option_map posted_as) there

-- the addressee of a letter is a replica of the replay
pub addressee : (table : Table) (rows : List Row) (replay : Replay) (situation : Situation) (number : ℕ) (letter : LetterRow) → IsReplayAt table rows replay situation
    → slice_get replay.book.letters number ≡ Some letter → letter.to < replay.book.members
addressee table rows replay situation number letter is there =
    posted_to replay.book.members table rows (posted_as letter) is.behind.legal
    (found_in (standing_behind table rows replay.book).posted number (posted_as letter)
    (ap (λ posted. slice_get posted number) (sym is.behind.letters) ∙ slice_get-map posted_as replay.book.letters number ∙ ap (option_map posted_as) there))

pub again_none : (replay : Replay) (number : ℕ) → slice_get replay.book.letters number ≡ None → ChangesReplay (set_by (command.Again number)) replay replay
again_none replay number none = λ table rows situation is.
    subst (λ found. IsReplayAt table rows replay (with_letter number found situation)) (sym (found_letter table rows replay situation number None is none)) is

pub again_stopped : (replay : Replay) (number : ℕ) (letter : LetterRow) (seat : Seat) → slice_get replay.book.letters number ≡ Some letter
    → slice_get replay.seats.items letter.to ≡ Some seat → runs_by_seat seat ≡ false → ChangesReplay (set_by (command.Again number)) replay replay
again_stopped replay number letter seat there mine stopped = λ table rows situation is.
    let runs : situation.standing.runs letter.to ≡ false = seat_runs table rows replay situation letter.to seat is mine ∙ stopped in
    subst (λ found. IsReplayAt table rows replay (with_letter number found situation)) (sym (found_letter table rows replay situation number (Some letter) is there))
    (subst (λ runs. IsReplayAt table rows replay (if runs then with_mail letter.to (situation.mails letter.to ++ number ∷ []) situation else situation)) (sym runs) is)

pub again_moved : (old new : Replay) (number : ℕ) (letter : LetterRow) (to : ℕ) (seat : Seat) (setting next : Setting) → slice_get old.book.letters number ≡ Some letter → letter.to ≡ to
    → slice_get old.seats.items to ≡ Some seat → runs_by_seat seat ≡ true → new.book ≡ old.book → new.seats ≡ old.seats → new.latest ≡ old.latest → new.cuts ≡ old.cuts
    → slice_get old.settings.items to ≡ Some setting → new.settings.items ≡ set old.settings.items to next → next ≡ record setting { mail = next.mail }
    → next.mail.items ≡ setting.mail.items ++ number ∷ [] → ChangesReplay (set_by (command.Again number)) old new
again_moved old new number letter to seat setting next there goes mine running book seats latest cuts at settings is mail = λ table rows situation here.
    let runs : situation.standing.runs to ≡ true = seat_runs table rows old situation to seat here mine ∙ running in
    subst (λ found. IsReplayAt table rows new (with_letter number found situation)) (sym (found_letter table rows old situation number (Some letter) here there))
    (subst (λ to. IsReplayAt table rows new (if situation.standing.runs to then with_mail to (situation.mails to ++ number ∷ []) situation else situation)) (sym goes)
    (subst (λ runs. IsReplayAt table rows new (if runs then with_mail to (situation.mails to ++ number ∷ []) situation else situation)) (sym runs)
    (mail_put old new to (λ posted mail. mail ++ number ∷ []) setting next book seats latest cuts at settings is mail table rows situation here)))

-- ---- a disk is armed

pub arm_set : (old new : Replay) (who pass image : ℕ) (seat : Seat) (setting next : Setting) → new.book ≡ old.book → new.seats ≡ old.seats → new.latest ≡ old.latest → new.cuts ≡ old.cuts
    → slice_get old.seats.items who ≡ Some seat → runs_by_seat seat ≡ true
    → slice_get old.settings.items who ≡ Some setting → new.settings.items ≡ set old.settings.items who next → next ≡ record setting { arm = Some (record { left = pass; image = image }) }
    → ChangesReplay (armed_by who pass image) old new
arm_set old new who pass image seat setting next book seats latest cuts mine running there settings is = λ table rows situation here.
    let runs : situation.standing.runs who ≡ true = seat_runs table rows old situation who seat here mine ∙ running in
    let armed : armed_by who pass image situation ≡ record situation { arms = with_fact who (Some (record { left = pass; image = image })) situation.arms } = rw runs refl in
    subst (λ (s : Situation). IsReplayAt table rows new s) (sym armed)
    (one_set old new who setting next (λ s. record s { arms = with_fact who (Some (record { left = pass; image = image })) s.arms }) book seats latest cuts there settings
    (λ s. record { standing = refl; latest = refl; cuts = refl; bases = refl; others = λ k differs. record { mails = refl; skews = refl; fates = refl; arms = fact_there who _ s.arms k differs } })
    (λ table rows s at was. rw is (record {
      mail = was.mail;
      skew = was.skew;
      fate = was.fate;
      waits = was.waits;
      arm = sym (fact_here who (Some (record { left = pass; image = image })) s.arms);
      area = was.area;
    })) table rows situation here)

pub arm_none : (replay : Replay) (who pass image : ℕ) (seat : Seat) → slice_get replay.seats.items who ≡ Some seat → runs_by_seat seat ≡ false → ChangesReplay (armed_by who pass image) replay replay
arm_none replay who pass image seat mine stopped = λ table rows situation here.
    let runs : situation.standing.runs who ≡ false = seat_runs table rows replay situation who seat here mine ∙ stopped in
    let unarmed : armed_by who pass image situation ≡ situation = rw runs refl in
    subst (λ (s : Situation). IsReplayAt table rows replay s) (sym unarmed) here

-- ---- faults end

-- those of the first replicas have ended
pub record HasClearedTo (index : ℕ) (old new : List Setting) : Type 0 where
  pub count : length new ≡ length old
  pub done : (who : ℕ) (one two : Setting) → who < index → slice_get old who ≡ Some one → slice_get new who ≡ Some two → IsReset one two
  pub rest : (who : ℕ) → index ≤ who → slice_get new who ≡ slice_get old who

pub cleared_next : (index : ℕ) (old now : List Setting) (setting next : Setting) → HasClearedTo index old now → slice_get now index ≡ Some setting → IsReset setting next
    → HasClearedTo (index + 1) old (set now index next)
cleared_next index old now setting next so_far there clears = record {
  count = length-set now index next ∙ so_far.count;
  done = λ who one two below first second. elim (set_cases now index next who two second) [
    | inl here ↦
        let was : one ≡ setting = some_same (slice_get old index) one setting (subst (λ k. slice_get old k ≡ Some one) here.0 first) (sym (so_far.rest index (omega arith)) ∙ there) in
        subst (λ two. IsReset one two) (sym here.1) (subst (λ m. IsReset m next) (sym was) clears)
    | inr other ↦ let less : who < index = (let differs : who ≢ index = other.0 in omega arith) in so_far.done who one two less first other.1
  ];
  rest = λ who above. let differs : who ≢ index = λ same. omega arith in get_set_there now index next who differs ∙ so_far.rest who (omega arith);
}

pub all_cleared : (index : ℕ) (old now : List Setting) → index ≡ length old → HasClearedTo index old now → AreReset old now
all_cleared index old now whole so_far = record {
  count = so_far.count;
  each = λ who one two first second. so_far.done who one two (let within : who < length old = slice_get_within old who one first in omega arith) first second;
}

-- a list that takes the place of a vector's has its items
pub cleared_held : (replay : Replay) (now : List Setting) → AreReset replay.settings.items now → AreReset replay.settings.items (with_items replay.settings now).items
cleared_held replay now all =
    subst (λ now. AreReset replay.settings.items now)
    (sym (take_front replay.settings.len now (drop (length now) replay.settings.items) (replay.settings.ok.0 ∙ sym all.count))) all

pub replay_cleared : (old new : Replay) → new.book ≡ old.book → new.seats ≡ old.seats → new.latest ≡ old.latest → new.cuts.items ≡ [] → AreReset old.settings.items new.settings.items → ChangesReplay cleared old new
replay_cleared old new book seats latest cuts settings = λ table rows situation is.
    replay_set table rows old new situation (cleared situation) is book seats latest settings.count refl refl (λ from to. ap (is_cut from to) cuts)
    (λ who next found.
    let below : who < length new.settings.items = slice_get_within new.settings.items who next found in
    let count = settings.count in
    let was = found_at old.settings.items who (omega (arith, below, count)) in
    let clears = settings.each who was.0 next was.1 found in
    let set = is.seated.settings who was.0 was.1 in
    record {
      mail = clears.mail;
      skew = clears.skew;
      fate = clears.fate;
      waits = clears.waits ∙ set.waits;
      arm = ap armed_of clears.arm;
      area = clears.area ∙ set.area;
    })
