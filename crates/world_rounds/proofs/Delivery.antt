-- Letters join the mails of a world.
use Rattle.std.proofs.Common.{◌≡◌, ◌≢◌, ◌⊎◌, ℕ, ◌+◌, ◌-◌, ◌<◌, ◌≤◌, Bool, true, false, eqb, not, ◌&&◌, if◌then◌else◌, List, [], ◌∷◌, ◌++◌, length, Some, eq-eqb, refl, sym, ap, ◌∙◌, subst, inl, inr, arith, append_assoc}
use Rattle.std.proofs.Common.{append-nil as append_nil}
use Rattle.std.specs.List.{Contains, filter, range_with_len, slice_get}
use Rattle.std.proofs.Math.ListN.{set}
use Rattle.std.proofs.lemmas.List.{length-map, length-set}
use Rattle.std.proofs.lemmas.Bool.{cases_Bool, ne_eqb, cases_eq}
use Rattle.disk_model.specs.View.{DiskView}
use Rattle.due_set.specs.Table.{Table}
use Rattle.step_spec.proofs.Lists.{found_in}
use Rattle.history.specs.Book.{Row, Standing}
use Rattle.history.proofs.Posted.{posted_to}
use Rattle.due_set.proofs.Rising.{Contains-cases as cons_cases, Contains-head as in_first, Contains-tail as in_rest}
use Rattle.script_semantics.specs.Situation.{Situation, delivered, is_cut, reaches}
use Rattle.world_law.specs.Book.{BookState, posted_as, standing_behind}
use Rattle.world_law.specs.declared.letter.LetterRow.{LetterRow}
use Rattle.world_rounds.proofs.Worlds.{set_cases}
use Rattle.world_rounds.specs.Mails.{Changes, arrival_of, arrived}
use Rattle.world_steps.specs.Parts.{IsSentTo, armed_in}
use Rattle.script_text.specs.Command.{IsSkew}
use Rattle.world_steps.specs.Parts.{IsMailOf}
use Rattle.world_rounds.specs.World.{IsMemberAhead, IsWorld, IsWorldAt}
use Rattle.world_steps.specs.declared.mail.MemberMail.{MemberMail}
use Rattle.world_rounds.specs.declared.member.Member.{Member}
use Rattle.world_rounds.specs.declared.world.World.{World}
use Rattle.world_law.proofs.Steps.{posted_at}
use Rattle.cron_io.proofs.ListLemmas.{range_more}

-- whether a letter reaches a replica
abbrev arrival_by : (number to who : ℕ) → (runs cut : Bool) → List ℕ
arrival_by number to who runs cut = if eqb to who && (runs && not cut) then number ∷ [] else []

and_false : (b : Bool) → (b && false) ≡ false
and_false true = refl
and_false false = refl

pub by_cut : (number to who : ℕ) (runs cut : Bool) → cut ≡ true → arrival_by number to who runs cut ≡ []
by_cut number to who runs cut is = rw (is, and_false runs, and_false (eqb to who)) refl

pub by_stopped : (number to who : ℕ) (runs cut : Bool) → runs ≡ false → arrival_by number to who runs cut ≡ []
by_stopped number to who runs cut is = rw (is, and_false (eqb to who)) refl

pub by_other : (number to who : ℕ) (runs cut : Bool) → to ≢ who → arrival_by number to who runs cut ≡ []
by_other number to who runs cut differs = rw (ne_eqb to who differs) refl

by_reaching : (number to who : ℕ) (runs cut : Bool) → to ≡ who → runs ≡ true → cut ≡ false → arrival_by number to who runs cut ≡ number ∷ []
by_reaching number to who runs cut same running whole = rw (same, eq-eqb who who refl, running, whole) refl

in_more : {X : Type 0} (xs : List X) (y x : X) → Contains (xs ++ y ∷ []) x → Contains xs x ⊎ (y ≡ x)
in_more [] y x has = elim (cons_cases y [] x has) [ inl same ↦ inr same | inr none ↦ inl none ]
in_more (z ∷ xs) y x has = elim (cons_cases z (xs ++ y ∷ []) x has) [
  | inl same ↦ inl (subst (λ z. Contains (z ∷ xs) x) (sym same) (in_first x xs))
  | inr later ↦ elim (in_more xs y x later) [ inl old ↦ inl (in_rest z xs x old) | inr new ↦ inr new ]
]

module _ {D : Type 0} (view : DiskView D) (table : Table) where
  pub arrival_is : (rows : List Row) (world : World D) (situation : Situation) (number : ℕ) (letter : LetterRow) (who : ℕ) → IsWorldAt view table rows world situation
      → slice_get world.book.letters number ≡ Some letter
      → arrival_of situation number who ≡ arrival_by number letter.to who (situation.standing.runs who) (is_cut letter.from letter.to world.cuts.items)
  arrival_is rows world situation number letter who is there =
      ap (λ found. if reaches situation who found then number ∷ [] else [])
      (ap (λ (s : Standing). slice_get s.posted number) is.ahead.at.standing ∙ posted_at table rows world.book number letter is.ahead.at.behind there)
      ∙ ap (λ cut. arrival_by number letter.to who (situation.standing.runs who) cut) (sym (is.ahead.cuts letter.from letter.to))

  -- the addressee of a letter is a replica of the world
  pub addressee : (rows : List Row) (world : World D) (situation : Situation) (number : ℕ) (letter : LetterRow) → IsWorldAt view table rows world situation
      → slice_get world.book.letters number ≡ Some letter → letter.to < length world.members.items
  addressee rows world situation number letter is there =
      rw is.ahead.count
      (posted_to world.book.members table rows (posted_as letter) is.ahead.at.behind.legal
      (found_in (standing_behind table rows world.book).posted number (posted_as letter) (posted_at table rows world.book number letter is.ahead.at.behind there)))

  -- an addressee that is stopped gets no letter, nor do others
  pub none_arrives : (rows : List Row) (world : World D) (situation : Situation) (number : ℕ) (letter : LetterRow) (addressed : Member D) (who : ℕ) → IsWorldAt view table rows world situation
      → slice_get world.book.letters number ≡ Some letter → slice_get world.members.items letter.to ≡ Some addressed → addressed.mail.runs ≡ false → arrival_of situation number who ≡ []
  none_arrives rows world situation number letter addressed who is there mine stopped =
      arrival_is rows world situation number letter who is there ∙ elim (cases_eq letter.to who) [
        | inl here ↦ by_stopped number letter.to who (situation.standing.runs who) (is_cut letter.from letter.to world.cuts.items)
            (ap situation.standing.runs (sym here) ∙ sym (is.ahead.each letter.to addressed mine).mail.runs ∙ stopped)
        | inr other ↦ by_other number letter.to who (situation.standing.runs who) (is_cut letter.from letter.to world.cuts.items) other
      ]

  -- a mail with what has arrived
  mail_more : (letters : List LetterRow) (situation : Situation) (number who : ℕ) (more : List ℕ) (old new : MemberMail) → IsMailOf letters situation who [] old → arrival_of situation number who ≡ more
      → new.letters.items ≡ old.letters.items ++ more → new.runs ≡ old.runs → new.skew ≡ old.skew → new.fate ≡ old.fate → new.waits ≡ old.waits → new.arm ≡ old.arm
      → ((number : ℕ) → Contains new.letters.items number → IsSentTo letters who number) → IsMailOf letters (arrived number situation) who [] new
  mail_more letters situation number who more old new mail arrives items runs skew fate waits arm sent = record {
    runs = runs ∙ mail.runs;
    letters_are = ap (λ more. situation.mails who ++ more) arrives ∙ ap (λ front. front ++ more) mail.letters_are ∙ sym items;
    skew = skew ∙ mail.skew;
    small = subst IsSkew (sym skew) mail.small;
    fate = fate ∙ mail.fate;
    waits = waits ∙ mail.waits;
    arm = ap armed_in arm ∙ mail.arm;
    sent = sent;
  }

  same_mail : (letters : List LetterRow) (situation : Situation) (number who : ℕ) (mail : MemberMail) → IsMailOf letters situation who [] mail → arrival_of situation number who ≡ []
      → IsMailOf letters (arrived number situation) who [] mail
  same_mail letters situation number who mail is none =
      mail_more letters situation number who [] mail mail is none (sym (append_nil mail.letters.items)) refl refl refl refl refl is.sent

  member_same : (rows : List Row) (book : BookState) (situation : Situation) (number who : ℕ) (member : Member D) → IsMemberAhead view table rows book situation who [] member
      → arrival_of situation number who ≡ [] → IsMemberAhead view table rows book (arrived number situation) who [] member
  member_same rows book situation number who member is none =
      record { mail = same_mail book.letters situation number who member.mail is.mail none; running = is.running; stopped = is.stopped }

  -- the letter reaches nobody
  pub unmoved : (rows : List Row) (world : World D) (situation : Situation) (number : ℕ) → IsWorldAt view table rows world situation
      → ((who : ℕ) (member : Member D) → slice_get world.members.items who ≡ Some member → arrival_of situation number who ≡ [])
      → IsWorldAt view table rows world (arrived number situation)
  unmoved rows world situation number is none = record {
    ahead = record {
      at = record { sound = is.ahead.at.sound; behind = is.ahead.at.behind; rest = is.ahead.at.rest; few = is.ahead.at.few; standing = is.ahead.at.standing; since = is.ahead.at.since; bases = is.ahead.at.bases };
      count = is.ahead.count;
      each = λ who member found. member_same rows world.book situation number who member (is.ahead.each who member found) (none who member found);
      cuts = is.ahead.cuts;
      latest = is.ahead.latest;
    };
    idle = is.idle;
  }

  -- the letter joins the mail of its addressee
  pub moved : (rows : List Row) (world after : World D) (situation : Situation) (number : ℕ) (letter : LetterRow) (member next : Member D) → IsWorldAt view table rows world situation
      → slice_get world.book.letters number ≡ Some letter → slice_get world.members.items letter.to ≡ Some member → is_cut letter.from letter.to world.cuts.items ≡ false → member.mail.runs ≡ true
      → after.book ≡ world.book → after.members.items ≡ set world.members.items letter.to next → after.cuts ≡ world.cuts → after.latest ≡ world.latest
      → next.node ≡ member.node → next.steps ≡ member.steps → next.mail.letters.items ≡ member.mail.letters.items ++ number ∷ [] → next.mail.runs ≡ member.mail.runs → next.mail.skew ≡ member.mail.skew
      → next.mail.fate ≡ member.mail.fate → next.mail.waits ≡ member.mail.waits → next.mail.arm ≡ member.mail.arm → IsWorldAt view table rows after (arrived number situation)
  moved rows world after situation number letter member next is there mine whole runs book members cuts latest node steps letters running skew fate waits arm = record {
    ahead = record {
      at = record { sound = is.ahead.at.sound; behind = rw book is.ahead.at.behind; rest = rw book is.ahead.at.rest; few = rw book is.ahead.at.few; standing = rw book is.ahead.at.standing; since = is.ahead.at.since; bases = rw book is.ahead.at.bases };
      count = rw book (ap length members ∙ length-set world.members.items letter.to next ∙ is.ahead.count);
      each = λ who x found. rw book (elim (set_cases world.members.items letter.to next who x (subst (λ members. slice_get members who ≡ Some x) members found)) [
        | inl here ↦ subst (λ w. IsMemberAhead view table rows world.book (arrived number situation) w [] x) (sym here.0)
            (subst (λ x. IsMemberAhead view table rows world.book (arrived number situation) letter.to [] x) (sym here.1) mine_moved)
        | inr other ↦ member_same rows world.book situation number who x (is.ahead.each who x other.1)
            (arrival_is rows world situation number letter who is there ∙ by_other number letter.to who (situation.standing.runs who) (is_cut letter.from letter.to world.cuts.items) (λ same. other.0 (sym same)))
      ]);
      cuts = λ from to. ap (λ cuts. is_cut from to cuts.items) cuts ∙ is.ahead.cuts from to;
      latest = ap (λ minute. minute.0) latest ∙ is.ahead.latest;
    };
    idle = λ who x found. elim (set_cases world.members.items letter.to next who x (subst (λ members. slice_get members who ≡ Some x) members found)) [
      | inl here ↦ ap (λ (x : Member D). x.steps.items) here.1 ∙ ap (λ steps. steps.items) steps ∙ is.idle letter.to member mine
      | inr other ↦ is.idle who x other.1
    ];
  }
    where
      was : IsMemberAhead view table rows world.book situation letter.to [] member
      was = is.ahead.each letter.to member mine

      arrives : arrival_of situation number letter.to ≡ number ∷ []
      arrives =
          arrival_is rows world situation number letter letter.to is there
          ∙ by_reaching number letter.to letter.to (situation.standing.runs letter.to) (is_cut letter.from letter.to world.cuts.items) refl (sym was.mail.runs ∙ runs) whole

      sent : (n : ℕ) → Contains next.mail.letters.items n → IsSentTo world.book.letters letter.to n
      sent n has = elim (in_more member.mail.letters.items number n (subst (λ items. Contains items n) letters has)) [
        | inl old ↦ was.mail.sent n old
        | inr new ↦ subst (λ n. IsSentTo world.book.letters letter.to n) new (record { letter = letter; there = there; to = refl })
      ]

      mine_moved : IsMemberAhead view table rows world.book (arrived number situation) letter.to [] next
      mine_moved = record {
        mail = mail_more world.book.letters situation number letter.to (number ∷ []) member.mail next.mail was.mail arrives letters running skew fate waits arm sent;
        running = rw node was.running;
        stopped = rw node was.stopped;
      }

-- ---- all letters from a number on

-- the letters from a number on have joined the mails, up to another
abbrev pub delivered_to : (first number : ℕ) → Situation → Situation
delivered_to first number situation =
    record situation { mails = λ who. situation.mails who ++ filter (λ k. reaches situation who (slice_get situation.standing.posted k)) (range_with_len first (number - first)) }

filter_next : (test : ℕ → Bool) (xs : List ℕ) (x : ℕ) → filter test (xs ++ x ∷ []) ≡ filter test xs ++ (if test x then x ∷ [] else [])
filter_next test [] x = elim (cases_Bool (test x)) [ inl is ↦ rw is refl | inr isnt ↦ rw isnt refl ]
filter_next test (y ∷ xs) x = elim (cases_Bool (test y)) [ inl is ↦ rw is (ap (λ more. y ∷ more) (filter_next test xs x)) | inr isnt ↦ rw isnt (filter_next test xs x) ]

module _ {D : Type 0} (view : DiskView D) where
  mail_like : (letters : List LetterRow) (situation : Situation) (mails : ℕ → List ℕ) (who : ℕ) (mail : MemberMail) → situation.mails who ≡ mails who → IsMailOf letters situation who [] mail
      → IsMailOf letters (record situation { mails = mails }) who [] mail
  mail_like letters situation mails who mail same is =
      record { runs = is.runs; letters_are = sym same ∙ is.letters_are; skew = is.skew; small = is.small; fate = is.fate; waits = is.waits; arm = is.arm; sent = is.sent }

  -- a situation with the same mails, each by each
  pub same_mails : (table : Table) (rows : List Row) (world : World D) (situation : Situation) (mails : ℕ → List ℕ) → ((who : ℕ) → situation.mails who ≡ mails who)
      → IsWorldAt view table rows world situation → IsWorldAt view table rows world (record situation { mails = mails })
  same_mails table rows world situation mails same is = record {
    ahead = record {
      at = record { sound = is.ahead.at.sound; behind = is.ahead.at.behind; rest = is.ahead.at.rest; few = is.ahead.at.few; standing = is.ahead.at.standing; since = is.ahead.at.since; bases = is.ahead.at.bases };
      count = is.ahead.count;
      each = λ who member found. let was = is.ahead.each who member found in
          record { mail = mail_like world.book.letters situation mails who member.mail (same who) was.mail; running = was.running; stopped = was.stopped };
      cuts = is.ahead.cuts;
      latest = is.ahead.latest;
    };
    idle = is.idle;
  }

  -- the letters so far have joined the mails
  pub record HasDelivered (first number : ℕ) (old new : World D) : Type 0 where
    pub changes : first ≤ number → Changes view (delivered_to first number) old new
    pub book : new.book ≡ old.book
    pub reach : (number ≡ first) ⊎ (number ≤ length old.book.letters)

  pub delivered_none : (first : ℕ) (world : World D) → HasDelivered first first world world
  delivered_none first world = record {
    changes = λ up table rows situation is.
        same_mails table rows world situation _ (λ who. let e : first - first ≡ 0 = omega arith in rw e (sym (append_nil (situation.mails who)))) is;
    book = refl;
    reach = inl refl;
  }

  pub delivered_next : (first number : ℕ) (old now new : World D) → first ≤ number → number < length old.book.letters → HasDelivered first number old now → Changes view (arrived number) now new
      → new.book ≡ now.book → HasDelivered first (number + 1) old new
  delivered_next first number old now new up below delivered arrives book = record {
    changes = λ up_too table rows situation is.
        same_mails table rows new (arrived number (delivered_to first number situation)) _
        (λ who.
        append_assoc (situation.mails who) (filter (reached situation who) (range_with_len first (number - first))) (arrival_of situation number who)
        ∙ ap (λ more. situation.mails who ++ more)
        (sym (filter_next (reached situation who) (range_with_len first (number - first)) number)
        ∙ ap (filter (reached situation who)) (sym (let e : number + 1 - first ≡ (number - first) + 1 = omega arith in
        let f : first + (number - first) ≡ number = omega arith in
        ap (range_with_len first) e ∙ range_more first (number - first) (first + (number - first)) refl ∙ ap (λ n. range_with_len first (number - first) ++ n ∷ []) f))))
        (arrives table rows (delivered_to first number situation) (delivered.changes up table rows situation is));
    book = book ∙ delivered.book;
    reach = inr (omega arith);
  }
    where
      reached : Situation → ℕ → ℕ → Bool
      reached situation who k = reaches situation who (slice_get situation.standing.posted k)

  ends : (first number total : ℕ) → (number ≡ first) ⊎ (number ≤ total) → total ≤ number → number - first ≡ total - first
  ends first number total (inl none) past = omega arith
  ends first number total (inr some) past = omega arith

  pub delivered_all : (first number : ℕ) (old new : World D) → length old.book.letters ≤ number → HasDelivered first number old new → first ≤ number
      → Changes view (delivered first) old new
  delivered_all first number old new past delivered up = λ table rows situation is.
      same_mails table rows new (delivered_to first number situation) _
      (λ who. ap (λ (n : ℕ). situation.mails who ++ filter (λ k. reaches situation who (slice_get situation.standing.posted k)) (range_with_len first n))
      (ends first number (length old.book.letters) delivered.reach past
      ∙ ap (λ (n : ℕ). n - first) (sym (length-map old.book.letters posted_as) ∙ ap length (is.ahead.at.behind.letters ∙ ap (λ (s : Standing). s.posted) (sym is.ahead.at.standing)))))
      (delivered.changes up table rows situation is)

  pub still_world : (first number : ℕ) (table : Table) (old now : World D) → first ≤ number → HasDelivered first number old now → IsWorld view table old
      → IsWorld view table now
  still_world first number table old now up delivered world =
      record { rows = world.rows; situation = delivered_to first number world.situation; is = delivered.changes up table world.rows world.situation world.is }
