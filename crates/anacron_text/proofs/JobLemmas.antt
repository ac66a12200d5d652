-- Lines that are jobs.
use Rattle.std.proofs.Common.{◌≡◌, ◌⊎◌, ℕ, ◌+◌, ◌≤◌, List, [], ◌∷◌, ◌++◌, length, refl, ap, ◌∙◌, sym, subst, inl, inr, arith, length-append, append_assoc, Option, Some, None, IsNone, IfSome, IfNone}
use Rattle.std.proofs.lemmas.List.{append-nil}
use Rattle.crontab_text.specs.Blanks.{SkipsBlanks, IsFirstWord}
use Rattle.crontab_text.specs.Tail.{IsCommand, IsBadCommand, EndsWithCommand, IsCommandFault}
use Rattle.crontab_text.proofs.BlankLemmas.{same_word}
use Rattle.crontab_text.proofs.TotalLemmas.{some_word, some_command}
use Rattle.crontab_text.proofs.UniqueLemmas.{SameFault, same_command, command_or_fault, same_command_fault}
use Rattle.anacron_text.specs.Job.{IsPeriod, IsDelay, IsIdentifier, JobWords, BeginsWithWords, added_minutes, IsJob, IsAnacronBadWord, IsPeriodFault, IsDelayFault, IsIdentifierFault, IsAnacronLateFault, IsJobFault}
use Rattle.anacron_text.specs.LineBody.{AnacronJob}
use Rattle.anacron_text.specs.Spaced.{spaced, IsPartWithin}
use Rattle.anacron_text.specs.declared.answer.PeriodWord.{PeriodWord}
use Rattle.anacron_text.specs.declared.settings.Settings.{Settings}
use Rattle.anacron_text.proofs.ChoiceLemmas.{same_number, same_period, number_or_not, period_or_not, identifier_or_not}
use Rattle.anacron_text.proofs.SpacedLemmas.{spaced-length, stands_within, same_read_behind}

abbrev words_of : (period behind_period delay behind_delay identifier tail : List ℕ) → JobWords
words_of p bp d bd i t = record { period = p; behind_period = bp; delay = d; behind_delay = bd; identifier = i; tail = t }

-- a text has three first words, which may be empty
pub same_words : (text : List ℕ) (a b : JobWords) → BeginsWithWords text a → BeginsWithWords text b → a ≡ b
same_words text a b first second =
    let one = same_word text a.period b.period a.behind_period b.behind_period first.first second.first in
    let two = same_word b.behind_period a.delay b.delay a.behind_delay b.behind_delay (subst (λ t. IsFirstWord t a.delay a.behind_delay) one.1 first.second) second.second in
    let three = same_word b.behind_delay a.identifier b.identifier a.tail b.tail (subst (λ t. IsFirstWord t a.identifier a.tail) two.1 first.third) second.third in
    by_parts one.0 one.1 two.0 two.1 three.0 three.1
  where
    by_parts : a.period ≡ b.period → a.behind_period ≡ b.behind_period → a.delay ≡ b.delay → a.behind_delay ≡ b.behind_delay → a.identifier ≡ b.identifier → a.tail ≡ b.tail → a ≡ b
    by_parts p bp d bd i t =
        ap (λ x. words_of x a.behind_period a.delay a.behind_delay a.identifier a.tail) p
        ∙ (ap (λ x. words_of b.period x a.delay a.behind_delay a.identifier a.tail) bp
        ∙ (ap (λ x. words_of b.period b.behind_period x a.behind_delay a.identifier a.tail) d
        ∙ (ap (λ x. words_of b.period b.behind_period b.delay x a.identifier a.tail) bd
        ∙ (ap (λ x. words_of b.period b.behind_period b.delay b.behind_delay x a.tail) i
        ∙ ap (words_of b.period b.behind_period b.delay b.behind_delay b.identifier) t))))

pub some_words : (text : List ℕ) → (words : JobWords) × BeginsWithWords text words
some_words text =
    let (period, behind_period, first) = some_word text in
    let (delay, behind_delay, second) = some_word behind_period in
    let (identifier, tail, third) = some_word behind_delay in (
      record { period = period; behind_period = behind_period; delay = delay; behind_delay = behind_delay; identifier = identifier; tail = tail },
      record { first = first; second = second; third = third },
    )

abbrev job_of_parts : PeriodWord → (delay added first_hour last_hour : ℕ) → (identifier command : List ℕ) → AnacronJob
job_of_parts p d a f l i c = record { period = p; delay = d; added = a; first_hour = f; last_hour = l; identifier = i; command = c }

-- a text is one job
pub same_job : (settings : Settings) (text : List ℕ) (a b : AnacronJob) → IsJob settings text a → IsJob settings text b → a ≡ b
same_job settings text a b first second =
    let words = same_words (spaced text) first.words second.words first.begins second.begins in
    let period : a.period ≡ b.period = same_period second.words.period a.period b.period (subst (λ w. IsPeriod w.period a.period) words first.period_is) second.period_is in
    let delay : a.delay ≡ b.delay = same_number 0 9999 second.words.delay a.delay b.delay (omega arith) (subst (λ w. IsDelay w.delay a.delay) words first.delay_is) second.delay_is in
    let identifier : a.identifier ≡ b.identifier = first.same_identifier ∙ (ap (λ w. w.identifier) words ∙ sym second.same_identifier) in
    let read = same_command second.words.tail (spaced a.command) (spaced b.command) (subst (λ w. EndsWithCommand w.tail (spaced a.command)) words first.ends) second.ends in
    let command : a.command ≡ b.command = same_read_behind text a.command b.command first.stands second.stands read in
    let added : a.added ≡ b.added = first.added_is ∙ (ap (added_minutes settings) identifier ∙ sym second.added_is) in
    let low : a.first_hour ≡ b.first_hour = first.first_hour_is ∙ sym second.first_hour_is in
    let high : a.last_hour ≡ b.last_hour = first.last_hour_is ∙ sym second.last_hour_is in
    ap (λ x. job_of_parts x a.delay a.added a.first_hour a.last_hour a.identifier a.command) period
    ∙ (ap (λ x. job_of_parts b.period x a.added a.first_hour a.last_hour a.identifier a.command) delay
    ∙ (ap (λ x. job_of_parts b.period b.delay x a.first_hour a.last_hour a.identifier a.command) added
    ∙ (ap (λ x. job_of_parts b.period b.delay b.added x a.last_hour a.identifier a.command) low
    ∙ (ap (λ x. job_of_parts b.period b.delay b.added b.first_hour x a.identifier a.command) high
    ∙ (ap (λ x. job_of_parts b.period b.delay b.added b.first_hour b.last_hour x a.command) identifier
    ∙ ap (job_of_parts b.period b.delay b.added b.first_hour b.last_hour b.identifier) command)))))

-- what may be wrong with a job's words
abbrev Fault : JobWords → (cause left : ℕ) → Type 0
Fault words cause left =
    IsPeriodFault words cause left ⊎ (IsDelayFault words cause left ⊎ (IsIdentifierFault words cause left ⊎ IsAnacronLateFault words cause left))

-- or has a fault
pub job_or_fault : (settings : Settings) (text : List ℕ) (job : AnacronJob) (c l : ℕ) → IsJob settings text job → IsJobFault text c l → ⊥
job_or_fault settings text job c l is fault =
    let words = same_words (spaced text) is.words fault.words is.begins fault.begins in
    let period : IsPeriod fault.words.period job.period = subst (λ w. IsPeriod w.period job.period) words is.period_is in
    let delay : IsDelay fault.words.delay job.delay = subst (λ w. IsDelay w.delay job.delay) words is.delay_is in
    let identifier : IsIdentifier fault.words.identifier = subst (λ w. IsIdentifier w.identifier) words is.identifier_is in
    let ends : EndsWithCommand fault.words.tail (spaced job.command) = subst (λ w. EndsWithCommand w.tail (spaced job.command)) words is.ends in
    by_fault fault.words fault.fault period delay identifier ends
  where
    by_fault : (words : JobWords) → Fault words c l → IsPeriod words.period job.period → IsDelay words.delay job.delay → IsIdentifier words.identifier → EndsWithCommand words.tail (spaced job.command) → ⊥
    by_fault words (inl bad) period delay identifier ends = bad.bad job.period period
    by_fault words (inr (inl bad)) period delay identifier ends = bad.bad job.delay delay
    by_fault words (inr (inr (inl bad))) period delay identifier ends = bad.bad identifier
    by_fault words (inr (inr (inr late))) period delay identifier ends = command_or_fault words.tail (spaced job.command) c l ends late.is

same_bad_word : (word : List ℕ) (here rule c d l m : ℕ) → IsAnacronBadWord word here rule c l → IsAnacronBadWord word here rule d m → SameFault c d l m
same_bad_word word here rule c d l m (inl p) (inl q) = (p.1 ∙ sym q.1, p.2 ∙ sym q.2)
same_bad_word word here rule c d l m (inl p) (inr q) = absurd (omega (arith, q.0, ap length p.0))
same_bad_word word here rule c d l m (inr p) (inl q) = absurd (omega (arith, p.0, ap length q.0))
same_bad_word word here rule c d l m (inr p) (inr q) = (p.1 ∙ sym q.1, p.2 ∙ sym q.2)

same_fault : (words : JobWords) (c d l m : ℕ) → Fault words c l → Fault words d m → SameFault c d l m
same_fault words c d l m (inl p) (inl q) = same_bad_word words.period _ 16 c d l m p.is q.is
same_fault words c d l m (inl p) (inr (inl q)) = absurd (p.bad q.period q.is_period)
same_fault words c d l m (inl p) (inr (inr (inl q))) = absurd (p.bad q.period q.is_period)
same_fault words c d l m (inl p) (inr (inr (inr q))) = absurd (p.bad q.period q.is_period)
same_fault words c d l m (inr (inl p)) (inl q) = absurd (q.bad p.period p.is_period)
same_fault words c d l m (inr (inl p)) (inr (inl q)) = same_bad_word words.delay _ 17 c d l m p.is q.is
same_fault words c d l m (inr (inl p)) (inr (inr (inl q))) = absurd (p.bad q.delay q.is_delay)
same_fault words c d l m (inr (inl p)) (inr (inr (inr q))) = absurd (p.bad q.delay q.is_delay)
same_fault words c d l m (inr (inr (inl p))) (inl q) = absurd (q.bad p.period p.is_period)
same_fault words c d l m (inr (inr (inl p))) (inr (inl q)) = absurd (q.bad p.delay p.is_delay)
same_fault words c d l m (inr (inr (inl p))) (inr (inr (inl q))) = same_bad_word words.identifier _ 18 c d l m p.is q.is
same_fault words c d l m (inr (inr (inl p))) (inr (inr (inr q))) = absurd (p.bad q.is_identifier)
same_fault words c d l m (inr (inr (inr p))) (inl q) = absurd (q.bad p.period p.is_period)
same_fault words c d l m (inr (inr (inr p))) (inr (inl q)) = absurd (q.bad p.delay p.is_delay)
same_fault words c d l m (inr (inr (inr p))) (inr (inr (inl q))) = absurd (q.bad p.is_identifier)
same_fault words c d l m (inr (inr (inr p))) (inr (inr (inr q))) = same_command_fault words.tail c d l m p.is q.is

pub same_job_fault : (text : List ℕ) (c d l m : ℕ) → IsJobFault text c l → IsJobFault text d m → SameFault c d l m
same_job_fault text c d l m first second =
    let words = same_words (spaced text) first.words second.words first.begins second.begins in
    same_fault second.words c d l m (subst (λ w. Fault w c l) words first.fault) second.fault

-- a word that is none of its kind is missing or at fault
bad_word : (word : List ℕ) (here rule : ℕ) → (cause : ℕ) × (left : ℕ) × IsAnacronBadWord word here rule cause left
bad_word [] here rule = (10, 0, inl (refl, refl, refl))
bad_word (c ∷ cs) here rule = (rule, here, inr (omega arith, refl, refl))

-- what is read at the end of a text is written there
pub written_at_end : (text read front : List ℕ) → spaced text ≡ front ++ read → (part : List ℕ) × (spaced part ≡ read) × IsPartWithin text part (length part)
written_at_end text read [] parts = (text, parts, record { before = []; after = []; parts = sym (append-nil text); left_is = omega arith })
written_at_end [] read (f ∷ front) parts = cc
written_at_end (c ∷ cs) read (f ∷ front) parts =
    let tail : spaced cs ≡ front ++ read = cc in
    let (part, is, stands) = written_at_end cs read front tail in
    (part, is, record { before = c ∷ stands.before; after = stands.after; parts = ap (λ t. c ∷ t) stands.parts; left_is = stands.left_is })

-- a text is a job, or has a fault
pub some_job : (settings : Settings) (text : List ℕ) → ((job : AnacronJob) × IsJob settings text job) ⊎ ((cause : ℕ) × (left : ℕ) × IsJobFault text cause left)
some_job settings text =
    let (words, begins) = some_words (spaced text) in
    elim (period_or_not words.period) [
      | inr none ↦
          let (cause, left, is) = bad_word words.period (length words.period + length words.behind_period) 16 in
          inr (cause, left, record { words = words; begins = begins; fault = inl (record { bad = none; is = is }) })
      | inl (period, is_period) ↦ elim (number_or_not 0 9999 words.delay) [
        | inr none ↦
            let (cause, left, is) = bad_word words.delay (length words.delay + length words.behind_delay) 17 in
            inr (cause, left, record { words = words; begins = begins; fault = inr (inl (record { period = period; is_period = is_period; bad = none; is = is })) })
        | inl (delay, is_delay) ↦ elim (identifier_or_not words.identifier) [
          | inr none ↦
              let (cause, left, is) = bad_word words.identifier (length words.identifier + length words.tail) 18 in
              inr (cause, left, record { words = words; begins = begins; fault = inr (inr (inl (record { period = period; delay = delay; is_period = is_period; is_delay = is_delay; bad = none; is = is }))) })
          | inl is_identifier ↦ elim (some_command words.tail) [
            | inr (cause, left, fault) ↦
                inr (cause, left, record { words = words; begins = begins; fault = inr (inr (inr (record { period = period; delay = delay; is_period = is_period; is_delay = is_delay; is_identifier = is_identifier; is = fault }))) })
            | inl (read, ends) ↦ inl (job_of words begins period delay is_period is_delay is_identifier read ends)
          ]
        ]
      ]
    ]
  where
    -- where the command begins in the text with spaces
    front_of : (words : JobWords) → BeginsWithWords (spaced text) words → (read : List ℕ) → SkipsBlanks words.tail read → (front : List ℕ) × (spaced text ≡ front ++ read)
    front_of words begins read skips = (
      begins.first.skips.blanks ++ (words.period ++ (begins.second.skips.blanks ++ (words.delay ++ (begins.third.skips.blanks ++ (words.identifier ++ skips.blanks))))),
      begins.first.skips.parts ∙ (ap (λ t. begins.first.skips.blanks ++ t) (begins.first.cut.parts ∙ ap (λ t. words.period ++ t)
          (begins.second.skips.parts ∙ ap (λ t. begins.second.skips.blanks ++ t) (begins.second.cut.parts ∙ ap (λ t. words.delay ++ t)
          (begins.third.skips.parts ∙ ap (λ t. begins.third.skips.blanks ++ t) (begins.third.cut.parts ∙ ap (λ t. words.identifier ++ t) skips.parts))))) ∙ simp append_assoc),
    )

    job_of : (words : JobWords) → BeginsWithWords (spaced text) words → (period : PeriodWord) (delay : ℕ) → IsPeriod words.period period → IsDelay words.delay delay → IsIdentifier words.identifier
        → (read : List ℕ) → EndsWithCommand words.tail read → (job : AnacronJob) × IsJob settings text job
    job_of words begins period delay is_period is_delay is_identifier read ends =
        let (front, parts) = front_of words begins read ends.skips in
        let (command, is, stands) = written_at_end text read front parts in (
          record {
            period = period;
            delay = delay;
            added = added_minutes settings words.identifier;
            first_hour = settings.first_hour;
            last_hour = settings.last_hour;
            identifier = words.identifier;
            command = command;
          },
          record {
            words = words;
            begins = begins;
            period_is = is_period;
            delay_is = is_delay;
            identifier_is = is_identifier;
            same_identifier = refl;
            ends = subst (EndsWithCommand words.tail) (sym is) ends;
            stands = stands;
            added_is = refl;
            first_hour_is = refl;
            last_hour_is = refl;
          },
        )

-- a word's bytes to the end of the line, as they are written and as they are read
pub bad_word_read : (word after : List ℕ) (here rule cause left : ℕ) → here ≡ length word + length after → IsAnacronBadWord word here rule cause left → IsAnacronBadWord word (length word + length (spaced after)) rule cause left
bad_word_read word after here rule cause left is bad =
    subst (λ n. IsAnacronBadWord word n rule cause left) (is ∙ ap (λ n. length word + n) (sym (spaced-length after))) bad

-- a fault stands within its text
pub job_fault_within : (text : List ℕ) (cause left : ℕ) → IsJobFault text cause left → left ≤ length text
job_fault_within text cause left fault = by_fault fault.words fault.begins fault.fault
  where
    size : (words : JobWords) → BeginsWithWords (spaced text) words → (length words.period + length words.behind_period ≤ length text) × (length words.delay + length words.behind_delay ≤ length text) × (length words.identifier + length words.tail ≤ length text)
    size words begins =
        let all = spaced-length text in
        let a = ap length begins.first.skips.parts ∙ length-append begins.first.skips.blanks begins.first.rest in
        let b = ap length begins.first.cut.parts ∙ length-append words.period words.behind_period in
        let c = ap length begins.second.skips.parts ∙ length-append begins.second.skips.blanks begins.second.rest in
        let d = ap length begins.second.cut.parts ∙ length-append words.delay words.behind_delay in
        let e = ap length begins.third.skips.parts ∙ length-append begins.third.skips.blanks begins.third.rest in
        let f = ap length begins.third.cut.parts ∙ length-append words.identifier words.tail in
        (omega arith, omega arith, omega arith)

    bad_within : (word : List ℕ) (here rule : ℕ) → here ≤ length text → IsAnacronBadWord word here rule cause left → left ≤ length text
    bad_within word here rule within (inl none) = omega (arith, none.2)
    bad_within word here rule within (inr bad) = omega (arith, bad.2)

    command_within : (tail : List ℕ) → length tail ≤ length text → IsCommandFault tail cause left → left ≤ length text
    command_within tail within fault =
        let parts = ap length fault.skips.parts ∙ length-append fault.skips.blanks fault.command in
        elim fault.is as (λ _. left ≤ length text) [
          | inl none ↦ omega (arith, none.2)
          | inr long ↦ omega (arith, long.2)
        ]

    by_fault : (words : JobWords) → BeginsWithWords (spaced text) words → Fault words cause left → left ≤ length text
    by_fault words begins (inl bad) = let all = size words begins in bad_within words.period _ 16 all.0 bad.is
    by_fault words begins (inr (inl bad)) = let all = size words begins in bad_within words.delay _ 17 all.1 bad.is
    by_fault words begins (inr (inr (inl bad))) = let all = size words begins in bad_within words.identifier _ 18 all.2 bad.is
    by_fault words begins (inr (inr (inr late))) = let all = size words begins in let tail : length words.tail ≤ length text = omega (arith, all.2) in command_within words.tail tail late.is

-- the first fault of a job, by its words as they are written
pub period_fault : (text period delay identifier after_period after_delay tail : List ℕ) (here cause left : ℕ)
    → IsFirstWord (spaced text) period (spaced after_period) → IsFirstWord (spaced after_period) delay (spaced after_delay) → IsFirstWord (spaced after_delay) identifier (spaced tail)
    → ((p : PeriodWord) → IsPeriod period p → ⊥) → here ≡ length period + length after_period → IsAnacronBadWord period here 16 cause left → IsJobFault text cause left
period_fault text period delay identifier after_period after_delay tail here cause left one two three none size bad = record {
  words = record { period = period; behind_period = spaced after_period; delay = delay; behind_delay = spaced after_delay; identifier = identifier; tail = spaced tail };
  begins = record { first = one; second = two; third = three };
  fault = inl (record { bad = none; is = bad_word_read period after_period here 16 cause left size bad });
}

pub delay_fault : (text period delay identifier after_period after_delay tail : List ℕ) (p : PeriodWord) (here cause left : ℕ)
    → IsFirstWord (spaced text) period (spaced after_period) → IsFirstWord (spaced after_period) delay (spaced after_delay) → IsFirstWord (spaced after_delay) identifier (spaced tail)
    → IsPeriod period p → ((n : ℕ) → IsDelay delay n → ⊥) → here ≡ length delay + length after_delay → IsAnacronBadWord delay here 17 cause left → IsJobFault text cause left
delay_fault text period delay identifier after_period after_delay tail p here cause left one two three is_period none size bad = record {
  words = record { period = period; behind_period = spaced after_period; delay = delay; behind_delay = spaced after_delay; identifier = identifier; tail = spaced tail };
  begins = record { first = one; second = two; third = three };
  fault = inr (inl (record { period = p; is_period = is_period; bad = none; is = bad_word_read delay after_delay here 17 cause left size bad }));
}

pub identifier_fault : (text period delay identifier after_period after_delay tail : List ℕ) (p : PeriodWord) (n here cause left : ℕ)
    → IsFirstWord (spaced text) period (spaced after_period) → IsFirstWord (spaced after_period) delay (spaced after_delay) → IsFirstWord (spaced after_delay) identifier (spaced tail)
    → IsPeriod period p → IsDelay delay n → (IsIdentifier identifier → ⊥) → here ≡ length identifier + length tail → IsAnacronBadWord identifier here 18 cause left → IsJobFault text cause left
identifier_fault text period delay identifier after_period after_delay tail p n here cause left one two three is_period is_delay none size bad = record {
  words = record { period = period; behind_period = spaced after_period; delay = delay; behind_delay = spaced after_delay; identifier = identifier; tail = spaced tail };
  begins = record { first = one; second = two; third = three };
  fault = inr (inr (inl (record { period = p; delay = n; is_period = is_period; is_delay = is_delay; bad = none; is = bad_word_read identifier tail here 18 cause left size bad })));
}

-- a command at fault is at fault as it is read
bad_command_read : (command : List ℕ) (cause left : ℕ) → IsBadCommand command cause left → IsBadCommand (spaced command) cause left
bad_command_read command cause left (inl none) = inl (ap spaced none.0, none.1, none.2)
bad_command_read command cause left (inr long) =
    let size = spaced-length command in
    let many = long.0 in
    let left_is = long.2 in
    inr (omega arith, long.1, omega arith)

pub command_fault : (text period delay identifier after_period after_delay tail command : List ℕ) (p : PeriodWord) (n cause left : ℕ)
    → IsFirstWord (spaced text) period (spaced after_period) → IsFirstWord (spaced after_period) delay (spaced after_delay) → IsFirstWord (spaced after_delay) identifier (spaced tail)
    → IsPeriod period p → IsDelay delay n → IsIdentifier identifier → SkipsBlanks (spaced tail) (spaced command) → IsBadCommand command cause left → IsJobFault text cause left
command_fault text period delay identifier after_period after_delay tail command p n cause left one two three is_period is_delay is_identifier skips bad = record {
  words = record { period = period; behind_period = spaced after_period; delay = delay; behind_delay = spaced after_delay; identifier = identifier; tail = spaced tail };
  begins = record { first = one; second = two; third = three };
  fault = inr (inr (inr (record {
    period = p;
    delay = n;
    is_period = is_period;
    is_delay = is_delay;
    is_identifier = is_identifier;
    is = record { command = spaced command; skips = skips; is = bad_command_read command cause left bad };
  })));
}

-- a command is one as it is read
command_read : (command : List ℕ) → IsCommand command → IsCommand (spaced command)
command_read command is =
    let size = spaced-length command in
    let some = is.some in
    let short = is.short in
    record { some = omega arith; short = omega arith }

-- a job, by the steps that find it
pub job_from_steps : (settings : Settings) (text period delay identifier after_period after_delay tail named command : List ℕ) (p : PeriodWord) (n added : ℕ)
    → IsFirstWord (spaced text) period (spaced after_period) → IsFirstWord (spaced after_period) delay (spaced after_delay) → IsFirstWord (spaced after_delay) identifier (spaced tail)
    → IsPartWithin text after_period (length after_period) → IsPartWithin after_period after_delay (length after_delay) → IsPartWithin after_delay tail (length tail) → IsPartWithin tail command (length command)
    → IsPeriod period p → IsDelay delay n → IsIdentifier identifier → named ≡ identifier → added ≡ added_minutes settings named
    → SkipsBlanks (spaced tail) (spaced command) → IsCommand command
    → IsJob settings text (record {
      period = p;
      delay = n;
      added = added;
      first_hour = settings.first_hour;
      last_hour = settings.last_hour;
      identifier = named;
      command = command;
    })
job_from_steps settings text period delay identifier after_period after_delay tail named command p n added one two three stands_one stands_two stands_three stands is_period is_delay is_identifier same_identifier added_is skips is_command = record {
  words = record { period = period; behind_period = spaced after_period; delay = delay; behind_delay = spaced after_delay; identifier = identifier; tail = spaced tail };
  begins = record { first = one; second = two; third = three };
  period_is = is_period;
  delay_is = is_delay;
  identifier_is = is_identifier;
  same_identifier = same_identifier;
  ends = record { skips = skips; is = command_read command is_command };
  stands = stands_within text tail command (length command)
      (stands_within text after_delay tail (length tail) (stands_within text after_period after_delay (length after_delay) stands_one stands_two) stands_three) stands;
  added_is = added_is;
  first_hour_is = refl;
  last_hour_is = refl;
}

-- what was read from a word, and a word from which nothing was
pub read_value : {T : Type 0} (P : T → Type 0) {r : Option T} {x : T} → r ≡ Some x → IfSome r P → P x
read_value P is some = subst (λ o. IfSome o P) is some

pub read_none : {T : Type 0} {P : Type 0} (r : Option T) → IsNone r → IfNone r P → P
read_none None none p = p
read_none (Some x) none p = cc
