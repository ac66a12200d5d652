-- Going over what is sent, and over the replicas that it goes to.
use Rattle.std.proofs.Common.{◌≡◌, ◌≢◌, ℕ, zero, suc, ◌+◌, ◌<◌, ◌≤◌, ◌^◌, true, false, List, [], ◌∷◌, ◌++◌, length, map, take, get_or, refl, sym, ◌∙◌, ap, inl, inr, subst, arith, if◌then◌else◌, append-nil}
use Rattle.std.specs.Prelude.{⊤, IsTrue}
use Rattle.std.specs.List.{AllByRecursion, AllZip, flat_map, range_with_len}
use Rattle.std.proofs.lemmas.Bool.{cases_Bool}
use Rattle.std.proofs.lemmas.List.{flat_map_more, length-append, take_more}
use Rattle.std.proofs.lemmas.List.Concat.{flat_map-append}
use Rattle.paxos_letter.specs.Fields.{FitPacketFields}
use Rattle.paxos_letter.specs.Letters.{Spells}
use Rattle.paxos_letter.specs.Rules.{keeps_kind, keeps_members}
use Rattle.paxos_letter.specs.Spelling.{AllFit, fields_of, packet_bytes, spelling}
use Rattle.paxos_letter.specs.declared.packet.Packet.{Packet}
use Rattle.paxos_letter.specs.declared.packet.Packet.TheVariants as packet
use Rattle.paxos_letter.proofs.CallerLemmas.{BallotsKeep, RowKeeps, keeps_kind-packet, keeps_members-packet}
use Rattle.step_spec.specs.Act.{Act, Send}
use Rattle.step_spec.specs.Folds.{Addressed, letter_of, letters_of, sent_by, sent_to}
use Rattle.step_spec.specs.Heard.{packets_of}
use Rattle.step_spec.specs.Letters.{IsSpelled}
use Rattle.step_spec.specs.Message.{Message, Prepare, Promise, Accept, Accepted, Nack, Known, AskFrom, Snap, Lead, Mention, Whom, goes_to}
use Rattle.step_spec.specs.declared.out.OutLetter.{OutLetter}
use Rattle.replica_draft.specs.Draft.{said_in, said_of, meant}
use Rattle.replica_draft.specs.declared.draft.Sent.{Sent}
use Rattle.replica_draft.specs.Letters.{packets_to, AllKeep, Carry, KeepGroups, HasCursor, HaveCursors, IsInPackets, AreSpoken}
use Rattle.replica_draft.proofs.GroupLemmas.{told_to}
use Rattle.replica_draft.proofs.LetterLemmas.{packets_to-said_of}
use Rattle.step_spec.proofs.Lists.{AllZip-append}
use Rattle.cron_io.proofs.ListLemmas.{all_push, range_more}

-- ---- the packets to one replica

-- packets that go to a replica are spelled behind what was there
pub record Putting (me : ℕ) (packets : List Packet) (before bytes : List ℕ) : Type 0 where
  pub spelled : bytes ≡ before ++ spelling me packets
  pub fits : AllFit me packets
  pub keep : AllKeep me packets

pub Putting-none : (me : ℕ) (before : List ℕ) → Putting me [] before before
Putting-none me before = record { spelled = sym (append-nil before); fits = tt; keep = record { kinds = tt; members_keep = tt } }

to_push : (me member : ℕ) (said : List (Whom × Packet)) (whom : Whom) (packet : Packet) → packets_to me member (said ++ (whom, packet) ∷ []) ≡ packets_to me member said ++ (if goes_to me whom member then packet ∷ [] else [])
to_push me member [] whom packet = elim (cases_Bool (goes_to me whom member)) [ inl goes ↦ rw goes refl | inr other ↦ rw other refl ]
to_push me member (first ∷ said) whom packet =
    elim (cases_Bool (goes_to me first.0 member)) [
      | inl goes ↦ rw goes (ap (λ (packets : List Packet). first.1 ∷ packets) (to_push me member said whom packet))
      | inr other ↦ rw other (to_push me member said whom packet)
    ]

said-push : (sends : List Sent) (sent : Sent) → map said_in (sends ++ sent ∷ []) ≡ map said_in sends ++ (meant sent.target, sent.packet) ∷ []
said-push [] sent = refl
said-push (first ∷ sends) sent = ap (λ (said : List (Whom × Packet)). said_in first ∷ said) (said-push sends sent)

said_more : (sends : List Sent) (at : ℕ) (sent : Sent) → at < length sends → sent ≡ get_or sends at sent → map said_in (take (at + 1) sends) ≡ map said_in (take at sends) ++ (meant sent.target, sent.packet) ∷ []
said_more sends at sent below is =
    ap (map said_in) (take_more sends at sent below ∙ ap (λ (s : Sent). take at sends ++ s ∷ []) (sym is)) ∙ said-push (take at sends) sent

to_more : (me member : ℕ) (sends : List Sent) (at : ℕ) (sent : Sent) → at < length sends → sent ≡ get_or sends at sent
    → packets_to me member (map said_in (take (at + 1) sends)) ≡ packets_to me member (map said_in (take at sends)) ++ (if goes_to me (meant sent.target) member then sent.packet ∷ [] else [])
to_more me member sends at sent below is =
    ap (packets_to me member) (said_more sends at sent below is) ∙ to_push me member (map said_in (take at sends)) (meant sent.target) sent.packet

-- a row's counts have 32 bits
abbrev pub CountsFit : Packet → Type 0
CountsFit (packet.SnapRow slot row) = (row.launched < 2 ^ 32) × (row.voided < 2 ^ 32)
CountsFit other = ⊤

row_keeps : (sent : Packet) → HasCursor sent → CountsFit sent → RowKeeps sent
row_keeps (packet.SnapRow slot row) cursor fit = (cursor, fit.0, fit.1)
row_keeps other cursor fit = tt

-- a packet keeps the rules that packets keep by themselves, as its numbers fit
pub keeps-packet : (me : ℕ) (packet : Packet) → me < 7 → HasCursor packet → BallotsKeep 7 packet → CountsFit packet → AllKeep me (packet ∷ [])
keeps-packet me packet few cursor ballots counts =
    record { kinds = (keeps_kind-packet me packet (row_keeps packet cursor counts), tt); members_keep = (keeps_members-packet 7 me packet few ballots, tt) }

pub cursor_at : (sends : List Sent) (at : ℕ) (sent : Sent) → at < length sends → sent ≡ get_or sends at sent → HaveCursors (map said_in sends) → HasCursor sent.packet
cursor_at [] at sent below is have = absurd (omega arith)
cursor_at (first ∷ sends) zero sent below is have = subst (λ (s : Sent). HasCursor s.packet) (sym is) have.0
cursor_at (first ∷ sends) (suc at) sent below is have = cursor_at sends at sent (omega (arith, below)) is have.1

-- the packet goes there, and was put there
pub Putting-next : (me member : ℕ) (sends : List Sent) (at : ℕ) (sent : Sent) (before now new : List ℕ) → at < length sends → sent ≡ get_or sends at sent
    → goes_to me (meant sent.target) member ≡ true → AllKeep me (sent.packet ∷ []) → FitPacketFields (fields_of me sent.packet) → new ≡ now ++ packet_bytes me sent.packet
    → Putting me (packets_to me member (map said_in (take at sends))) before now → Putting me (packets_to me member (map said_in (take (at + 1) sends))) before new
Putting-next me member sends at sent before now new below is goes keep fit put putting =
    let more = rw goes at (to_more me member sends at sent below is) in
    let there : List Packet = packets_to me member (map said_in (take at sends)) in
    subst (λ (packets : List Packet). Putting me packets before new) (sym more)
    (record {
      spelled = put ∙ ap (λ (bytes : List ℕ). bytes ++ packet_bytes me sent.packet) putting.spelled ∙ flat_map_more (packet_bytes me) before there sent.packet;
      fits = all_push (λ packet. FitPacketFields (fields_of me packet)) there sent.packet putting.fits fit;
      keep = record {
        kinds = all_push (λ packet. IsTrue (keeps_kind (fields_of me packet))) there sent.packet putting.keep.kinds keep.kinds.0;
        members_keep = all_push (λ packet. IsTrue (keeps_members 7 me (fields_of me packet))) there sent.packet putting.keep.members_keep keep.members_keep.0;
      };
    })

-- it goes elsewhere
pub Putting-skip : (me member : ℕ) (sends : List Sent) (at : ℕ) (sent : Sent) (before now : List ℕ) → at < length sends → sent ≡ get_or sends at sent → goes_to me (meant sent.target) member ≡ false
    → Putting me (packets_to me member (map said_in (take at sends))) before now → Putting me (packets_to me member (map said_in (take (at + 1) sends))) before now
Putting-skip me member sends at sent before now below is other putting =
    let more : packets_to me member (map said_in (take (at + 1) sends)) ≡ packets_to me member (map said_in (take at sends)) = rw other at (to_more me member sends at sent below is) ∙ append-nil _ in
    subst (λ (packets : List Packet). Putting me packets before now) (sym more) putting

-- so many packets of what was gone over go to a replica
pub record Counting (me member : ℕ) (sends : List Sent) (at count : ℕ) : Type 0 where
  pub counted : count ≡ length (packets_to me member (map said_in (take at sends)))
  pub low : count ≤ at

pub Counting-none : (me member : ℕ) (sends : List Sent) → Counting me member sends 0 0
Counting-none me member sends = record { counted = refl; low = omega arith }

pub Counting-next : (me member : ℕ) (sends : List Sent) (at count : ℕ) (sent : Sent) → at < length sends → sent ≡ get_or sends at sent → goes_to me (meant sent.target) member ≡ true
    → Counting me member sends at count → Counting me member sends (at + 1) (count + 1)
Counting-next me member sends at count sent below is goes counting =
    let more = rw goes at (to_more me member sends at sent below is) in
    record {
      counted = ap (λ n. n + 1) counting.counted ∙ sym (length-append (packets_to me member (map said_in (take at sends))) (sent.packet ∷ [])) ∙ sym (ap length more);
      low = let low = counting.low in omega (arith, low);
    }

pub Counting-skip : (me member : ℕ) (sends : List Sent) (at count : ℕ) (sent : Sent) → at < length sends → sent ≡ get_or sends at sent → goes_to me (meant sent.target) member ≡ false
    → Counting me member sends at count → Counting me member sends (at + 1) count
Counting-skip me member sends at count sent below is other counting =
    let more = rw other at (to_more me member sends at sent below is) ∙ append-nil _ in
    record {
      counted = counting.counted ∙ sym (ap length more);
      low = let low = counting.low in omega (arith, low);
    }

-- ---- the letters

some_packets : (packets : List Packet) → 0 < length packets → packets ≢ []
some_packets packets some none = let empty : length packets ≡ 0 = ap length none in omega (arith, some, empty)

pub no_packets : (packets : List Packet) (count : ℕ) → count ≡ length packets → count ≤ 0 → packets ≡ []
no_packets [] count is none = refl
no_packets (first ∷ packets) count is none = absurd (omega (arith, is, none))

-- the packets to a replica are a letter, where there are any
pub Spells-to : (me member : ℕ) (said : List (Whom × Packet)) (bytes : List ℕ) → Putting me (packets_to me member said) [] bytes → KeepGroups me said → 0 < length (packets_to me member said)
    → Spells 7 me (packets_to me member said) bytes
Spells-to me member said bytes putting groups some =
    record {
      letter = record {
        some = some_packets (packets_to me member said) some;
        kinds = putting.keep.kinds;
        members_keep = putting.keep.members_keep;
        groups = groups member;
      };
      fits = putting.fits;
      spelled = putting.spelled;
    }

letter_for : (me : ℕ) (acts : List Act) (member : ℕ) → List Addressed
letter_for me acts member = letter_of member (sent_to me member acts)

letters_more : (me member : ℕ) (acts : List Act) → letters_of (record { me = me; members = member + 1 }) acts ≡ letters_of (record { me = me; members = member }) acts ++ letter_of member (sent_to me member acts)
unfolding letter_for
letters_more me member acts =
    let last : range_with_len 0 (member + 1) ≡ range_with_len 0 member ++ member ∷ [] = range_more 0 member member (omega arith) in
    ap (flat_map (letter_for me acts)) last
    ∙ flat_map-append (letter_for me acts) (range_with_len 0 member) (member ∷ [])
    ∙ ap (λ (letters : List Addressed). flat_map (letter_for me acts) (range_with_len 0 member) ++ letters) (append-nil (letter_for me acts member))

one_letter : (me to : ℕ) (messages : List Message) (letter : OutLetter) → flat_map packets_of messages ≢ [] → letter.to ≡ to → Spells 7 me (flat_map packets_of messages) letter.bytes → AllZip (IsSpelled 7 me) (letter_of to messages) (letter ∷ [])
one_letter me to [] letter some is spells = absurd (some refl)
one_letter me to (message ∷ messages) letter some is spells = (record { to = is; spells = spells }, tt)

some_packet : (message : Message) (rest : List Packet) → IsInPackets message → packets_of message ++ rest ≢ []
unfolding packets_of
some_packet (Prepare ballot slot) rest told none = absurd cc
some_packet (Promise ballot slot votes) rest told none = absurd cc
some_packet (Accept vote) rest told none = absurd cc
some_packet (Accepted ballot slot) rest told none = absurd cc
some_packet (Nack ballot promised) rest told none = absurd cc
some_packet (Known slot entry) rest told none = absurd cc
some_packet (AskFrom slot) rest told none = absurd cc
some_packet (Snap slot rows) rest told none = absurd cc
some_packet (Lead ballot slot) rest told none = absurd cc
some_packet (Mention ballot) rest told none = absurd told

no_letter : (me to : ℕ) (messages : List Message) → AllByRecursion IsInPackets messages → flat_map packets_of messages ≡ [] → AllZip (IsSpelled 7 me) (letter_of to messages) []
no_letter me to [] told none = tt
no_letter me to (message ∷ messages) told none = absurd (some_packet message (flat_map packets_of messages) told.0 none)

all_told : (me member : ℕ) (acts : List Act) → AreSpoken acts → AllByRecursion IsInPackets (sent_to me member acts)
unfolding sent_by
all_told me member [] spoken = tt
all_told me member (Send whom message ∷ acts) spoken =
    let rest = all_told me member acts spoken.1 in
    elim (cases_Bool (goes_to me whom member)) [ inl goes ↦ rw goes (spoken.0, rest) | inr other ↦ rw other rest ]
all_told me member (act ∷ acts) spoken = all_told me member acts spoken.1

told_so : (me member : ℕ) (said : List (Whom × Packet)) (acts : List Act) → said ≡ said_of acts → packets_to me member said ≡ told_to me member acts
told_so me member said acts is = ap (packets_to me member) is ∙ packets_to-said_of me member acts

pub Carry-none : (me : ℕ) (said : List (Whom × Packet)) → Carry (record { me = me; members = 0 }) said []
Carry-none me said acts is spoken = tt

pub Carry-next : (me member : ℕ) (said : List (Whom × Packet)) (packets : List Packet) (letters : List OutLetter) (letter : OutLetter) → packets ≡ packets_to me member said → letter.to ≡ member → Spells 7 me packets letter.bytes
    → Carry (record { me = me; members = member }) said letters → Carry (record { me = me; members = member + 1 }) said (letters ++ letter ∷ [])
Carry-next me member said packets letters letter are to spells carry acts is spoken =
    let told : packets ≡ told_to me member acts = are ∙ told_so me member said acts is in
    let spelled = subst (λ (packets : List Packet). Spells 7 me packets letter.bytes) told spells in
    subst (λ (all : List Addressed). AllZip (IsSpelled 7 me) all (letters ++ letter ∷ [])) (sym (letters_more me member acts))
    (AllZip-append (IsSpelled 7 me) (letters_of (record { me = me; members = member }) acts) (letter_of member (sent_to me member acts)) letters (letter ∷ [])
    (carry acts is spoken)
    (one_letter me member (sent_to me member acts) letter spelled.letter.some to spelled))

pub Carry-skip : (me member : ℕ) (said : List (Whom × Packet)) (packets : List Packet) (letters : List OutLetter) → packets ≡ packets_to me member said → packets ≡ []
    → Carry (record { me = me; members = member }) said letters → Carry (record { me = me; members = member + 1 }) said letters
Carry-skip me member said packets letters are none carry acts is spoken =
    let told : packets ≡ told_to me member acts = are ∙ told_so me member said acts is in
    subst (λ (all : List Addressed). AllZip (IsSpelled 7 me) all letters) (sym (letters_more me member acts))
    (subst (λ (rest : List OutLetter). AllZip (IsSpelled 7 me) (letters_of (record { me = me; members = member }) acts ++ letter_of member (sent_to me member acts)) rest) (append-nil letters)
    (AllZip-append (IsSpelled 7 me) (letters_of (record { me = me; members = member }) acts) (letter_of member (sent_to me member acts)) letters []
    (carry acts is spoken)
    (no_letter me member (sent_to me member acts) (all_told me member acts spoken) (sym told ∙ none))))
