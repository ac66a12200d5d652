-- Why the proofs hold. Names in backquotes are files of this folder and lemmas in them.
--
-- A round of a legal book is a synchronous round:
-- - The letters of a step are at most one to each replica, which hears what was said to it (`PostLemmas`: `one_to`).
-- - A turn of a replica leaves all others as they were, with their mails and the answers that wait for them, and
--   turns of one replica come to what its events come to (`PassLemmas`: `turn_passes`, `pass_join`).
-- - A replica takes its answer, hears the letters of its mail, and its clock ticks; a letter is heard in one way
--   alone (`PartLemmas`: `answers_part`, `hears_part`, `ticks_part`, `takes_part`).
-- - A row that is found under a name has the name, so an answered call has an answer under its name (`NameLemmas`:
--   `under_named`, `made_answer`).
-- - One after another, all have their parts, each from its state and mail at the round's start (`AllLemmas`:
--   `parts_next`, `all_parts`).
-- - Each row may follow in its place, and letters within the limits are heard whole (`BookLemmas`: `all_follow`,
--   `letters_are_whole`).
-- - The letters that join a mail are those that were posted in the round to its replica, in order (`DeliverLemmas`:
--   `letters_join`).
-- - Each replica of a legal book is coherent, so the advice is that of a synchronous round (`ClusterLemmas`: `round_is_synchronous`).
-- - What was posted stays posted, so a prefix of the book is within the limits too, and the next round goes on from
--   it (`RoundsLemmas`: `front_bounds`, `first_round`, `rounds_are_synchronous`).
--
-- One comes to lead in the rounds of a drain:
-- - A replica promises a ballot without a vote only if it has just heard of it (`TakesLemmas`: `step_takes`).
-- - What a replica sends names the ballot that it has promised, or none; a vote is asked for before it is cast; and
--   what was tried stays tried: so each ballot that is promised or said is tried, act by act and turn by turn
--   (`TriedLemmas`: `sends_promised`, `tried_after`, `tried_transitions`, `next_is_new`).
-- - A campaign's turn is that of its acts, its letters join the mails of all others, and it calls nobody
--   (`TurnLemmas`: `campaign_turn`, `campaign_stands`).
-- - A round of a drain is a campaign or none, and a round after it, each a part of the book within its limits
--   (`CampaignRoundLemmas`: `in_two`, `waits_round`, `campaigns_round`).
-- - One that is a candidate after a round has called nobody in it, so no answer waits for it (`CallLemmas`:
--   `candidate_alone`).
-- - The coordinator has learned the most, its ballot is new, and no letter waits: its campaign is a first one
--   (`FirstLemmas`: `first_campaign`).
-- - Each round goes from one of the five situations to the next (`PhaseLemmas`: `from_campaigned`, `from_answered`,
--   `from_yielding`, `from_promised`, `leads_on`).
--
-- One that leads alone becomes idle:
-- - A leader has no turn for a campaign, and if nobody has a turn nothing changes (`DrainLeadLemmas`:
--   `delivers_none`, `goes_round`).
-- - The synchronous round that the round stands for brings the leader's stage nearer to being idle, and a replica has one launch
--   table (`DrainLeadLemmas`: `fewer_left`, `drained`).
-- - In an idle situation it is at the one stage that is free, and so it is idle in rounds (`DrainIdleLemmas`: `idle_at`, `alone_idle`).
-- - It is idle after each round, and after five all have caught up (`DrainIdleLemmas`: `rested_on`, `rests_quietly`).
-- - The others have promised no ballot above the leader's (`DrainIdleLemmas`: `most_promised`).
--
-- A cluster of one:
-- - The replica is a majority by itself: it leads at once in its campaign, and learns what it proposes
--   (`StepLemmas`: `campaign_leads`, `learns_it`).
-- - At a tick its base rises, or it learns an entry that is needed, or it calls for a launch that is open, or it
--   is idle; the number falls in all but the last. An answer that waits is proposed and learned, so the number falls
--   before the tick (`NextLemmas`: `tick_alone`, `ended_leads`, `tick_stays`).
-- - A round of the book is that of its replica, from an empty mail, and leaves its mail empty (`AloneRoundLemmas`:
--   `round_alone`; `AloneBookLemmas`: `drain_is_round`, `round_comes_to`).
-- - A campaign is one turn, which makes no call and sends no letter (`AloneBookLemmas`: `campaign_turn`,
--   `leads_after`).
--
-- Any number of replicas:
-- - There is one replica, or there are more; who leads itself is the one replica of its cluster, number 0
--   (`SettleLeadLemmas`: `one_or_more`, `first_leads`, `leads_on`).
-- - One that was idle some rounds ago leads itself still, or leads alone still (`SettleIdleLemmas`:
--   `rests_either`).
--
-- The whole log is settled:
-- - Nothing is chosen at a leader's prefix or after it: a vote in an older ballot would be among those that bind it,
--   one in its own ballot is below its prefix, and nobody votes above what all have promised (`QuietEndLemmas`:
--   `none_chosen`, `learned_whole`).

pub mod AllLemmas
pub mod AloneBookLemmas
pub mod AloneRoundLemmas
pub mod BookLemmas
pub mod CallLemmas
pub mod ClusterLemmas
pub mod CampaignRoundLemmas
pub mod DeliverLemmas
pub mod DrainLeadLemmas
pub mod DrainIdleLemmas
pub mod FirstLemmas
pub mod NameLemmas
pub mod NextLemmas
pub mod PartLemmas
pub mod PassLemmas
pub mod PhaseLemmas
pub mod PostLemmas
pub mod QuietEndLemmas
pub mod QuietLemmas
pub mod RoundsLemmas
pub mod SettleLeadLemmas
pub mod SettleIdleLemmas
pub mod SomeAlone
pub mod SomeBusy
pub mod SomeCampaignTurns
pub mod SomeDrain
pub mod SomeDrainTurns
pub mod SomeQuietEnd
pub mod SomeIdle
pub mod SomeRound
pub mod SomeSettled
pub mod SomeYield
pub mod StandsLemmas
pub mod StepLemmas
pub mod TakesLemmas
pub mod TriedLemmas
pub mod TurnLemmas
