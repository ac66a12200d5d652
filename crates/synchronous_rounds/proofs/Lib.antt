-- Why the proofs hold. Names in backquotes are files of this folder and lemmas in them.
--
-- A leader becomes idle:
-- - What leaves a replica without a campaign names no ballot above its promise, and sends no entry and no launch
--   table but of slots below its prefix (`SendLemmas`: `act_rises`, `letters_within`).
-- - A replica that follows and hears such letters follows on, and learns no more than the leader has; a launch table
--   that it takes, or puts in the place of entries, leaves its prefix at most there (`FollowerLemmas`:
--   `behind_line`, `behind_round`).
-- - A leader that hears them keeps its term, its launch table, its prefix and its base, so one leads alone after the
--   round (`LeaderLemmas`: `hold_line`; `LedAloneLemmas`: `led_alone_next`).
-- - A base is at most its replica's prefix, and this at most the leader's, so no proposal of the leader is below a
--   base: each follower votes, and says so (`FollowerLemmas`: `votes_line`; `MailLemmas`: `accepted_next`).
-- - The leader counts each acceptance, and all are a majority: it learns the entry (`CountLemmas`: `goes_mail`,
--   `all_accept`).
-- - At a tick its base rises if that is due, and its launch table stays; else its flight waits one tick more, or
--   it begins something that is needed (`TickLemmas`: `holds_rebased`, `flight_tick`; `BeginLemmas`: `tick_begins`,
--   `takes_end`; `OutcomeLemmas`: `tick_outcome`).
-- - An entry that takes effect moves a cursor ahead, closes a launch or adopts a version, of which a table has a last
--   one, and a vote below the prefix binds no more, so the work falls with each learned entry; a date, as a number, is
--   below the window's minutes (`WorkLemmas`: `effect_falls`, `learned_work`; `DateLemmas`: `dates_inside`).
-- - If nothing is learned the wait falls (`NearLemmas`: `waits_nearer`, `learned_nearer`, `begun_nearer`).
-- - The rounds of each stage, and the stage after them (`FlightLemmas`: `first_round`, `second_round`; `FreeLemmas`:
--   `free_next`, `answer_next`; `StageLemmas`: `stage_next`).
--
-- One comes to lead:
-- - One campaigns: Its next ballot is above all that it has seen; it is a candidate that none has promised yet, and
--   its campaign is the last letter of each mail (`MadeLemmas`: `above_seen`, `first_made`, `again_made`).
-- - One has campaigned: Each other replica hears one letter, the campaign. A tick and an answer that waits change
--   neither promise nor prefix; a base is at most its replica's prefix, and this at most the candidate's, so none
--   answers with a launch table (`ReplyLemmas`: `tick_steady`, `answers_steady`, `hears_campaign`).
-- - All have answered: Each has promised and follows, or names the higher ballot that it has promised; the
--   candidate's tick comes to nothing, but that its base may rise (`AnswerLemmas`: `replies_round`,
--   `candidate_tick`, `first_answered`).
-- - None has refused: No letter names a higher ballot or sends an entry that the candidate lacks. It counts each
--   promise, and all are a majority: it leads as its clock ticks, and its tick changes neither promise nor prefix
--   (`CandidateLemmas`: `counts_promise`, `competes_mail`, `all_lead`; `DecidedLemmas`: `leads_alone`).
-- - One has refused: Act by act, without a campaign: a term is of no other ballot until a higher one is observed,
--   which ends it; a follower follows on, and what was seen stays seen (`TermLemmas`: `other_act`, `follows_act`,
--   `mail_yields`; `DecidedLemmas`: `second_decides`).
-- - It has yielded: In the first round nobody was asked to accept anything, so no mail of the second has an
--   acceptance, and no proposal is learned in it; a promise is given to a ballot that is named alone (`BoundLemmas`:
--   `campaign_sends_none`, `short_line`; `BoundedRounds`: `second_bounded`; `YieldLemmas`: `campaigns_again`).
-- - Without a campaign: A replica promises a ballot that a letter names, or keeps the promise that it has given: its
--   own proposals are in the ballot that it has promised (`NamedLemmas`: `low_line`, `stands_still`).
-- - It has campaigned again: Before a replica hears the campaign it has promised nothing higher, its base is at most
--   the candidate's prefix, and it learns up to there, or one entry more by its own proposal, which it sends to all;
--   then it has no proposal, so it learns nothing more. So it promises the campaign's ballot (`EarlyLemmas`:
--   `early_line`, `early_mail`; `PromiseLemmas`: `promises_mail`).
-- - All have promised: No letter to the candidate named its ballot, so it is a candidate still (`PromiseLemmas`:
--   `stays_mail`, `third_round`).
-- - It leads: It counts each promise at its prefix; if another is one entry ahead, it learns the entry, or takes
--   the launch table after it, from the same mail, and goes on counting (`NextEntryLemmas`: `tells_of_next`,
--   `may_learn_mail`; `WinLemmas`: `fourth_wins`).
--
-- The others catch up:
-- - A replica that follows doesn't lose what it has learned, whatever it hears that changes nothing of who leads, at
--   its tick, and by a launch table that it takes (`KeepLemmas`: `keeps_line`, `keeps_mail`).
-- - It asks the leader for the entries from its prefix on, once it hears of a prefix after it (`AskLemmas`:
--   `asks_hear`, `asked_next`).
-- - A leader that is asked sends what it has learned from that slot on, or, if its base is above the slot, its
--   launch table and all that it has learned; a second request in one letter is answered by the launch table that
--   was sent for the first (`TellLemmas`: `answers_ask`, `copies_line`, `answers_all`, `told_next`).
-- - Each entry that it is sent in order is learned if it is the next one, and a launch table after its prefix is
--   taken (`LearnLemmas`: `learns_entry`, `takes_table`, `learns_letter`, `learned_next`).
-- - A leader that is idle proposes nothing and calls nothing, so it is idle after the round; its base doesn't rise in
--   two rounds in a row, since its prefix stays (`IdleLemmas`: `idle_begins`, `idle_round`, `all_caught_up`).

pub mod ActLemmas
pub mod AnswerLemmas
pub mod AskLemmas
pub mod BeginLemmas
pub mod BoundLemmas
pub mod BoundedRounds
pub mod CandidateLemmas
pub mod CountLemmas
pub mod DateLemmas
pub mod DecidedLemmas
pub mod EarlyLemmas
pub mod FlightLemmas
pub mod FollowerLemmas
pub mod FreeLemmas
pub mod IdleLemmas
pub mod KeepLemmas
pub mod LeaderLemmas
pub mod LearnLemmas
pub mod Lists
pub mod MadeLemmas
pub mod MailLemmas
pub mod NamedLemmas
pub mod NearLemmas
pub mod NextEntryLemmas
pub mod OutcomeLemmas
pub mod PromiseLemmas
pub mod ReplyLemmas
pub mod RoundLemmas
pub mod LedAloneLemmas
pub mod SendLemmas
pub mod SomeCluster
pub mod SomeCampaign
pub mod SomeIdle
pub mod SomeYield
pub mod StageLemmas
pub mod TellLemmas
pub mod TermLemmas
pub mod TickLemmas
pub mod WinLemmas
pub mod WorkLemmas
pub mod YieldLemmas
