-- Why the proofs hold. Names in backquotes are files of this folder and lemmas in them.
--
-- The way of a launch, from one tick to its end, with the acts of each line:
--
-- | Event | What the leader does | Acts |
-- |---|---|---|
-- | Tick | a start is proposed at the prefix, voted for, and sent to all | Propose, Send Others (Accept ..) |
-- | Hear Accepted | a majority has voted, so the start is learned and sent to all; the launch is open | Count, Learn, Send (Known ..) |
-- | Tick | the launch table asks for the call of a launch that is open | Call |
-- | Answer | the end that the scheduler has answered is proposed | Propose, Send Others (Accept ..) |
-- | Hear Accepted | the end is chosen and learned; the launch is closed | Count, Learn, Send Others (Known ..) |
--
-- The others vote at the Accept (Cast) and learn at the Known (Learn). One that finds a gap asks for the entries
-- between (AskFrom). At a tick a replica that has learned 64 entries or more since its base puts its launch table in
-- their place (Rebase); one that asks for what lies below another's base is sent that one's launch table (Snap), and
-- takes it. A leader that no vote binds and whose table asks for nothing says that it leads (Lead), so that the others
-- see what they lack.
--
-- A step is planned on the side, and all memory is taken; then it is made, which needs none:
--
--   plan:      begin -> campaign | tick | hear each packet | answer -> a draft       the replica stays as it is
--                         each verb goes on by its acts (`drafted`, `done`)
--              letters of the draft, one to each replica; room is reserved           out of memory, or a refusal
--   (the caller stores `Planned::delta`)
--   complete:  the change -> acceptor; learned entries -> learner, launch table; the term, and what was seen

pub mod CountLemmas
pub mod HearLemmas
pub mod LeadLemmas
pub mod LearnLemmas
pub mod LineLemmas
pub mod OnceLemmas
pub mod OutcomeLemmas
pub mod PlanLemmas
pub mod SnapLemmas
pub mod SteadyLemmas
pub mod StepLemmas
pub mod StoreLemmas
pub mod TableLemmas
pub mod TakenLemmas
pub mod WholeLemmas
