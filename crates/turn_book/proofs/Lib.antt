-- Why the proofs hold. Names in backquotes are files of this folder and lemmas in them.
--
-- Turns are taken by tickets, as at a ticket lock. The life of a ticket:
--
--   word 0: next ticket   word 1: ticket served   word 2: rows committed   the slot      the seat
--   next = t              serving = s             count = c                the state     at rest
--      draws: next = t + 1
--   next = t + 1          serving = s <= t        count = c                the state     has ticket t
--      others commit or leave, each hands on
--                         serving = t             count >= c               the state
--      looks: its number is served, so the slot goes out with it
--                         serving = t                                      out, full     has the turn
--      takes the state, which is in the turn (out, empty); commits a row (count + 1); puts the state back (out, full)
--      hands on: serving = t + 1, and the slot is at home again
--                         serving = t + 1                                  the state     at rest
--
-- The rule of a book is what holds between any two of these steps. The words stand for true numbers, modulo 2^64.
--
-- - The tickets that seats have are those from the one that is served up to the next one, each one seat's. Who has the
--   turn has the ticket that is served. The slot is at home unless somebody has the turn, and there it has the state, at
--   rest, with the number of the opening state.
-- - The history is the rows that the book began with and those after them, and it is lawful: each row may follow those
--   before it. The third word counts the rows after the first. Each seat has seen a prefix of the history, and who has the
--   turn all of it. What a seat calls its own are the rows after the first that name its number.
-- - A seat's number is its place among the views, and the first seat counts those that were made. A row after the first
--   names one of these. Each of them still is, or it is spent, and was joined to the first, which keeps what it left.
--
-- Eight kinds of steps keep it: a seat is made, draws a ticket, looks, takes the state, commits a row, puts the state
-- back, hands on, and is joined to the first. That a ticket is ever served is no promise, nor that two threads run at
-- once.

pub mod CallerLemmas
pub mod CloseLemmas
pub mod EndLemmas
pub mod HandLemmas
pub mod KeptLemmas
pub mod LineLemmas
pub mod SeatLemmas
pub mod SeatListLemmas
pub mod RowLemmas
pub mod ViewLemmas
