pub mod Ballot
pub mod Durable
pub mod EntryFields
pub mod Members
pub mod Packet
pub mod Rows
pub mod Vote
