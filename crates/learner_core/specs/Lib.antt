pub mod Learner
