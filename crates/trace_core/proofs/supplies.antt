-- Where frames come from: what a call of the pool leaves, and how its answers lead a run on.
pub mod SupplyLemmas
pub mod AnswerLemmas
pub mod Policies
