pub mod ViewsLemmas
pub mod JoinedLemmas
pub mod KeptLemmas
