pub mod HostLemmas
pub mod EndLemmas
pub mod DottedLemmas
pub mod AlignedLemmas
pub mod FirstLemmas
pub mod IntegerLemmas
pub mod EntryLemmas
pub mod LabelLemmas
