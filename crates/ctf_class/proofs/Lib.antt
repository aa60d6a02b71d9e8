pub mod AlignmentLemmas
pub mod ChoicesLemmas
pub mod EscapesLemmas
mod FrontsLemmas
pub mod HeaderPlanLemmas
pub mod KeysLemmas
pub mod LabelsLemmas
pub mod LayersLemmas
pub mod NamesLemmas
pub mod PlacesLemmas
pub mod RanksLemmas
pub mod RecordsLemmas
pub mod StreamsLemmas
pub mod WordsLemmas
