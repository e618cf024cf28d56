pub mod ParameterLemmas
pub mod Scripts
pub mod SimLemmas
pub mod SimRuns
pub mod TallyLemmas
