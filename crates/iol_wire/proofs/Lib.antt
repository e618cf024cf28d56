mod HearingLemmas
mod LineLemmas
mod NumeralLemmas
mod RunLemmas
mod StepLemmas
mod WordLemmas
