pub mod SoundSteps
pub mod TypedLemmas
mod MisfitSteps
