mod AttributeLemmas
mod DeniedLemmas
mod CreatedLemmas
mod PlaceLemmas
