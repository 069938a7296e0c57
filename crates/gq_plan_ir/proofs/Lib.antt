pub mod ViewLaws
pub mod CrossingLemmas
pub mod RenamedLaws
mod WorkedPlans
