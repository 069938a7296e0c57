pub mod DayLemmas
pub mod MomentLemmas
pub mod NumberLemmas
pub mod AddingLemmas
pub mod ReadingLemmas
pub mod GregorianLaws
