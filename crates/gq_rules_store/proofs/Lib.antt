pub mod KindFits
pub mod ValueFits
pub mod StoreFits
pub mod UpsertFits
pub mod RecordFits
pub mod CatalogFits
pub mod ClockFits
