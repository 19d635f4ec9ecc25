pub mod CatalogLemmas
pub mod ViewLemmas
pub mod MapLemmas
pub mod ChangeLemmas
pub mod CallerLemmas
