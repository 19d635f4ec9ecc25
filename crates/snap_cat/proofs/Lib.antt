pub mod CatalogLemmas
