pub mod Catalog
