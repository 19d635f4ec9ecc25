mod Lowered
pub mod FileNameLemmas
mod LastPart
pub mod MapLemmas
pub mod PagesLemmas
pub mod SlotsLemmas
pub mod FormatLemmas
pub mod ManyLemmas
pub mod TimesLoop
pub mod Ordered
