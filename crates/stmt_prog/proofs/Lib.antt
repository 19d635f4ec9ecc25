pub mod ReadLemmas
pub mod CourseLemmas
pub mod FeedLemmas
pub mod PlanLemmas
pub mod WriteLemmas
pub mod NeedLemmas
mod TellLemmas
mod MadeLemmas
mod GoneLemmas
