mod BackLemmas
mod LastLemmas
mod StayLemmas
mod HealLemmas
mod LostLemmas
