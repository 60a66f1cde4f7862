mod CalendarLemmas
mod FormLemmas
pub mod IdLemmas
pub mod LinkLemmas
mod MomentLemmas
mod NumberLemmas
mod ReadLemmas
pub mod RoundLemmas
pub mod TimeGrammarLemmas
pub mod TimeLemmas
pub mod TimeRoundLemmas
