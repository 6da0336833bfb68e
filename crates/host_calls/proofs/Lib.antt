pub mod WrittenTexts
pub mod ItemLemmas
pub mod ReadLemmas
pub mod OutboxLemmas
