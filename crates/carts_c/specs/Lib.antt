-- What a title search answers, as C sees it.
pub mod Search
