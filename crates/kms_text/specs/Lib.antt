pub mod Calendar
pub mod IdText
pub mod Link
pub mod Time
pub mod TimeForms
pub mod TimeGrammar
