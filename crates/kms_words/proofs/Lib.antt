mod ClapLaws
mod CommandLaws
mod GivenLaws
mod OptionLaws
mod SpellingLaws
mod WiderLaws
