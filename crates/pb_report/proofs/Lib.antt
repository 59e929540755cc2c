pub mod Taking
pub mod Lines
mod SendingLaws
mod WritingLaws
mod PlainWords
mod WrittenWords
mod ReadBack
mod ReadingLaws
mod Numerals
mod Following
mod Accepting
