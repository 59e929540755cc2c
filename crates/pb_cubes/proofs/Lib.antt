pub mod Cover
pub mod Counting
pub mod Ranking
pub mod Numbering
pub mod SplitCover
pub mod FirstLaws
pub mod LeastLaws
