pub mod ClauseLaws
pub mod HandleValues
pub mod RawBoxValues
pub mod QuestionLaws
