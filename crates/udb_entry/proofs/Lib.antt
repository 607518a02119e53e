pub mod AnswerLemmas
pub mod GivenLaws
pub mod ReadLemmas
