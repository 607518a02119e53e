pub mod TreeLaws
pub mod WordLaws
pub mod MeetLemmas
pub mod SpelledLaws
pub mod FirstFaults
