pub mod WrittenLaws
pub mod SequenceLaws
pub mod SumLaws
