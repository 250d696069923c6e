pub mod CodecLaws
pub mod LayoutLaws
pub mod GrowthLaws
pub mod ReadingLaws
pub mod SoundLaws
pub mod JournalLaws
