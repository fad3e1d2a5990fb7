pub mod ExportLaws
pub mod PlainLaws
