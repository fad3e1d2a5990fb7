pub mod EscapeLaws
pub mod DecimalLaws
pub mod PieceLaws
mod Examples
