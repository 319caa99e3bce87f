-- The laws of lines that are sought, kept and put out.
pub mod DrawnLaws
pub mod KeepingLaws
pub mod MeasureLaws
pub mod PuttingLaws
pub mod SearchLaws
pub mod SpanLaws
