pub mod Directive
pub mod FirstLine
pub mod Reading
pub mod Scan
pub mod LineEnds
