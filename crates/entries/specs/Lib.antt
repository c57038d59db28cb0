pub mod ReadRow
