pub mod BoundLaws
pub mod ColumnLaws
pub mod SeenLaws
pub mod ChartLaws
