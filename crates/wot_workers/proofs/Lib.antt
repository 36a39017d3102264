pub mod PieceSizes
