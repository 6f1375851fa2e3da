pub mod ReadViews
