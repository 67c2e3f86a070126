pub mod BoundLists
pub mod BoundsView
