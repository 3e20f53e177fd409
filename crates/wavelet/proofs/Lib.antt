pub mod Strings
pub mod Pruned
pub mod Merging
pub mod Trees
pub mod Nodes
pub mod Visits
pub mod Rows
pub mod Cursors
pub mod Aligned
pub mod Ends
pub mod Walking
pub mod Exact
pub mod Sides
pub mod Depth
pub mod Answering
mod Computed
